-- What showing the levels of a part of a collection writes.
use Rattle.std.specs.Prelude.{◌≡◌, ℕ, suc, ◌==◌, ◌||◌, ◌&&◌, nat_le, nat_lt, if◌then◌else◌, Bool, true, false, cond, not}
use Rattle.std.specs.Prelude.{List, [], ◌∷◌, ◌++◌, length, flat_map, Result, Ok, Err, is_ok, codes}
use Rattle.std.specs.List.{list_any}
use Rattle.grid.specs.Board.{Board}
use Rattle.grid.specs.declared.fault.LevelFault.{LevelFault}
use Rattle.xsb.specs.Written.{written}
use Rattle.sokopar.specs.Listing.{Listed, IsLevelListing}
use Rattle.sokopar.specs.Report.{Report, check_line, line, named, no_level}

-- each line of some bytes has a wall, if also the bytes before in the first line may have one
abbrev pub has_walls : Bool → List ℕ → Bool
has_walls wall [] = true
has_walls wall (b ∷ bytes) =
    cond (b == 10) (wall && has_walls false bytes) (has_walls (wall || (b == 35)) bytes)

-- the rows of a board as lines; if one of them has no wall, all in one line, with a space and a bar after each
abbrev pub shown_rows : Board → List ℕ
shown_rows board =
    if has_walls false (written board) then written board else
    line (flat_map (λ b. cond (b == 10) (codes " |") (b ∷ [])) (written board))

-- a name as a line before its level; the space after a name with a carriage return keeps that from being cut off
abbrev pub name_line : List ℕ → List ℕ
name_line name = line (codes ";" ++ named name ++ cond (list_any (λ b. b == 13) name) (codes " ") [])

-- what is written of level n by its board: its name, its rows and an empty line; of a faulty one the line of `check`, as
-- a comment
abbrev pub shown_level : Result Board LevelFault → ℕ → Listed → List ℕ
shown_level (Ok board) n listed = name_line listed.name ++ shown_rows board ++ line []
shown_level (Err fault) n listed = codes "; " ++ check_line n listed

-- what is written of levels with numbers in a range, both ends included; the first of them has number n
abbrev pub shown_levels : ℕ → ℕ → ℕ → List Listed → List ℕ
shown_levels from to n [] = []
shown_levels from to n (listed ∷ listing) =
    cond (nat_le from n && nat_le n to) (shown_level listed.board n listed) [] ++ shown_levels from to (suc n) listing

-- one of these levels is faulty
abbrev pub has_fault : ℕ → ℕ → ℕ → List Listed → Bool
has_fault from to n [] = false
has_fault from to n (listed ∷ listing) =
    ((nat_le from n && nat_le n to) && not (is_ok listed.board)) || has_fault from to (suc n) listing

-- the report of showing the levels of these bytes with numbers in a range; good if none of them is faulty
abbrev pub IsRangeReport : ℕ → ℕ → List ℕ → Report → Type 0
IsRangeReport from to bytes report =
    (listing : List Listed) × IsLevelListing bytes listing ×
    (report ≡ (if nat_lt (length listing) from then no_level from else
    record { text = shown_levels from to 1 listing; status = cond (has_fault from to 1 listing) 1 0 }))
