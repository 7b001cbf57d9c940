-- The squares that flags mark.
use Rattle.std.proofs.Common.{◌≡◌, ℕ, zero, suc, ◌<◌, ◌≤◌, Bool, true, false, cond, List, [], ◌∷◌}
use Rattle.std.proofs.Common.{◌++◌, length, get_or, set, map, take, replicate, refl, ap, arith}
use Rattle.std.proofs.lemmas.Bool.{eqb-true, eqb-false}
use Rattle.std.proofs.lemmas.Grind.{common_steps}
use Rattle.std.proofs.lemmas.List.{length-map, take_all}
use Rattle.grid.specs.Squares.{Squares, contains, remove, insert, places_from}
use Rattle.grid.specs.declared.cell.Cell.{Cell}
use Rattle.grid.specs.Board.{box_cell}
use Rattle.grid.specs.Marks.{marked}
use Rattle.grid.proofs.lemmas.Squares.{contains-insert, contains-remove, is_rising-insert, is_rising-remove, same_set}
use Rattle.grid.proofs.lemmas.Places.{is_rising-places_from, contains-places}

-- a square is marked where its flag is true
pub contains_marked : (flags : List Bool) (q : ℕ) → contains (marked flags) q ≡ get_or flags q false
contains_marked flags q = contains-places (λ b. b) flags q false refl

-- flags of cells with boxes mark the boxes at the start, also with clear flags after them
pub marked_first : (flags : List Bool) (cells : List Cell) (n m : ℕ) → flags ≡ map box_cell cells → length cells ≤ n →
    marked (take n flags ++ replicate m false) ≡ places_from box_cell 0 cells
marked_first flags cells n m is le =
    rw (is, take_all n (map box_cell cells) (omega (arith, le, length-map cells box_cell))) (padded 0 m cells)
  where
    padded : (k j : ℕ) (cs : List Cell) →
        places_from (λ b. b) k (map box_cell cs ++ replicate j false) ≡ places_from box_cell k cs
    padded k zero [] = refl
    padded k (suc j) [] = padded (suc k) j []
    padded k j (c ∷ cs) = ap (λ (ps : Squares). cond (box_cell c) (k ∷ ps) ps) (padded (suc k) j cs)

-- to clear a flag and set another is to move its square
pub marked_moved : (flags : List Bool) (q r : ℕ) → q < length flags → r < length flags →
    marked (set (set flags q false) r true) ≡ insert (remove (marked flags) q) r
marked_moved flags q r from to = same_set _ _ (is_rising-places_from (λ b. b) 0 (set (set flags q false) r true))
    (is_rising-insert (remove (marked flags) q) r
    (is_rising-remove (marked flags) q (is_rising-places_from (λ b. b) 0 flags)))
    (λ x. grind (arith, common_steps, contains_marked, contains-insert, contains-remove, eqb-true, eqb-false))
