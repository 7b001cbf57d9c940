-- How levels that were shown are read again.
use Rattle.std.specs.Prelude.{◌≡◌, ℕ, suc, ◌&&◌, nat_le, cond, List, [], ◌∷◌, ◌++◌, is_ok}
use Rattle.std.specs.List.{AllZip}
use Rattle.sokopar.specs.Listing.{Listed, IsLevelListing}
use Rattle.sokopar.specs.Report.{Report}

-- the lawful levels with numbers in a range, both ends included, in order; the first level of the list has number n
abbrev pub lawful_levels : ℕ → ℕ → ℕ → List Listed → List Listed
lawful_levels from to n [] = []
lawful_levels from to n (listed ∷ listing) =
    cond ((nat_le from n && nat_le n to) && is_ok listed.board) (listed ∷ []) [] ++
    lawful_levels from to (suc n) listing

-- a level is read again with its name and its board; its first line may be another
abbrev pub IsSameLevel : Listed → Listed → Type 0
IsSameLevel listed again = (again.name ≡ listed.name) × (again.board ≡ listed.board)

-- the text of the report is itself a collection: that of the lawful levels of these bytes with numbers in the range, in
-- order, each the same level; it has no other board, and is read in no other way
pub record ReadsAsShown (from to : ℕ) (bytes : List ℕ) (report : Report) : Type 0 where
  pub listing : List Listed
  pub is : IsLevelListing bytes listing
  pub again : List Listed
  pub reads : IsLevelListing report.text again
  pub same : AllZip IsSameLevel (lawful_levels from to 1 listing) again
  pub only : (others : List Listed) → IsLevelListing report.text others → others ≡ again
