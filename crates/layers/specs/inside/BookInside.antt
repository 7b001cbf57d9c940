-- What contracts see of a book's fields, and what is true of them.
use Rattle.std.specs.Prelude.{◌≡◌, ℕ, suc, ◌<◌, ◌≤◌, List, [], ◌∷◌, take, drop, length, slice_get, Option, Some, None}
use Rattle.std.specs.Prelude.{◌⊎◌}
use Rattle.std.specs.Arc.{arc_value}
use Rattle.grid.specs.Board.{Scene, start}
use Rattle.grid.specs.Lawful.{box_count}
use Rattle.grid.specs.States.{FitsLevel}
use Rattle.grid.specs.declared.limits.TheConstants.{MAX_BOXES}
use Rattle.area.specs.Area.{IsNorm}
use Rattle.doom.specs.Deadlocks.{Doomed, Undoomed}
use Rattle.layers.specs.declared.book.Book.TheInside.{Inside}
use Rattle.successors.specs.Problems.{Problem}
use Rattle.successors.specs.Capping.{Admits}
use Rattle.layers.specs.BookView.{BookView, IsLawfulBook}
use Rattle.layers.specs.Books.{IsClaimedOrDone}

-- a list cut into pieces at these indices: each piece ends where the next one begins, and the last one at the end
abbrev pub cut_at : {A : Type 0} → List ℕ → List A → List (List A)
cut_at [] xs = []
cut_at (i ∷ []) xs = drop i xs ∷ []
cut_at (i ∷ j ∷ js) xs = drop i (take j xs) ∷ cut_at (j ∷ js) xs

abbrev pub book_view : Inside → BookView
book_view a = record {
  level = arc_value a.problem;
  limit = a.limit;
  workers = a.workers;
  share = a.share;
  shares = a.shares;
  closed = cut_at a.starts.items a.found.seen;
  begun = a.begun;
  claimed = a.claimed;
  done = a.done;
  waiting = a.found.waiting;
  tallies = a.tallies.items;
  over = a.over;
}

-- the first position of a level: the start's normal position, or none if the start is doomed or not admitted
abbrev pub IsFirst : Problem → Option Scene → Type 0
IsFirst problem None = Doomed problem.board (start problem.board).boxes ⊎ ¬ (Admits problem 0 (start problem.board))
IsFirst problem (Some m) = Undoomed problem.board (start problem.board) × IsNorm problem.board (start problem.board) m ×
    FitsLevel problem.board m × Admits problem 0 m

-- the indices at which a list is cut: the first one is 0, and they do not fall
pub record AreCuts (starts : List ℕ) (len : ℕ) : Type 0 where
  pub first : slice_get starts 0 ≡ Some 0
  pub rise : (j p q : ℕ) → slice_get starts j ≡ Some p → slice_get starts (suc j) ≡ Some q → p ≤ q
  pub within : (j p : ℕ) → slice_get starts j ≡ Some p → p ≤ len

-- piece k begins at p and ends before q, where the next one begins or the list ends
abbrev pub IsListPiece : List ℕ → ℕ → ℕ → ℕ → ℕ → Type 0
IsListPiece starts len k p q = (slice_get starts k ≡ Some p) ×
    ((slice_get starts (suc k) ≡ Some q) ⊎ ((slice_get starts (suc k) ≡ None) × (q ≡ len)))

-- a book's fields are those of a lawful book with at most MAX_BOXES boxes; its keys suit its boxes and squares; each
-- closed layer is a piece of the closed entries, and all ranks below next are taken
pub record IsSoundBook (a : Inside) : Type 0 where
  pub lawful : IsLawfulBook (book_view a)
  pub few : box_count (arc_value a.problem).board ≤ MAX_BOXES
  pub boxes : (a.found.boxes ≡ box_count (arc_value a.problem).board) ×
      (a.found.squares ≡ length (arc_value a.problem).board.cells)
  pub cuts : AreCuts a.starts.items (length a.found.seen)
  pub taken : (r : ℕ) → r < a.next → IsClaimedOrDone (book_view a) r
