use Rattle.std.proofs.Common.{◌≡◌, Bool, Decides, sym, ◌∙◌, ap}
use Rattle.std.proofs.lemmas.Bool.Decides.{same_from_decides}
use Rattle.grid.specs.Board.{Board}
use Rattle.grid.specs.Equality.{same_board}
use Rattle.grid.proofs.Equality.{same_board_decides}
use Rattle.grid.proofs.level.LevelPartialEq.eq.Goals as goal

same_boards : (a b : Board) (r : Bool) → Decides r (a ≡ b) → r ≡ same_board a b
same_boards a b r decides = same_from_decides r (same_board a b) decides (same_board_decides a b)

pub returns-then-cols-clause-answer : goal.returns-then-cols-clause-answer
returns-then-cols-clause-answer c =
    let d = c.same_cells.ensures in
    let cols : c.args.self.now.cols ≡ c.args.other.now.cols = sym c.cols.ensures ∙ (c.if-cols.true ∙ c.cols-2.ensures) in
    same_boards c.args.self.now c.args.other.now c.same_cells.result (
      λ e. let cells = sym c.cells.ensures.value ∙ (d.0 e ∙ c.cells-then-cols.ensures.value) in
          λ i. record { cols = cols i; cells = cells i },
      λ e. d.1 (c.cells.ensures.value ∙
          (ap (λ (b : Board). b.cells) e ∙ sym c.cells-then-cols.ensures.value)),
    )

pub returns-then-cols-clause-same : goal.returns-then-cols-clause-same
returns-then-cols-clause-same c =
    let d = c.same_cells.ensures in
    let cols : c.args.self.now.cols ≡ c.args.other.now.cols = sym c.cols.ensures ∙ (c.if-cols.true ∙ c.cols-2.ensures) in (
      λ e. let cells = sym c.cells.ensures.value ∙ (d.0 e ∙ c.cells-then-cols.ensures.value) in
          λ i. record { cols = cols i; cells = cells i },
      λ e. d.1 (c.cells.ensures.value ∙
          (ap (λ (b : Board). b.cells) e ∙ sym c.cells-then-cols.ensures.value)),
    )
