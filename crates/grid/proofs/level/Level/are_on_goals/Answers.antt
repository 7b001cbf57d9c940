use Rattle.std.proofs.Common.{◌≡◌, sym, ap, ◌∙◌}
use Rattle.std.specs.List.{list_all}
use Rattle.grid.specs.Board.{is_goal}
use Rattle.grid.proofs.lemmas.Squares.{all_contained, contained_all}
use Rattle.grid.proofs.level.Level.are_on_goals.Goals as goal

pub returns : goal.returns
returns c = λ s is.
    let test = is_goal c.args.self.now in
    let read : c.are_goals.result ≡ list_all test s.boxes = c.are_goals.ensures ∙ ap (list_all test) is in (
      λ e. contained_all test s.boxes (sym read ∙ e),
      λ solved. read ∙ all_contained test s.boxes solved,
    )
