use Rattle.std.proofs.Common.{◌≡◌, ◌≤◌, ◌*◌, suc, List, length, sym, ap, subst, ◌∙◌}
use Rattle.std.proofs.lemmas.List.{length-map}
use Rattle.std.proofs.lemmas.Option.{same_Some}
use Rattle.std.specs.Arc.{arc_value}
use Rattle.grid.specs.Board.{Scene}
use Rattle.successors.specs.Problems.{Problem}
use Rattle.grid.specs.Lawful.{box_count}
use Rattle.grid.specs.declared.limits.TheConstants.{MAX_BOXES}
use Rattle.layers.specs.BookView.{BookView, last_layer}
use Rattle.store.specs.Entries.{Closed, places_of}
use Rattle.layers.specs.inside.Insides.{scenes_of, layer_view}
use Rattle.layers.proofs.Flat.{HaveBoxes, length-squares_of, scenes-squares}
use Rattle.layers.proofs.Joined.{joined_boxes, joined_whole}
use Rattle.layers.proofs.join.layer_of.Goals as goal

pub invariant_of-result : goal.invariant_of-result
invariant_of-result c =
    let books = c.args.books.now in let all = c.requires.all in
    let merged = c.requires.rows in
    let es : List Closed = merged.entries in
    let ms : List Scene = places_of es in
    let same : c.args.first.now ≡ all.first = same_Some c.args.first.now all.first (sym c.requires.first ∙ all.head) in
    let a = c.first.inside in
    let b = box_count (arc_value a.problem).board in
    let problem : arc_value c.in_ok-problem.problem ≡ arc_value a.problem = c.in_ok-problem.ensures in
    let level : arc_value a.problem ≡ all.first.level = ap (λ (v : BookView). v.level) (c.first.view_is ∙ same) in
    let have : HaveBoxes b ms = subst (λ (l : Problem). HaveBoxes (box_count l.board) ms) (sym level)
    (joined_boxes books all c.tell_all.ensures es merged.merged) in
    let count : c.args.rows.0 ≡ length ms = merged.counted ∙ sym (length-map es (λ (e : Closed). e.0)) in
    let read : scenes_of (box_count (arc_value c.in_ok-problem.problem).board) c.args.rows.0 c.args.rows.1.items ≡ ms =
    (λ i. scenes_of (box_count (problem i).board) (count i) (merged.squares_are i)) ∙ scenes-squares b ms have in
    record {
      whole = joined_whole books all c.tell_all.ensures es merged.merged (layer_view (record {
        problem = c.in_ok-problem.problem;
        number = c.layer-number.result;
        count = c.args.rows.0;
        squares = c.args.rows.1;
        origins = c.args.rows.2;
      })) (problem ∙ level) (c.layer-number.ensures ∙ ap last_layer same) read merged.origins_are;
      few = subst (λ (l : Problem). box_count l.board ≤ MAX_BOXES) (sym problem) c.first.invariant.few;
      squares = ap length merged.squares_are ∙ length-squares_of b ms have ∙ (λ i. sym count i * suc (box_count (sym problem i).board));
    }
