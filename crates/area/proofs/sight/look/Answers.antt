use Rattle.std.proofs.Common.{◌≡◌, true, refl, inl, inr, sym, subst, ap, ◌∙◌}
use Rattle.std.proofs.lemmas.Bool.{and_parts}
use Rattle.grid.specs.declared.dir.Dir.{Dir}
use Rattle.grid.specs.Squares.{contains}
use Rattle.grid.specs.Board.{next, opposite}
use Rattle.area.specs.inside.Detours.{across, IsKnown}
use Rattle.area.proofs.Circling.{corner_behind, view_joins}
use Rattle.area.proofs.Detours.{all_round}
use Rattle.area.proofs.sight.look.Goals as goal

pub is_known-this-requires-clause-reached : goal.is_known-this-requires-clause-reached
is_known-this-requires-clause-reached c = λ yes.
    subst (λ (x : Dir). contains c.args.scratch.now.reached (next c.args.level.now c.args.square x) ≡ true) (sym c.across-side.ensures)
    (sym (corner_behind c.args.level.now c.args.scratch.now.reached c.args.ring.now c.args.square c.args.push_dir (across c.args.push_dir)
    c.requires.inside c.requires.within c.requires.around (inl refl)) ∙ (sym c.turn-view.ensures.to_other.at_corner ∙ yes))

pub is_known-that-requires-clause-reached : goal.is_known-that-requires-clause-reached
is_known-that-requires-clause-reached c = λ yes.
    subst (λ (x : Dir). contains c.args.scratch.now.reached (next c.args.level.now c.args.square x) ≡ true)
    (sym (c.opposite.ensures ∙ ap opposite c.across-side.ensures))
    (sym (corner_behind c.args.level.now c.args.scratch.now.reached c.args.ring.now c.args.square c.args.push_dir (opposite (across c.args.push_dir))
    c.requires.inside c.requires.within c.requires.around (inr refl)) ∙ (sym c.turn-view.ensures.to_one.at_corner ∙ yes))

pub returns-clause-joined : goal.returns-clause-joined
returns-clause-joined c = λ yes. view_joins c.args.level.now c.args.scratch.now.reached c.tell.ensures.columns c.requires.reached c.args.ring.now
    c.args.square c.args.push_dir c.requires.inside c.requires.within c.requires.around c.turn-view.result c.turn-view.ensures
    (sym c.joins_round.ensures ∙ yes)

pub returns-clause-known : goal.returns-clause-known
returns-clause-known c = λ yes.
    let both = and_parts _ _ yes in
    let known = λ (d : Dir). IsKnown c.args.level.now c.args.scratch.now.boxes c.args.scratch.now.reached
    (next c.args.level.now c.args.square c.args.push_dir) c.args.square d in
    let other = c.opposite.ensures ∙ ap opposite c.across-side.ensures in
    all_round known c.args.push_dir (inl (inl refl)) (inr (inr c.requires.behind)) (subst known c.across-side.ensures (c.is_known-this.ensures both.0 _))
    (subst known other (c.is_known-that.ensures both.1 _))
