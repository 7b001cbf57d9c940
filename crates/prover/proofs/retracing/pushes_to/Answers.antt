use Rattle.std.proofs.Common.{rules, ◌≡◌, ◌<◌, ◌≤◌, ◌∙◌, ◌++◌, ◌∷◌, [], List, Some, length, reverse, sym, subst, arith}
use Rattle.grid.specs.declared.square.Push.{Push}
use Rattle.std.proofs.lemmas.Option.{slice_get_within}
use Rattle.prover.specs.inside.Working.{AreLeading, AreReadBack, pushes_at}
use Rattle.prices.proofs.lemmas.Lists.{in_range}
use Rattle.prover.proofs.ReadingBack.{back_first, back_more, back_whole, parent_there, pushes_there}
use Rattle.prover.proofs.retracing.pushes_to.Goals as goal

pub loop-parent-init : goal.loop-parent-init
loop-parent-init c = record {
  within = c.requires.place;
  back = λ board x y traced there at. subst (λ (qs : List Push). AreReadBack board y x (reverse qs)) (sym c.new-pushes.ensures.items)
      (back_first board c.args.frontier.now.entries c.args.place x y there at);
}

pub loop-parent-preserved : goal.loop-parent-preserved
loop-parent-preserved c =
    let all = c.args.frontier.now.entries in
    let here = c.loop-parent.here in
    let parent = c.in-Some.parent in
    let (z, at) = in_range all here c.loop-parent.invariant.within in
    let is : z.parent ≡ Some parent = sym (c.parent.ensures z at) ∙ c.in-Some.is in
    let from = parent_there c.requires.traced.0 all here z parent c.requires.traced.1 at is in
    let items : c.push.new.self.items ≡ c.loop-parent.pushes.items ++ parent.push ∷ [] = search rules in
    record {
      within = slice_get_within all parent.place from.0 from.1;
      back = λ board x y traced read asked. subst (λ (qs : List Push). AreReadBack board y x (reverse qs)) (sym items)
          (back_more board all here x y z parent c.loop-parent.pushes.items traced at is read (c.loop-parent.invariant.back board x z traced at asked));
    }

pub loop-parent-smaller : goal.loop-parent-smaller
loop-parent-smaller c =
    let all = c.args.frontier.now.entries in
    let here = c.loop-parent.here in
    let parent = c.in-Some.parent in
    let (z, at) = in_range all here c.loop-parent.invariant.within in
    let is : z.parent ≡ Some parent = sym (c.parent.ensures z at) ∙ c.in-Some.is in
    let from = parent_there c.requires.traced.0 all here z parent c.requires.traced.1 at is in
    let fewer = from.2 in
    let one = pushes_there all here z at in
    let two = pushes_there all parent.place from.0 from.1 in
    let less : pushes_at all parent.place < pushes_at all here = omega (arith, one, two, fewer) in
    less

pub returns : goal.returns
returns c = λ board x traced asked.
    let all = c.args.frontier.now.entries in
    let here = c.loop-parent.here in
    let (y, at) = in_range all here c.loop-parent.invariant.within in
    let items : c.reverse.new.self.items ≡ reverse c.loop-parent.pushes.items = search rules in
    subst (λ (qs : List Push). AreLeading board qs x.position × (length qs ≤ x.pushes)) (sym items)
    (back_whole board all here x y (reverse c.loop-parent.pushes.items) traced at
    (sym (c.parent.ensures y at) ∙ c.in_default.is) (c.loop-parent.invariant.back board x y traced at asked))
