use Rattle.std.proofs.Common.{rules, ◌≡◌, ◌<◌, ◌∙◌, Some, length, subst, sym, true}
use Rattle.std.specs.Prelude.{slice_get}
use Rattle.store.specs.Entries.{same_scene}
use Rattle.store.specs.Visited.{VisitedView}
use Rattle.store.proofs.lemmas.Offers.{same_true}
use Rattle.prices.proofs.lemmas.Lists.{in_range}
use Rattle.prover.proofs.frontier.Frontier.waits.Goals as goal

pub returns : goal.returns
returns c = λ e.
    let all = c.self.inside.visited.entries in
    let place = c.args.from.now.place in
    let lt : place < length all = search rules in
    let (x, at) = in_range all place lt in
    let close : c.is_within-near.result ≡ true = search rules in
    let (least, is, within) = c.is_within-near.ensures close in
    let count : c.label-pushes.result.pushes ≡ c.args.from.now.pushes = search rules in
    let equal : same_scene c.position-position.result c.args.from.now.position ≡ true = search (rules, e) in
    let same = same_true c.position-position.result c.args.from.now.position equal in
    record {
      entry = x;
      least = least;
      at = subst (λ (v : VisitedView). slice_get v.entries place ≡ Some x) c.self.view_is at;
      same = sym (c.position-position.ensures x at) ∙ same;
      count = sym (c.label-pushes.ensures x at).0 ∙ count;
      is_open = sym (c.label.ensures x at).1 ∙ is;
      near = within;
    }
