use Rattle.std.proofs.Common.{◌≡◌, ◌+◌, ◌≤◌, ◌∙◌, ℕ, suc, length, rules, sym, ap, subst, arith}
use Rattle.shortest.specs.inside.Listing.{BoundsView, IsStateList}
use Rattle.shortest.proofs.Layering.{all_expanded}
use Rattle.shortest.proofs.listing.list_all.Goals as goal

pub expand-requires-clause-listing : goal.expand-requires-clause-listing
expand-requires-clause-listing g c =
    subst (λ (b : BoundsView). IsStateList b.board b.cap c.loop-place.place c.loop-place.listed)
    (sym (c.make_tables_at.ensures ∙ c.loop-place.invariant.same)) c.loop-place.invariant.listing

pub expand-requires-clause-board : goal.expand-requires-clause-board
expand-requires-clause-board g c =
    c.loop-place.invariant.board ∙ sym (ap (λ (b : BoundsView). b.board) (c.make_tables_at.ensures ∙ c.loop-place.invariant.same))

pub loop-place-preserved : goal.loop-place-preserved
loop-place-preserved g c =
    let same = c.make_tables_at.ensures ∙ c.loop-place.invariant.same in
    record {
      same = same;
      listing = subst (λ (n : ℕ). IsStateList c.args.bounds.now.board c.args.bounds.now.cap n c.expand.new.listed)
          (let e : suc c.loop-place.place ≡ c.loop-place.place + 1 = omega arith in e)
          (subst (λ (b : BoundsView). IsStateList b.board b.cap (suc c.loop-place.place) c.expand.new.listed) same c.in_ok-expand.ensures.listing);
      board = c.expand.ensures.board ∙ ap (λ (b : BoundsView). b.board) same;
    }

pub returns : goal.returns
returns g c =
    let all = c.loop-place.listed.entries in
    let listing = c.loop-place.invariant.listing in
    let over : length all ≤ c.loop-place.place = search rules in
    record {
      listed = all_expanded c.args.bounds.now.board c.args.bounds.now.cap c.loop-place.place all over listing.listed;
      boxes = listing.boxes;
      squares = listing.squares;
    }
