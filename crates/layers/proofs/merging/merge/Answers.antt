use Rattle.std.proofs.Common.{◌≡◌, ◌≤◌, [], ◌∷◌, map, length, sym, ap, subst, ◌∙◌, arith}
use Rattle.std.proofs.lemmas.Option.{slice_get_within}
use Rattle.layers.specs.declared.limits.TheConstants.{MOST_POSITIONS}
use Rattle.successors.specs.Reaching.{total}
use Rattle.layers.specs.BookView.{last_list}
use Rattle.layers.specs.inside.Merging.{HasLeastFirst, Takes}
use Rattle.layers.specs.inside.Merging.Takes.{nothing}
use Rattle.layers.proofs.Rests.{first_there, one_more, taken_counted}
use Rattle.layers.proofs.merging.merge.Goals as goal

pub loop-index-init : goal.loop-index-init
loop-index-init c = (
  [],
  subst (Takes (map last_list c.args.books.now) []) (sym c.in_ok-rests.ensures) nothing,
  c.in_ok-squares.ensures,
  c.in_ok-origins.ensures.items,
)

pub index_mut-requires : goal.index_mut-requires
index_mut-requires c =
    let rests = c.loop-index.rests.items in let s = c.in-Some.index in
    let has : HasLeastFirst rests s = subst (λ xs. HasLeastFirst xs s) c.as_slice-in-loop-index.ensures.value c.in-Some.ensures in
    omega (arith, slice_get_within rests s (has.0 ∷ has.1) has.2.here, c.as_slice-in-loop-index.ensures.len, ap length c.as_slice-in-loop-index.ensures.value)

pub take-requires : goal.take-requires
take-requires c =
    let rests = c.loop-index.rests.items in let s = c.in-Some.index in
    let has : HasLeastFirst rests s = subst (λ xs. HasLeastFirst xs s) c.as_slice-in-loop-index.ensures.value c.in-Some.ensures in
    (first_there rests s c.index_mut.result.now has c.index_mut.ensures.value).1

pub loop-index-smaller : goal.loop-index-smaller
loop-index-smaller c =
    let rests = c.loop-index.rests.items in let s = c.in-Some.index in
    let has : HasLeastFirst rests s = subst (λ xs. HasLeastFirst xs s) c.as_slice-in-loop-index.ensures.value c.in-Some.ensures in
    (one_more (map last_list c.args.books.now) rests s c.index_mut.result.now c.take.new.self c.loop-index.squares.items c.take.new.squares.items
    c.loop-index.origins.items c.take.new.origins.items has c.index_mut.ensures.value (λ e rest is. c.in_ok-take.ensures e rest is) c.loop-index.invariant).1

pub loop-index-preserved : goal.loop-index-preserved
loop-index-preserved c =
    let rests = c.loop-index.rests.items in let s = c.in-Some.index in
    let has : HasLeastFirst rests s = subst (λ xs. HasLeastFirst xs s) c.as_slice-in-loop-index.ensures.value c.in-Some.ensures in
    (one_more (map last_list c.args.books.now) rests s c.index_mut.result.now c.take.new.self c.loop-index.squares.items c.take.new.squares.items
    c.loop-index.origins.items c.take.new.origins.items has c.index_mut.ensures.value (λ e rest is. c.in_ok-take.ensures e rest is) c.loop-index.invariant).0

pub returns : goal.returns
returns c =
    let none : total c.loop-index.rests.items ≡ 0 = ap total (sym c.as_slice-in-loop-index.ensures.value) ∙ c.in_default.ensures in
    let lists = map last_list c.args.books.now in
    record {
      entries = c.loop-index.invariant.0;
      merged = (c.loop-index.rests.items, c.loop-index.invariant.1, none);
      counted = c.count_all-count.ensures ∙ (ap total (c.as_slice.ensures.value ∙ c.in_ok-rests.ensures)
          ∙ omega (arith, taken_counted c.loop-index.invariant.1, none));
      squares_are = c.loop-index.invariant.2;
      origins_are = c.loop-index.invariant.3;
    }

pub count_all-count-requires : goal.count_all-count-requires
count_all-count-requires c = subst (λ xs. total xs ≤ MOST_POSITIONS) (sym (c.as_slice.ensures.value ∙ c.in_ok-rests.ensures)) c.requires.few
