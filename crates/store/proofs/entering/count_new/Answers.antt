use Rattle.std.proofs.Common.{Some, rules, ◌≡◌, ◌+◌, ◌∷◌, [], ◌++◌, cond, length, fold, take, ℕ, ap, sym, ◌∙◌, arith}
use Rattle.std.proofs.lemmas.List.{take_more}
use Rattle.std.proofs.lemmas.Option.{slice_get-get_or}
use Rattle.successors.specs.declared.parcel.Successor.{Successor}
use Rattle.store.specs.Entering.{is_wanted_in, entered}
use Rattle.store.specs.FoundView.{seen_of, open_of}
use Rattle.store.proofs.lemmas.Offers.{length-entered}
use Rattle.successors.proofs.lemmas.Lists.{take_short}
use Rattle.store.proofs.entering.count_new.Goals.{then-is_new, else-is_new}
use Rattle.store.proofs.entering.count_new.Goals as goal

pub loop-index-preserved : goal.loop-index-preserved
loop-index-preserved g c =
    let ss = c.args.successors.now in let index = c.loop-index.index in
    let ws = open_of c.args.start c.args.table.now.entries in
    let wanted = is_wanted_in (seen_of c.args.start c.args.table.now.entries) c.args.shares c.args.share in
    let s : Successor = c.index-successors-index.result in
    let e : take (index + 1) ss ≡ take index ss ++ s ∷ [] = take_more ss index s c.loop-index-test.true ∙
    ap (λ (x : Successor). take index ss ++ x ∷ []) (sym c.index-successors-index.is) in
    let step : (rank : ℕ) → length (fold (entered wanted rank) ws (take (index + 1) ss)) ≡ length ws + c.loop-index.count + cond c.is_new.result 1 0 =
    λ rank. ap (λ ts. length (fold (entered wanted rank) ws ts)) e ∙ length-entered wanted rank (take index ss) ws s
    ∙ ap {B = ℕ} (λ b. length (fold (entered wanted rank) ws (take index ss)) + cond b 1 0) (sym c.is_new.ensures)
    ∙ ap (λ n. n + cond c.is_new.result 1 0) (c.loop-index.invariant.0 rank) in
    elim c.if-is_new.branch [
      | then-is_new w ↦ (λ rank. omega (arith, step rank, ap {B = ℕ} (λ b. cond b 1 0) w.if-is_new.true), omega arith)
      | else-is_new w ↦ (λ rank. omega (arith, step rank, ap {B = ℕ} (λ b. cond b 1 0) w.if-is_new.false), omega arith)
    ]

pub is_new-requires : goal.is_new-requires
is_new-requires g c =
    let ss = c.args.successors.now in let index = c.loop-index.index in let s : Successor = c.index-successors-index.result in (
      search rules,
      (
        c.requires.width,
        (
          c.requires.shares,
          (
            c.requires.few index s (slice_get-get_or ss index s c.loop-index-test.true ∙
                ap (λ (x : Successor). Some x) (sym c.index-successors-index.is)),
            c.requires.found,
          ),
        ),
      ),
    )

pub returns : goal.returns
returns g c = λ rank.
    let ws = open_of c.args.start c.args.table.now.entries in
    let wanted = is_wanted_in (seen_of c.args.start c.args.table.now.entries) c.args.shares c.args.share in
    ap (λ ts. length (fold (entered wanted rank) ws ts))
    (sym (take_short c.args.successors.now c.loop-index.index (omega (arith, c.loop-index-test.false, c.loop-index.auto.index-end)))) ∙
    c.loop-index.invariant.0 rank
