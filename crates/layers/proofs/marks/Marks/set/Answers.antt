use Rattle.std.proofs.Common.{◌≡◌, ◌+◌, List, ℕ, length, ap, subst, sym, ◌∙◌, arith, rules}
use Rattle.layers.specs.inside.Bits.{AreRankBits, marks_of}
use Rattle.layers.proofs.Marking.{are_more, count_fits, enough_words, marks_more, over_words, within_marks}
use Rattle.layers.proofs.marks.Marks.set.Goals as goal

pub set_mark-requires : goal.set_mark-requires
set_mark-requires c =
    let a = c.self.inside in
    let lt = within_marks a.words.items a.len c.args.self.now c.self.view_is a.set c.self.invariant c.args.rank c.requires in
    omega (arith, enough_words a.words.items a.len a.set c.args.rank c.self.invariant lt, ap length c.as_mut_slice.ensures.value)

pub overflow_add-self : goal.overflow_add-self
overflow_add-self c =
    let a = c.self.inside in
    omega (arith, count_fits a.words.items a.len c.args.self.now c.self.view_is a.set c.self.invariant c.args.rank c.requires)

pub invariant_of-self : goal.invariant_of-self
invariant_of-self c =
    let a = c.self.inside in
    let long : length c.set_mark.new.words ≡ length c.as_mut_slice.result.now = search rules in
    let over = over_words a.words.len c.set_mark.new.words a.words.items a.words.ok.0 (long ∙ ap length c.as_mut_slice.ensures.value) in
    subst (λ (ws : List ℕ). AreRankBits ws a.len (a.set + 1)) (sym over)
    (are_more a.words.items a.len c.args.self.now c.self.view_is a.set c.self.invariant c.args.rank c.requires c.as_mut_slice.result.now c.set_mark.new.words
    c.as_mut_slice.ensures.value c.set_mark.ensures long)

pub returns : goal.returns
returns c =
    let a = c.self.inside in
    let long : length c.set_mark.new.words ≡ length c.as_mut_slice.result.now = search rules in
    let over = over_words a.words.len c.set_mark.new.words a.words.items a.words.ok.0 (long ∙ ap length c.as_mut_slice.ensures.value) in
    ap (λ (ws : List ℕ). marks_of ws a.len) over
    ∙ marks_more a.words.items a.len c.args.self.now c.self.view_is a.set c.self.invariant c.args.rank c.requires c.as_mut_slice.result.now
    c.set_mark.new.words c.as_mut_slice.ensures.value c.set_mark.ensures long
