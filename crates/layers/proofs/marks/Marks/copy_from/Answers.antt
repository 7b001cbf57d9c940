use Rattle.std.proofs.Common.{◌≡◌, List, ℕ, length, sym, ap, subst, ◌∙◌}
use Rattle.grid.specs.Masks.{word_count}
use Rattle.layers.specs.inside.Bits.{AreRankBits, marks_of}
use Rattle.layers.proofs.Marking.{marks_long}
use Rattle.layers.proofs.marks.Marks.copy_from.Goals as goal

pub copy_from_slice-requires : goal.copy_from_slice-requires
copy_from_slice-requires c =
    let own = marks_long c.self.inside.words.items c.self.inside.len c.args.self.now c.self.view_is in
    let others = marks_long c.other.inside.words.items c.other.inside.len c.args.other.now c.other.view_is in
    let same : c.self.inside.len ≡ c.other.inside.len = own ∙ c.requires ∙ sym others in
    c.self.inside.words.ok.0 ∙ c.self.invariant.enough ∙ ap word_count same ∙ sym c.other.invariant.enough ∙ ap length (sym c.as_slice.ensures.value)

pub invariant_of-self : goal.invariant_of-self
invariant_of-self c =
    let own = marks_long c.self.inside.words.items c.self.inside.len c.args.self.now c.self.view_is in
    let others = marks_long c.other.inside.words.items c.other.inside.len c.args.other.now c.other.view_is in
    let same : c.self.inside.len ≡ c.other.inside.len = own ∙ c.requires ∙ sym others in
    let words : c.copy_from_slice.new.self.items ≡ c.other.inside.words.items = c.copy_from_slice.ensures.items ∙ c.as_slice.ensures.value in
    subst (λ (n : ℕ). AreRankBits c.copy_from_slice.new.self.items n c.other.inside.set) (sym same)
    (subst (λ (ws : List ℕ). AreRankBits ws c.other.inside.len c.other.inside.set) (sym words) c.other.invariant)

pub returns : goal.returns
returns c =
    let own = marks_long c.self.inside.words.items c.self.inside.len c.args.self.now c.self.view_is in
    let others = marks_long c.other.inside.words.items c.other.inside.len c.args.other.now c.other.view_is in
    let same : c.self.inside.len ≡ c.other.inside.len = own ∙ c.requires ∙ sym others in
    let words : c.copy_from_slice.new.self.items ≡ c.other.inside.words.items = c.copy_from_slice.ensures.items ∙ c.as_slice.ensures.value in
    (λ i. marks_of (words i) (same i)) ∙ c.other.view_is
