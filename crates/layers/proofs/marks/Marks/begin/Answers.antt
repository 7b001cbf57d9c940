use Rattle.std.proofs.Common.{◌≡◌, vec_len, length, replicate, is_err, sym, ap, ◌∙◌, arith}
use Rattle.layers.proofs.Marking.{no_words, fresh_marks, are_fresh, word_count_is}
use Rattle.successors.proofs.lemmas.Lists.{resized}
use Rattle.layers.proofs.marks.Marks.begin.Goals as goal

pub invariant_of-self : goal.invariant_of-self
invariant_of-self c = no_words c.resize.new.self.items (c.in_err-resize.ensures.items ∙ c.clear.ensures.items)

pub invariant_of-self-2 : goal.invariant_of-self-2
invariant_of-self-2 c =
    let many = c.div_ceil.result in
    let zeros : c.resize.new.self.items ≡ replicate many 0 = resized c.resize.result many
    (vec_len c.clear.new.self) 0 c.clear.new.self.items c.resize.new.self.items c.clear.ensures.items (c.clear.ensures.len
    ∙ sym (ap length c.clear.ensures.items)) (sym (ap is_err c.in_ok-resize.was)) c.resize.ensures.items in
    are_fresh c.resize.new.self.items many c.args.ranks zeros (word_count_is many c.args.ranks (omega arith))

pub returns-clause-ok : goal.returns-clause-ok
returns-clause-ok c =
    let many = c.div_ceil.result in
    let zeros : c.resize.new.self.items ≡ replicate many 0 = resized c.resize.result many (vec_len c.clear.new.self) 0 c.clear.new.self.items
    c.resize.new.self.items c.clear.ensures.items (c.clear.ensures.len ∙ sym (ap length c.clear.ensures.items))
    (sym (ap is_err c.in_ok-resize.was)) c.resize.ensures.items in fresh_marks c.resize.new.self.items many c.args.ranks zeros
