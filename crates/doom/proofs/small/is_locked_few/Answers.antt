use Rattle.std.proofs.Common.{◌≡◌, ◌↔◌, ℕ, List, IsTrue, true, false, sym, subst, ◌∙◌}
use Rattle.grid.specs.Masks.{has_bit}
use Rattle.grid.specs.Squares.{insert, remove}
use Rattle.area.specs.Words.{squares_of}
use Rattle.area.proofs.lemmas.Moving.{moved_bit}
use Rattle.doom.proofs.LockedOn.{peeling_words, told_locked, told_loose}
use Rattle.doom.proofs.Passes.{pass_narrow, peeling_done, peeling_pass}
use Rattle.doom.proofs.small.is_locked_few.Goals as goal

pub passes-init : goal.passes-init
passes-init g c =
    peeling_words c.args.holds.now c.args.cols (insert (remove (squares_of c.args.boxes.now) c.args.from) c.args.to) c.put.new.words
    (moved_bit c.args.boxes.now c.copy_from_slice.new.self c.take_out.new.words c.put.new.words c.args.from c.args.to c.copy_from_slice.ensures.after
    c.take_out.ensures c.put.ensures)

pub passes-preserved : goal.passes-preserved
passes-preserved g c =
    peeling_pass c.args.holds.now c.args.cols (insert (remove (squares_of c.args.boxes.now) c.args.from) c.args.to) c.passes.left c.peel_few-went.new.members
    c.peel_few-went.result
    (pass_narrow c.args.holds.now c.args.cols c.passes.left c.peel_few-went.new.members c.peel_few-went.result c.requires.narrow c.peel_few-went.ensures)
    c.passes.invariant

pub returns-then-not-has : goal.returns-then-not-has
returns-then-not-has g c =
    let after = insert (remove (squares_of c.args.boxes.now) c.args.from) c.args.to in
    told_loose c.args.holds.now c.args.cols after c.peel_few-went.new.members c.args.to
    (peeling_pass c.args.holds.now c.args.cols after c.passes.left c.peel_few-went.new.members c.peel_few-went.result
    (pass_narrow c.args.holds.now c.args.cols c.passes.left c.peel_few-went.new.members c.peel_few-went.result c.requires.narrow c.peel_few-went.ensures)
    c.passes.invariant) (sym c.has.ensures ∙ c.if-not-has.true)

pub returns-then-not-went : goal.returns-then-not-went
returns-then-not-went g c =
    let after = insert (remove (squares_of c.args.boxes.now) c.args.from) c.args.to in
    told_locked c.args.holds.now c.args.cols after c.peel_few-went.new.members c.args.to c.is_other_word.result
    (peeling_done c.args.holds.now c.args.cols after c.passes.left c.peel_few-went.new.members c.peel_few-went.result c.if-not-went.true
    (pass_narrow c.args.holds.now c.args.cols c.passes.left c.peel_few-went.new.members c.peel_few-went.result c.requires.narrow c.peel_few-went.ensures)
    c.passes.invariant)
    (subst (λ (goals : List ℕ). IsTrue c.is_other_word.result ↔
    ((q : ℕ) × (has_bit c.peel_few-went.new.members q ≡ true) × (has_bit goals q ≡ false))) c.as_words.ensures c.is_other_word.ensures)
