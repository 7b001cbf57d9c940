use Rattle.std.proofs.Common.{◌+◌, ap, arith, refl}
use Rattle.regions.specs.declared.table.BoxKey.{BoxKey}
use Rattle.regions.specs.inside.Tables.{high_of, low_of, waste_in}
use Rattle.regions.proofs.Each.{first_and_rest}
use Rattle.regions.proofs.Sets.{end_of, next_of}
use Rattle.regions.proofs.check.+sets_pass.Goals as goal

pub returns-in_default : goal.returns-in_default
returns-in_default t c = λ yes.
    end_of c.args.look.now.level.now c.args.look.now.table.now (waste_in c.args.look.now.wastes.now) c.args.look.now.seats.now.boxes
    c.args.rest.now c.args.look.now.bits.now c.args.bits c.args.high c.args.low c.args.left c.in_default.len_below (c.set_passes.ensures yes)

pub returns-then-left-eq0 : goal.returns-then-left-eq0
returns-then-left-eq0 t c = λ yes. (
    let none = c.if-left-eq0.true in
    next_of c.args.look.now.level.now c.args.look.now.table.now (waste_in c.args.look.now.wastes.now) c.args.look.now.seats.now.boxes
    c.args.rest.now c.first-item.result c.args.look.now.bits.now c.bit_of-own.result c.args.bits c.args.high c.args.low c.args.left
    (c.args.high + high_of c.args.look.now.table.now c.first-item.result) (c.args.low + low_of c.args.look.now.table.now c.first-item.result)
    (first_and_rest c.args.rest.now c.first-item.result c.in-len1-up.len_at_least c.first-item.is)
    c.bit_of-own.ensures c.if-own-eq0.false c.if-bits-own-ne0.false c.requires.apart
    (c.sets_pass.ensures c.if-not-sets_pass.false) refl refl (λ some. absurd (omega (arith, some, none)))
    )

pub returns : goal.returns
returns t c = λ yes. (
    let key = c.key-key.ensures in
    next_of c.args.look.now.level.now c.args.look.now.table.now (waste_in c.args.look.now.wastes.now) c.args.look.now.seats.now.boxes
    c.args.rest.now c.first-item.result c.args.look.now.bits.now c.bit_of-own.result c.args.bits c.args.high c.args.low c.args.left
    c.in-Some.high_with c.in-Some-checked_add.low_with
    (first_and_rest c.args.rest.now c.first-item.result c.in-len1-up.len_at_least c.first-item.is)
    c.bit_of-own.ensures c.if-own-eq0.false c.if-bits-own-ne0.false c.requires.apart
    (c.sets_pass.ensures c.if-not-sets_pass.false)
    (let e = c.in-Some.ensures in let k = ap (λ (k : BoxKey). k.high) key in omega (arith, e, k))
    (let e = c.in-Some-checked_add.ensures in let k = ap (λ (k : BoxKey). k.low) key in omega (arith, e, k)) (λ some. c.sets_pass-2.ensures yes)
    )
