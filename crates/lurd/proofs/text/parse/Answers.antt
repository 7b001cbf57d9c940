use Rattle.std.proofs.Common.{◌+◌, length, drop, rules}
use Rattle.std.proofs.lemmas.List.{take_rest}
use Rattle.lurd.specs.Text.{FaultsAt, HasTextFault}
use Rattle.lurd.proofs.Texts.{fault_after}
use Rattle.lurd.proofs.text.parse.Goals as goal

pub returns-in_err-item-clause-err : goal.returns-in_err-item-clause-err
returns-in_err-item-clause-err c =
    let text = c.args.text.now in let place = c.loop-place.place in let moves = c.loop-place.moves in let fault = c.in_err-item.field-0.0 in
    let stands : FaultsAt (place + 1) (length moves) (drop place text) fault = search (rules, take_rest) in
    let first : HasTextFault text fault = fault_after text place moves fault c.loop-place.invariant.within c.loop-place.invariant.text stands in
    search (rules, first)
