use Rattle.std.proofs.Common.{◌+◌, inr, refl, add-one, arith}
use Rattle.successors.proofs.lemmas.Lists.{get_some, get_none}
use Rattle.layers.proofs.book.piece_of.Goals as goal

pub returns-in-Some-clause-order : goal.returns-in-Some-clause-order
returns-in-Some-clause-order c =
    let at = get_some c.args.starts.now c.args.piece c.in_ok-from.field-0 c.in_ok-from.ensures.lookup in
    let next = get_some c.args.starts.now (c.args.piece + 1) c.in-Some.to c.in-Some.ensures.lookup in
    (c.requires.rise c.args.piece c.in_ok-from.field-0.now c.in-Some.to.now at (rw add-one at next), c.requires.within (c.args.piece + 1) c.in-Some.to.now next)

pub returns-in-None-clause-piece : goal.returns-in-None-clause-piece
returns-in-None-clause-piece c =
    let none = get_none c.args.starts.now (c.args.piece + 1) c.in-None.ensures.lookup in
    (get_some c.args.starts.now c.args.piece c.in_ok-from.field-0 c.in_ok-from.ensures.lookup, inr (rw add-one at none, refl))

pub returns-in-None-clause-order : goal.returns-in-None-clause-order
returns-in-None-clause-order c =
    let at = get_some c.args.starts.now c.args.piece c.in_ok-from.field-0 c.in_ok-from.ensures.lookup in
    (c.requires.within c.args.piece c.in_ok-from.field-0.now at, omega arith)
