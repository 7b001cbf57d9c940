use Rattle.area.proofs.lemmas.WordSets.{least_word, none_there}
use Rattle.std.proofs.Common.{arith}
use Rattle.area.proofs.bits.least_of.Goals as goal

pub returns-then-word-ne0-clause-reached : goal.returns-then-word-ne0-clause-reached
returns-then-word-ne0-clause-reached c =
    (least_word c.args.words.now c.loop-index.index c.first_of.result c.loop-index.invariant (omega arith)
    (omega (arith, c.type_inv.words c.loop-index.index)) c.first_of.ensures).0

pub returns-then-word-ne0-clause-least : goal.returns-then-word-ne0-clause-least
returns-then-word-ne0-clause-least c =
    (least_word c.args.words.now c.loop-index.index c.first_of.result c.loop-index.invariant (omega arith)
    (omega (arith, c.type_inv.words c.loop-index.index)) c.first_of.ensures).1

pub unreachable-requires : goal.unreachable-requires
unreachable-requires c = none_there c.args.words.now c.loop-index.index _ c.loop-index.invariant c.loop-index-test.false c.requires.some.1
