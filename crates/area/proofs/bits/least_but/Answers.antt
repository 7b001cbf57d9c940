use Rattle.std.proofs.Common.{◌<◌, ◌≤◌, rules, tests, refl, arith}
use Rattle.area.proofs.lemmas.WordSets.{below_word, least_rest, least_none}
use Rattle.area.proofs.bits.least_but.Goals as goal

pub returns-then-lt : goal.returns-then-lt
returns-then-lt c =
    least_rest c.args.words.now c.args.but c.args.more c.loop-index.index _ c.without-rest.result c.first_of-first.result c.loop-index.invariant refl
    c.without-rest.ensures (omega arith) (omega arith) (let e = c.first_of-first.ensures in
    let l : c.first_of-first.result < c.args.more = search (rules, tests) in omega (arith, e, l))

pub returns-else-lt : goal.returns-else-lt
returns-else-lt c =
    least_rest c.args.words.now c.args.but c.args.more c.loop-index.index _ c.without-rest.result c.args.more c.loop-index.invariant refl c.without-rest.ensures
    (omega arith) (omega arith) (let e = c.first_of-first.ensures in let l : c.args.more ≤ c.first_of-first.result = search (rules, tests) in
    omega (arith, e, l))

pub loop-index-preserved : goal.loop-index-preserved
loop-index-preserved c = below_word c.args.words.now c.args.but c.loop-index.index _ c.without-rest.result c.loop-index.invariant refl c.without-rest.ensures
    c.if-rest-ne0.false

pub returns : goal.returns
returns c = least_none c.args.words.now c.args.but c.args.more c.loop-index.index c.loop-index.invariant c.loop-index-test.false
