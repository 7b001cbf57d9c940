-- One write more took the first bytes of what was left.
use Rattle.std.proofs.lemmas.List.{take_rest}
use Rattle.sokopar.proofs.Writing.{taken_more}
use Rattle.sokopar.proofs.writes.write_whole.Goals as goal

pub loop-rest-preserved : goal.loop-rest-preserved
loop-rest-preserved g c =
    let rest = c.loop-rest.rest.now in
    let n = c.in_ok-count.count in
    let did = c.in_ok-count.ensures in
    taken_more _ _ _ c.args.text.now rest _ n c.loop-rest.invariant did.ok did.bytes did.bound.0 did.bound.1 (take_rest rest n)
