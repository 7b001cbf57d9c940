use Rattle.std.proofs.Common.{sym, arith}
use Rattle.std.proofs.lemmas.Option.{slice_get_past}
use Rattle.layers.proofs.layer.Layer.position.Goals as goal

pub returns-then-rank-len : goal.returns-then-rank-len
returns-then-rank-len c = sym (slice_get_past c.args.self.now.places c.args.rank (omega (arith, c.len.ensures)))
