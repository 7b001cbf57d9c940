use Rattle.std.proofs.Common.{arith}
use Rattle.area.proofs.Carries.{grown_carry}
use Rattle.area.proofs.fill.run_up.Goals as goal

pub returns : goal.returns
returns c = grown_carry c.args.word c.args.free (omega arith)
