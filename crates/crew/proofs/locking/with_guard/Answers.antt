use Rattle.std.proofs.Common.{refl}
use Rattle.crew.proofs.locking.with_guard.Goals as goal

pub returns : goal.returns
returns g c = (
  c.job.new.arg2,
  record { argument = c.deref_mut.result; argument_is = c.deref_mut.ensures.value; after_call = _; call = c.job.ensures; left = refl },
)
