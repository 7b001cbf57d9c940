-- What a result shows of its call.
use Rattle.std.proofs.Common.{◌≡◌, false, Result, Ok, Err, is_err}
use Rattle.std.specs.Prelude.{OnOk}

-- what a call ensures on success holds if its result is no error
pub ok_is : {T E : Type 0} {P : Type 0} (r : Result T E) → false ≡ is_err r → OnOk r P → P
ok_is (Ok x) e h = h
ok_is (Err x) e h = cc
