-- How the code keeps what an end did, for contracts alone.
use Rattle.std.specs.Prelude.{◌≡◌, ℕ, List, Option, Some, None, refl}
use Rattle.std.specs.Coded.{Coded, code_by, coded_ℕ, coded_list, coded_option}
use Rattle.sokopar.specs.Ends.{Act, moved, failed}

-- how the logic stores acts
abbrev bytes_if_moved : Act → Option (List ℕ)
bytes_if_moved (moved bytes) = Some bytes
bytes_if_moved failed = None

abbrev act_with : Option (List ℕ) → Act
act_with (Some bytes) = moved bytes
act_with None = failed

pub act_again : (act : Act) → act_with (bytes_if_moved act) ≡ act
act_again (moved bytes) = refl
act_again failed = refl

abbrev pub acts_code : Coded (List Act)
acts_code = coded_list (code_by (Option (List ℕ)) (coded_option (coded_list coded_ℕ)) bytes_if_moved act_with act_again)
