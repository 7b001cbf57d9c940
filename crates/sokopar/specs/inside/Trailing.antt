-- What an end did.
use Rattle.std.specs.Prelude.{List, [], ◌∷◌, ◌++◌}
use Rattle.sokopar.specs.Ends.{Act, moved, failed}
use Rattle.sokopar.specs.declared.trail.Past.{Past}
use Rattle.sokopar.specs.declared.trail.Past.TheVariants as past

-- all acts of a past
abbrev pub acts_of : Past → List Act
acts_of past.Nothing = []
acts_of (past.Moved trail bytes) = trail.now.acts ++ moved bytes.now ∷ []
acts_of (past.Failed trail) = trail.now.acts ++ failed ∷ []
