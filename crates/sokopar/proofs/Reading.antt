-- How the reading of a source stops.
use Rattle.std.proofs.Common.{◌≡◌, ◌≤◌, ◌+◌, List, [], ◌∷◌, ℕ, suc, ◌++◌, length, take, inl, inr, refl, arith, length-append, length-take-le}
use Rattle.std.specs.Io.KnownBytes.{Consumes}
use Rattle.xsb.specs.declared.limits.TheConstants.{MAX_FILE}
use Rattle.sokopar.specs.declared.fault.RunFault.TheVariants.{OutOfMemory}
use Rattle.sokopar.specs.Ends.{moved, Seen, Pass}
use Rattle.sokopar.specs.Runs.{ReadsWhole, Stops}
use Rattle.sokopar.proofs.Acts.{pass_more, consumes_more, all_consumed}

-- the bytes that a read gave could not be kept
pub stops_within : (old mid new : Seen) (bytes buffer : List ℕ) (n : ℕ) → Pass old.acts mid.acts bytes → Consumes old.known mid.known bytes
    → new.acts ≡ mid.acts ++ moved (take n buffer) ∷ [] → Consumes mid.known new.known (take n buffer) → 1 ≤ n → n ≤ length buffer
    → length bytes + length buffer ≤ suc MAX_FILE → Stops old new OutOfMemory
stops_within old mid new bytes buffer n given first act more some few bound =
    let sum = length-append bytes (take n buffer) in
    let part = length-take-le n buffer few in
    record {
      bytes = bytes ++ take n buffer;
      cause = inl (pass_more old.acts mid.acts new.acts bytes (bytes ++ take n buffer) buffer n given act refl some few, omega (arith, sum, part));
      first = consumes_more old.known mid.known new.known bytes (bytes ++ take n buffer) (take n buffer) first more refl;
    }

-- memory was refused once the source was read to its end
pub stops_after : (old new : Seen) (bytes : List ℕ) → ReadsWhole old new bytes → Stops old new OutOfMemory
stops_after old new bytes whole = record { bytes = bytes; cause = inr whole; first = all_consumed old.known new.known bytes whole.all }
