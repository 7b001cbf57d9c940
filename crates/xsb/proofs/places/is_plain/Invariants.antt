use Rattle.std.proofs.Common.{◌≡◌, take}
use Rattle.std.specs.List.{list_any}
use Rattle.xsb.specs.Places.{is_packing}
use Rattle.xsb.proofs.places.is_plain.Given as goal

abbrev pub invariant-loop-byte : goal.invariant-loop-byte
invariant-loop-byte l = l.packed ≡ list_any is_packing (take l.byte-index l.line)
