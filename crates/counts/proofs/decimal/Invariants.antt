use Rattle.std.proofs.Common.{◌≡◌, ◌<◌, ◌^◌, take}
use Rattle.counts.specs.Counts.{decimal}
use Rattle.counts.proofs.decimal.Given as goal

-- the digits so far write the number
abbrev pub invariant-loop-digit : goal.invariant-loop-digit
invariant-loop-digit l = record {
  number : l.number ≡ decimal (take l.digit-index l.digits);
  small : l.number < 10 ^ l.digit-index;
}
