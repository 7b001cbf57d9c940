-- The bytes are what the source gave, in reads that each gave some.
use Rattle.std.proofs.Common.{◌-◌, ◌≤◌, vec_len, suc}
use Rattle.std.specs.Io.KnownBytes.{Consumes}
use Rattle.sokopar.specs.Ends.{Pass}
use Rattle.xsb.specs.declared.limits.TheConstants.{MAX_FILE}
use Rattle.sokopar.proofs.reads.read_whole.Given as goal

abbrev pub invariant-loop-chunk : goal.invariant-loop-chunk
invariant-loop-chunk g l = record {
  given : Pass (g.S.Source.seen l.fn.source).acts (g.S.Source.seen l.source).acts l.bytes.items;
  first : Consumes (g.S.Source.seen l.fn.source).known (g.S.Source.seen l.source).known l.bytes.items;
  bound : vec_len l.bytes ≤ suc MAX_FILE;
}

abbrev pub decreases-loop-chunk : goal.decreases-loop-chunk
decreases-loop-chunk g l = suc MAX_FILE - vec_len l.bytes
