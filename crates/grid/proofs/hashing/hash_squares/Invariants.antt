use Rattle.std.proofs.Common.{◌≡◌, length, fold}
use Rattle.std.specs.List.{flat_map}
use Rattle.std.specs.Hash as fed
use Rattle.grid.specs.Hashing.{words_of}
use Rattle.grid.proofs.hashing.hash_squares.Given as goal

-- what is still to be written, after what was, is all that there was to write
abbrev pub invariant-loop-boxes : goal.invariant-loop-boxes
invariant-loop-boxes g l = fold g.H.Hasher.write l.state (flat_map fed.u64 (words_of l.boxes l.player)) ≡
    fold g.H.Hasher.write l.initial.state (flat_map fed.u64 (words_of l.initial.boxes l.player))

abbrev pub decreases-loop-boxes : goal.decreases-loop-boxes
decreases-loop-boxes g l = length l.boxes
