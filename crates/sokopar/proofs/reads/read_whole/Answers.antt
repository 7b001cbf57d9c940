-- What one read more gave is kept, or memory is refused.
use Rattle.std.proofs.Common.{rules, ◌≡◌, ◌∙◌, ◌≤◌, ◌+◌, ℕ, List, suc, ◌++◌, length, take, ap}
use Rattle.std.proofs.lemmas.List.{take-append-le}
use Rattle.xsb.specs.declared.limits.TheConstants.{MAX_FILE}
use Rattle.sokopar.proofs.Acts.{pass_more, consumes_more}
use Rattle.sokopar.proofs.Reading.{stops_within}
use Rattle.sokopar.proofs.reads.read_whole.Goals as goal

pub loop-chunk-preserved : goal.loop-chunk-preserved
loop-chunk-preserved g c =
    let n = c.in-Ok.count in
    let buffer = c.read.new.buffer in
    let some : 1 ≤ n = search rules in
    let few : n ≤ length buffer = c.in-Ok.ensures.bound in
    let all : c.extend_from_slice.new.self.items ≡ c.loop-chunk.bytes.items ++ take n buffer =
    c.in_ok-extend_from_slice.ensures.items ∙ ap (λ (l : List ℕ). c.loop-chunk.bytes.items ++ l) (take-append-le n buffer _ few) in
    record {
      given = pass_more _ _ _ _ _ buffer n c.loop-chunk.invariant.given c.in-Ok.ensures.ok all some few;
      first = consumes_more _ _ _ _ _ _ c.loop-chunk.invariant.first c.in-Ok.ensures.bytes.0 all;
      bound = search rules;
    }

pub returns-in_err-extend_from_slice-clause-err : goal.returns-in_err-extend_from_slice-clause-err
returns-in_err-extend_from_slice-clause-err g c =
    let n = c.in-Ok.count in
    let buffer = c.read.new.buffer in
    let some : 1 ≤ n = search rules in
    let room : length c.loop-chunk.bytes.items + length buffer ≤ suc MAX_FILE = search rules in
    let stops = stops_within _ _ _ c.loop-chunk.bytes.items buffer n c.loop-chunk.invariant.given c.loop-chunk.invariant.first c.in-Ok.ensures.ok
    c.in-Ok.ensures.bytes.0 some c.in-Ok.ensures.bound room in
    search (rules, stops)
