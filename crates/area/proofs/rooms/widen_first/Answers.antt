use Rattle.std.proofs.Common.{◌≡◌, ℕ, ◌≤◌, List, ◌++◌, length, take, drop, ◌∙◌, arith, length-append}
use Rattle.std.proofs.lemmas.List.{length-take-le, length-drop}
use Rattle.area.proofs.Unused.{same_front, same_whole, widened_same, passes_same}
use Rattle.area.proofs.rooms.widen_first.Goals as goal

pub returns : goal.returns
returns g c =
    let n : ℕ = g.row.W in
    let free : List ℕ = c.args.free.now in
    let old : List ℕ = c.args.reached.now in
    let part : List ℕ = c.widen_few.new.reached in
    let inside : n ≤ length old = omega (arith, c.requires.words, c.requires.room) in
    let size : length part ≡ n = c.widen_few.ensures.widened.size ∙ length-take-le n old inside in
    let rest = length-drop n old in
    let all = length-append part (drop n old) in
    let free_same = same_front free n c.requires.words (λ k le. (c.requires.rest k le).0) in
    let new_same = same_whole part old n size (λ k le. (c.requires.rest k le).1) in
    record {
      widened = widened_same c.args.cols (take n free) free (take n old) old part (part ++ drop n old) free_same
          (same_front old n inside (λ k le. (c.requires.rest k le).1)) new_same (omega (arith, size, rest, all, inside))
          c.widen_few.ensures.widened;
      whole = passes_same c.args.cols (take n free) free part (part ++ drop n old) free_same new_same
          c.widen_few.ensures.whole;
    }
