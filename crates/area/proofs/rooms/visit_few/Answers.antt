use Rattle.std.proofs.Common.{◌≡◌, ℕ, ◌%◌, get_or, subst, arith}
use Rattle.std.specs.Int.RustNames.{bit_and, bit_or}
use Rattle.grid.specs.declared.masks.TheConstants.{WORD_BITS}
use Rattle.area.specs.inside.Flooding.{IsGrown, PassesOn}
use Rattle.area.proofs.Widening.{all_ways, visit_written}
use Rattle.area.proofs.rooms.visit_few.Goals as goal

pub returns : goal.returns
returns c =
    let free = c.args.free.now in
    let index = c.args.index in
    let first = bit_or (get_or c.args.words.now index 0) (bit_and c.just_beside.result (get_or free index 0)) in
    let near : c.args.cols % WORD_BITS ≡ c.args.cols = omega arith in
    visit_written c.args.cols free c.args.words.now index c.just_beside.result (omega arith) (omega arith)
    (omega arith) c.just_beside.ensures c.fill_once-new.result (λ test. PassesOn test c.args.cols (get_or free index 0)) (omega arith)
    (λ test passes. all_ways c.args.cols free index (omega arith) test passes)
    (subst (λ (n : ℕ). IsGrown first c.fill_once-new.result (λ test. PassesOn test n (get_or free index 0))) near c.fill_once-new.ensures)
