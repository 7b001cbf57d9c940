use Rattle.std.proofs.Common.{rules, length, ap, arith}
use Rattle.std.proofs.lemmas.List.{length-append}
use Rattle.std.specs.Fork.{AcceptsAt, ChangesAt}
use Rattle.spreading.proofs.Parted.{holds_rest, changes_both}
use Rattle.spreading.proofs.+each_from.Goals as goal

pub each_from-requires : goal.each_from-requires
each_from-requires g t c κs within =
    let cut = c.split_at_mut-one in
    let long = ap length cut.ensures.value in
    let sum = length-append cut.result.0.now cut.result.1.now in
    let one = cut.ensures.front_len in
    let room = c.requires.room in (
      search (rules, long, sum, one),
      (
        search rules,
        (
          search rules,
          (
            omega (arith, long, sum, one, room),
            holds_rest (AcceptsAt g.F.Fn c.args.f.now) c.args.base c.args.s.now cut.result.0.now cut.result.1.now 1 cut.ensures.value one c.requires.accepts,
          ),
        ),
      ),
    )

pub returns : goal.returns
returns g t c =
    let cut = c.split_at_mut-one in
    changes_both (ChangesAt g.F.Fn c.args.f.now) c.args.base c.args.s.now cut.result.0.now cut.result.1.now _ _ 1
    cut.ensures.value cut.ensures.front_len c.at_only.ensures c.each_from.ensures
