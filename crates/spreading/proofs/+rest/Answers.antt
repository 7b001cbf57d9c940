use Rattle.std.specs.Fork.{AcceptsAt, ChangesAt}
use Rattle.spreading.proofs.Parted.{holds_first, holds_rest, changes_both}
use Rattle.spreading.proofs.+rest.Goals as goal

pub spread_from-part_and_rest-requires-clause-accepts_part : goal.spread_from-part_and_rest-requires-clause-accepts_part
spread_from-part_and_rest-requires-clause-accepts_part g t c κs within =
    let cut = c.split_at_mut-part in
    holds_first (AcceptsAt g.F.Fn c.args.f.now) c.args.base c.args.s.now cut.result.0.now cut.result.1.now cut.ensures.value c.requires.accepts

pub spread_from-part_and_rest-requires-clause-accepts : goal.spread_from-part_and_rest-requires-clause-accepts
spread_from-part_and_rest-requires-clause-accepts g t c κs within =
    let cut = c.split_at_mut-part in
    holds_rest (AcceptsAt g.F.Fn c.args.f.now) c.args.base c.args.s.now cut.result.0.now cut.result.1.now _ cut.ensures.value cut.ensures.front_len
    c.requires.accepts

pub spread_from-returns : goal.spread_from-returns
spread_from-returns g t c =
    let cut = c.split_at_mut-part in
    changes_both (ChangesAt g.F.Fn c.args.f.now) c.args.base c.args.s.now cut.result.0.now cut.result.1.now _ _ _
    cut.ensures.value cut.ensures.front_len c.part_and_rest.ensures.part c.part_and_rest.ensures.more
