-- The gap is written, and then the level, if it is wanted.
use Rattle.std.proofs.Common.{sym, ◌∙◌}
use Rattle.sokopar.specs.Entries.{listed_of}
use Rattle.sokopar.proofs.Explanations.{level-other, page-next}
use Rattle.sokopar.proofs.explain.put_next.Goals as goal

pub returns-then-not-is_wanted : goal.returns-then-not-is_wanted
returns-then-not-is_wanted c = λ bytes found listing count listed source before.
    let gap = c.in_ok-put_gap.ensures bytes c.args.wanted listing before in
    record {
      text = level-other bytes c.args.wanted c.args.number listing (listed_of c.args.source.entry) c.put_gap.new.page count
          (sym c.is_wanted.ensures ∙ c.if-not-is_wanted.true) gap.text;
      broken = gap.broken;
    }

pub returns : goal.returns
returns c = λ bytes found listing count listed source before.
    let gap = c.in_ok-put_gap.ensures bytes c.args.wanted listing before in
    page-next c.put_level.result bytes c.args.wanted _ c.put_level.new.page c.put_gap.new.broken gap.broken
    (c.put_level.ensures bytes found listing count listed source (sym c.is_wanted.ensures ∙ c.if-not-is_wanted.false) gap.text)
