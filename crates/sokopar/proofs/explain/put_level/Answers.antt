-- The rows of the level are told of, or where it is too large.
use Rattle.std.proofs.Common.{Result, subst}
use Rattle.xsb.specs.declared.places.BoardRows.{BoardRows}
use Rattle.xsb.specs.declared.places.Excess.{Excess}
use Rattle.xsb.specs.inside.Sources.{HasRowsFor}
use Rattle.sokopar.specs.Entries.{listed_of}
use Rattle.sokopar.proofs.Explanations.{level-large, level-written}
use Rattle.sokopar.proofs.explain.put_level.Goals as goal

pub returns-in-Ok : goal.returns-in-Ok
returns-in-Ok c = λ bytes found listing count listed source wanted before.
    level-written c.put_judged.result bytes c.args.wanted c.args.number listing c.args.source.entry found source.0 c.in-Ok.rows c.args.page.now
    c.put_judged.new.page count wanted listed source.1
    (subst (λ (r : Result BoardRows Excess). HasRowsFor source.1.lines found.first_line found.board r) c.in-Ok.is source.2)
    (c.put_judged.ensures c.args.number c.in_ok-head.ensures) before

pub returns-in-Err : goal.returns-in-Err
returns-in-Err c = λ bytes found listing count listed source wanted before.
    level-large c.put_large.result bytes c.args.wanted c.args.number listing c.args.source.entry found source.0 c.in-Err.excess c.args.page.now
    c.put_large.new.page count wanted listed source.1
    (subst (λ (r : Result BoardRows Excess). HasRowsFor source.1.lines found.first_line found.board r) c.in-Err.is source.2)
    (c.put_large.ensures c.args.number (listed_of c.args.source.entry) c.in_ok-head.ensures) before
