-- The last line ends the report.
use Rattle.std.proofs.Common.{option_map}
use Rattle.sokopar.proofs.ByLine.{sent_end}
use Rattle.sokopar.proofs.levels.send_report.Goals as goal

pub returns : goal.returns
returns g c =
    sent_end _ (option_map (λ path. path.now) c.args.folder) c.args.request c.args.bytes.now c.in_ok-levels.levels c.send_levels.new.kinds.items
    c.as_slice.result.now _ _ _ c.in_ok-end.end c.send.result c.in_ok-levels.ensures.ok c.as_slice.ensures.value c.in_ok-end.ensures c.send.ensures
