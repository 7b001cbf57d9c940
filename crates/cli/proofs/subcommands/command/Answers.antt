-- One subcommand more.
use Rattle.cli.specs.CommandLine.{all_subcommands}
use Rattle.cli.proofs.Parsing.{command_step}
use Rattle.cli.proofs.subcommands.command.Goals as goal

pub loop-subcommand-preserved : goal.loop-subcommand-preserved
loop-subcommand-preserved c =
    command_step _ _ _ _ all_subcommands c.loop-subcommand.subcommand-index _ c.loop-subcommand-test.true
    c.in_ok-line-2.ensures c.in_ok-command.ensures c.loop-subcommand.invariant
