-- One argument more.
use Rattle.cli.proofs.Parsing.{argument_step}
use Rattle.cli.proofs.subcommands.with_arguments.Goals as goal

pub loop-argument-preserved : goal.loop-argument-preserved
loop-argument-preserved c =
    argument_step _ _ _ _ c.args.arguments.now c.loop-argument.argument-index _ c.loop-argument-test.true
    c.in_ok-line.ensures c.arg.ensures c.loop-argument.invariant
