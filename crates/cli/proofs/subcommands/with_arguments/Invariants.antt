-- The line has the arguments so far.
use Rattle.std.proofs.Common.{◌≡◌, fold, take}
use Rattle.clap.specs.Simple.{app_of}
use Rattle.cli.specs.CommandLine.{with_argument}
use Rattle.cli.proofs.subcommands.with_arguments.Given as goal

abbrev pub invariant-loop-argument : goal.invariant-loop-argument
invariant-loop-argument l =
    app_of l.line ≡ fold with_argument (app_of l.fn.command) (take l.argument-index l.arguments)
