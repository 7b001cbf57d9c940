-- The line has the subcommands so far.
use Rattle.std.proofs.Common.{◌≡◌, fold, take}
use Rattle.clap.specs.Simple.{app_of}
use Rattle.cli.specs.CommandLine.{all_subcommands, bare_program, with_command}
use Rattle.cli.proofs.subcommands.command.Given as goal

abbrev pub invariant-loop-subcommand : goal.invariant-loop-subcommand
invariant-loop-subcommand l =
    app_of l.line ≡ fold with_command bare_program (take l.subcommand-index all_subcommands)
