-- What the arguments of a subcommand ask for.
use Rattle.clap.specs.Walk.{Row}
use Rattle.std.specs.Prelude.{List}
use Rattle.cli.specs.declared.request.Request.{Request}
use Rattle.cli.specs.declared.request.Task.{Task}
use Rattle.cli.specs.declared.subcommands.Subcommand.{Subcommand}
use Rattle.cli.specs.Requests.{Asks, AsksTask}

-- arguments that ask for no task ask for no request
pub no_task : (subcommand : Subcommand) (arguments : List Row) → ((task : Task) → ¬ (AsksTask subcommand arguments task))
    → (request : Request) → ¬ (Asks subcommand arguments request)
no_task subcommand arguments none request asks = none request.task asks.task
