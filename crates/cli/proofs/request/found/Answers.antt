-- The line is the program's.
use Rattle.std.proofs.Common.{map}
use Rattle.std.specs.String.{string_bytes}
use Rattle.clap.specs.Simple.{app_of}
use Rattle.cli.proofs.Parsing.{accepted, refused}
use Rattle.cli.proofs.request.found.Goals as goal

pub returns-clause-ok : goal.returns-clause-ok
returns-clause-ok c =
    accepted (app_of c.in_ok-line.line) (map string_bytes c.args.words.now) c.try_get_matches_from.result
    c.in_ok-line.ensures c.try_get_matches_from.ensures.matches c.try_get_matches_from.ensures.kinds

pub returns-clause-err : goal.returns-clause-err
returns-clause-err c =
    refused (app_of c.in_ok-line.line) (map string_bytes c.args.words.now) c.try_get_matches_from.result
    c.in_ok-line.ensures c.try_get_matches_from.ensures.kinds
