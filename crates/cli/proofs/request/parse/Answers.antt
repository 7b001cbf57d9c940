-- The matches ask for no request, so the words are none.
use Rattle.std.proofs.Common.{map}
use Rattle.std.specs.String.{string_bytes}
use Rattle.cli.proofs.Parsing.{no_request}
use Rattle.cli.proofs.request.parse.Goals as goal

pub returns-clause-err : goal.returns-clause-err
returns-clause-err c =
    no_request (map string_bytes c.args.words.now) c.in_ok-matches.matches c.asked.result c.in_ok-matches.ensures.ok
    c.asked.ensures.err
