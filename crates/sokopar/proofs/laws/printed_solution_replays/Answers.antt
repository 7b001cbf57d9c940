use Rattle.sokopar.proofs.Piping.{printed_solution_replays}
use Rattle.sokopar.proofs.laws.printed_solution_replays.Goals as goal

pub returns : goal.returns
returns c =
    printed_solution_replays (record {
      written = c.written_text.ensures;
      reading = c.one_reading.ensures;
      judging = c.one_verdict.ensures;
      one = c.one_collection.ensures.one;
    })
