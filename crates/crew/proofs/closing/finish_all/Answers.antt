use Rattle.solo.proofs.lemmas.Rests.{all_closed}
use Rattle.crew.proofs.closing.finish_all.Goals as goal

pub do_rest-requires-clause-begun : goal.do_rest-requires-clause-begun
do_rest-requires-clause-begun g c = λ i v at. (c.requires.working i v at).0

pub returns-clause-finished : goal.returns-clause-finished
returns-clause-finished g c =
    let done = c.do_rest.new.books in (
      done,
      c.do_rest.ensures.still,
      all_closed done c.close_side_by_side.new.books c.close_rest.new.books (rw c.in-Some.is at c.in_ok-do_rest.ensures.done).0 c.close_side_by_side.ensures
          c.in_ok-close_rest.ensures.ok,
    )
