use Rattle.std.proofs.Common.{◌≡◌, ◌≤◌, is_err, vec_len, length, replicate, sym, ap, subst, ◌∙◌, arith}
use Rattle.std.specs.Arc.{arc_value}
use Rattle.grid.specs.Lawful.{IsLevel, box_count}
use Rattle.successors.specs.Problems.{Problem}
use Rattle.layers.specs.BookView.{IsShareOfLayer}
use Rattle.layers.proofs.First.{fresh_lawful, fresh_cuts, fresh_new}
use Rattle.successors.proofs.lemmas.Lists.{resized}
use Rattle.layers.proofs.book.Book.with_first.Goals as goal

pub invariant_of-result : goal.invariant_of-result
invariant_of-result c =
    let problem = arc_value c.args.problem in let seen = c.in_ok-found.found.seen in
    let layer : IsShareOfLayer problem c.args.shares c.args.share 0 seen × (length seen ≤ 1) =
    subst (λ (t : Problem). IsShareOfLayer t c.args.shares c.args.share 0 seen × (length seen ≤ 1)) c.deref-2.ensures c.in_ok-found.ensures.layer in
    let starts : c.resize.new.self.items ≡ replicate 1 0 = resized c.resize.result 1
    (vec_len c.new-starts.result) 0 c.new-starts.result.items c.resize.new.self.items c.new-starts.ensures.items (c.new-starts.ensures.len
    ∙ sym (ap length c.new-starts.ensures.items)) (sym (ap is_err c.in_ok-resize.was)) c.resize.ensures.items in let tallies = c.in_ok-tallies.ensures in
    let level : IsLevel problem.board = subst (λ (t : Problem). IsLevel t.board) c.deref.ensures c.tell.ensures in
    record {
      lawful = fresh_lawful problem c.args.limit c.args.workers c.args.share c.args.shares c.resize.new.self.items
          c.in_ok-tallies.tallies.items c.in_ok-found.found.seen c.none.result c.none-2.result c.in_ok-found.found.waiting layer starts tallies
          c.none.ensures c.none-2.ensures c.in_ok-found.ensures.waiting level c.requires.bounds;
      cuts = fresh_cuts problem c.args.limit c.args.workers c.args.share c.args.shares c.resize.new.self.items
          c.in_ok-tallies.tallies.items c.in_ok-found.found.seen c.none.result c.none-2.result c.in_ok-found.found.waiting layer starts tallies
          c.none.ensures c.none-2.ensures c.in_ok-found.ensures.waiting;
      few = c.requires.few;
      boxes = subst (λ (t : Problem). (c.in_ok-found.found.boxes ≡ box_count t.board) × (c.in_ok-found.found.squares ≡ length t.board.cells)) c.deref-2.ensures
          c.in_ok-found.ensures.size;
      taken = λ r lt. absurd (omega arith);
    }

pub returns : goal.returns
returns c =
    let problem = arc_value c.args.problem in let seen = c.in_ok-found.found.seen in
    let layer : IsShareOfLayer problem c.args.shares c.args.share 0 seen × (length seen ≤ 1) =
    subst (λ (t : Problem). IsShareOfLayer t c.args.shares c.args.share 0 seen × (length seen ≤ 1)) c.deref-2.ensures c.in_ok-found.ensures.layer in
    let starts : c.resize.new.self.items ≡ replicate 1 0 = resized c.resize.result 1 (vec_len c.new-starts.result) 0 c.new-starts.result.items
    c.resize.new.self.items c.new-starts.ensures.items (c.new-starts.ensures.len ∙ sym (ap length c.new-starts.ensures.items))
    (sym (ap is_err c.in_ok-resize.was)) c.resize.ensures.items in let tallies = c.in_ok-tallies.ensures in
    fresh_new problem c.args.limit c.args.workers c.args.share c.args.shares c.resize.new.self.items c.in_ok-tallies.tallies.items
    c.in_ok-found.found.seen c.none.result c.none-2.result c.in_ok-found.found.waiting layer starts tallies c.none.ensures c.none-2.ensures c.in_ok-found.ensures.waiting
