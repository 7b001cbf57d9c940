use Rattle.std.proofs.Common.{◌≡◌, ℕ, ◌*◌, ◌≤◌, Bool, true, false, not, cond, ◌&&◌, length, ◌∙◌, arith}
use Rattle.std.proofs.lemmas.Bool.{and_left, cond-false}
use Rattle.grid.specs.Board.{is_wall}
use Rattle.grid.specs.declared.masks.TheConstants.{WORD_BITS}
use Rattle.grid.specs.Masks.{has_bit, word_count}
use Rattle.grid.proofs.lemmas.Levels.{level_squares}
use Rattle.area.specs.declared.spread.TheConstants.{BOX_MARK}
use Rattle.area.proofs.BySteps.{steps_found}
use Rattle.area.proofs.steps.reach_by_steps.Goals as goal

at_most : (b : Bool) (mark : ℕ) → mark ≡ cond b BOX_MARK 0 → mark ≤ BOX_MARK
at_most true mark e = omega (arith, e)
at_most false mark e = omega (arith, e)

covered : (n words : ℕ) → words ≡ word_count n → n ≤ WORD_BITS * words
unfolding word_count
covered n words e = omega (arith, e)

pub put_marked-requires-clause-room : goal.put_marked-requires-clause-room
put_marked-requires-clause-room c =
    let enough = covered (length c.args.level.now.cells) (length c.args.reached.now) c.requires.room in
    omega (arith, enough, c.requires.marks)

pub spread-requires : goal.spread-requires
spread-requires c =
    let small = level_squares c.args.level.now c.tell.ensures in
    let from = c.args.from in
    let wall = not (is_wall c.args.level.now from) in
    record {
      begun = record {
        room = omega (arith, c.requires.marks);
        places = c.requires.queue;
        small = omega (arith, small);
        fresh = λ q. at_most (has_bit c.args.barred.now q && not (is_wall c.args.level.now q)) _ (c.bar.ensures q);
        clear = c.requires.floor;
        vacant = (let none = c.bar.ensures from ∙ cond-false (has_bit c.args.barred.now from && wall) BOX_MARK 0
            (and_left (has_bit c.args.barred.now from) wall c.requires.free) in omega (arith, none));
      };
    }

pub returns-clause-reached : goal.returns-clause-reached
returns-clause-reached c = λ s old begun q.
    let marked = c.put_marked.ensures.put q in
    let found = steps_found c.args.level.now s c.args.from c.args.barred.now old c.spread.new.marks c.bar.new.marks begun c.bar.ensures
    c.spread.ensures.blocked c.spread.ensures.spread q in
    (λ h. found.0 (marked.0 h), λ w. marked.1 (found.1 w))
