use Rattle.std.proofs.Common.{◌≡◌, ◌<◌, ℕ, Bool, true, length, sym, ap, subst, ◌∙◌}
use Rattle.grid.specs.Board.{Board, next}
use Rattle.grid.specs.Masks.{word_count}
use Rattle.grid.specs.Squares.{Squares, contains, insert, remove}
use Rattle.grid.proofs.lemmas.Squares.{contains-insert_here}
use Rattle.grid.proofs.lemmas.Steps.{inside_grid}
use Rattle.area.specs.Words.{squares_of}
use Rattle.area.proofs.lemmas.Flooding.{words_enough}
use Rattle.doom.specs.inside.Holding.{AreHolds}
use Rattle.doom.specs.inside.LockedOn.{TellsLockedOn}
use Rattle.doom.proofs.LockedOn.{told_doomed}
use Rattle.doom.proofs.after.dooms.Goals as goal

-- the pushed box
there : (after before : Squares) (from to : ℕ) → after ≡ insert (remove before from) to → contains after to ≡ true
there after before from to moved = subst (λ (bs : Squares). contains bs to ≡ true) (sym moved) (contains-insert_here (remove before from) to)

pub is_locked_on-told-requires-clause-from : goal.is_locked_on-told-requires-clause-from
is_locked_on-told-requires-clause-from c =
    words_enough (length c.args.level.now.cells) (length c.as_words-boxes.result.now) c.args.push.square
    (ap length c.as_words-boxes.ensures ∙ (c.boxes.ensures.size ∙ ap word_count c.requires.room)) c.requires.inside

pub is_locked_on-told-requires-clause-to : goal.is_locked_on-told-requires-clause-to
is_locked_on-told-requires-clause-to c =
    let board : Board = c.args.level.now in
    let ahead : ℕ = next board c.args.push.square c.args.push.dir in
    words_enough (length board.cells) (length c.as_words-boxes.result.now) c.next-ahead.result
    (ap length c.as_words-boxes.ensures ∙ (c.boxes.ensures.size ∙ ap word_count c.requires.room))
    (subst (λ (x : ℕ). x < length board.cells) (sym c.next-ahead.ensures) (inside_grid board ahead (c.requires.fits.scene.boxes ahead
    (there c.args.position.now.boxes c.args.scratch.now.boxes c.args.push.square ahead c.requires.moved))))

pub returns-in-Some-clause-doomed : goal.returns-in-Some-clause-doomed
returns-in-Some-clause-doomed c =
    let board : Board = c.args.level.now in
    let holds = c.holds.result.now in
    let after = c.args.position.now.boxes in
    let before = c.args.scratch.now.boxes in
    let from = c.args.push.square in
    let ahead : ℕ = next board from c.args.push.dir in
    let told : Bool = c.in-Some.told in
    told_doomed board holds (subst (λ (b : Board). AreHolds b holds) c.requires.dead_of_level c.holds.ensures) before after from ahead c.requires.moved
    (λ q h. inside_grid board q (c.requires.fits.scene.boxes q h)) c.requires.live c.requires.undoomed told
    (subst (λ (bs : Squares). TellsLockedOn holds board.cols bs ahead told) (sym c.requires.moved)
    (subst (λ (bs : Squares). TellsLockedOn holds board.cols (insert (remove bs from) ahead) ahead told)
    (ap squares_of c.as_words-boxes.ensures ∙ c.boxes.ensures.boxes)
    (subst (λ (x : ℕ). TellsLockedOn holds board.cols (insert (remove (squares_of c.as_words-boxes.result.now) from) x) x told) c.next-ahead.ensures
    (subst (λ (n : ℕ). TellsLockedOn holds n (insert (remove (squares_of c.as_words-boxes.result.now) from) c.next-ahead.result) c.next-ahead.result told)
    c.cols.ensures c.in-Some.ensures))))

pub doomed_after-requires-clause-moved : goal.doomed_after-requires-clause-moved
doomed_after-requires-clause-moved c =
    there c.args.position.now.boxes c.args.scratch.now.boxes c.args.push.square (next c.args.level.now c.args.push.square c.args.push.dir) c.requires.moved

pub returns-clause-doomed : goal.returns-clause-doomed
returns-clause-doomed c = c.doomed_after.ensures.same (c.args.scratch.now.boxes, c.requires.moved, c.requires.undoomed)
