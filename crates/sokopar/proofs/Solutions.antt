-- A solution that is given replays as solved, and so does the line that holds it.
use Rattle.std.proofs.Common.{ℕ, List, [], ◌∷◌, ◌++◌, length, Option, refl, sym, ap, subst, ◌∙◌, append-nil}
use Rattle.std.proofs.lemmas.Grind.{flat_map-append}
use Rattle.std.specs.List.{AllByRecursion, flat_map}
use Rattle.grid.specs.declared.moves.Letter.{Letter}
use Rattle.grid.specs.Board.{Board}
use Rattle.lurd.specs.declared.verdict.Verdict.TheVariants as verdict
use Rattle.lurd.specs.Text.{Piece, blank, IsPiece, IsText, spelling, meaning}
use Rattle.lurd.specs.Verdict.{IsVerdict}
use Rattle.lurd.proofs.lemmas.Solutions.{solved_of_play}
use Rattle.solo.specs.declared.answer.Answer.TheVariants as answer
use Rattle.successors.specs.Capping.{capped}
use Rattle.solo.specs.Answers.{IsAnswer}
use Rattle.sokopar.specs.Report.{line}

pub solution_replays : (board : Board) (cap : Option ℕ) (limit : ℕ) (moves : List Letter) (pushes positions : ℕ) →
    IsAnswer (capped board cap) limit (answer.Solved moves pushes positions) → IsVerdict board moves (verdict.Solved pushes (length moves))
solution_replays board cap limit moves pushes positions is =
    let writes = is.0 in
    subst (λ (n : ℕ). IsVerdict board moves (verdict.Solved n (length moves))) writes.count
    (solved_of_play writes.play writes.written writes.solved)

each_and : (pieces : List Piece) (piece : Piece) → AllByRecursion IsPiece pieces → IsPiece piece → AllByRecursion IsPiece (pieces ++ piece ∷ [])
each_and [] piece each is = (is, tt)
each_and (p ∷ ps) piece each is = (each.0, each_and ps piece each.1 is)

-- a text with a line feed at its end is a text of the same letters
pub text_line : (bytes : List ℕ) (letters : List Letter) → IsText bytes letters → IsText (line bytes) letters
text_line bytes letters text =
    let feed : Piece = blank 10 in
    record {
      pieces = text.pieces ++ feed ∷ [];
      each = each_and text.pieces feed text.each refl;
      spelled = ap line text.spelled ∙ sym (flat_map-append spelling text.pieces (feed ∷ []));
      meant = text.meant ∙ sym (flat_map-append meaning text.pieces (feed ∷ []) ∙ append-nil (flat_map meaning text.pieces));
      few = text.few;
    }
