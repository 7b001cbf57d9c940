-- The letters of a play, and of the least one with given pushes.
use Rattle.std.proofs.Common.{◌≡◌, false, List, ◌∷◌, refl, sym, ap, subst, ◌∙◌}
use Rattle.std.specs.Ordering.{is_gt}
use Rattle.grid.specs.declared.dir.Dir.{Dir}
use Rattle.grid.specs.declared.square.Push.{Push}
use Rattle.grid.specs.declared.moves.Letter.{Letter}
use Rattle.grid.specs.Board.{Board, Scene, start, dir_cmp}
use Rattle.grid.specs.Plays.{Play, Any, shortlex, dirs_of, letters_of}
use Rattle.grid.specs.Plays.Play.{stay, walk, push}
use Rattle.successors.specs.LeastPlays.{WritesLeastPlay}

-- the letters of a play have its directions
pub dirs_written : {board : Board} {s t : Scene} {ds : List Dir} {ps : List Push} (q : Play board Any s ds ps t) → dirs_of (letters_of q) ≡ ds
dirs_written (stay o) = refl
dirs_written (walk {d = d} o h q) = ap (λ (ds : List Dir). d ∷ ds) (dirs_written q)
dirs_written (push {d = d} o h q) = ap (λ (ds : List Dir). d ∷ ds) (dirs_written q)

-- the letters of the least play with given pushes write a play of their own directions
pub least_written : (board : Board) (ps : List Push) (t : Scene) (xs : List Letter) → WritesLeastPlay board ps t xs →
    (q : Play board Any (start board) (dirs_of xs) ps t) × (letters_of q ≡ xs)
least_written board ps t xs w =
    subst (λ (ds : List Dir). (q : Play board Any (start board) ds ps t) × (letters_of q ≡ xs)) (sym (dirs_written w.play) ∙ ap dirs_of w.written)
    (w.play, w.written)

-- and no play with these pushes is shorter, or as short and of a lesser text
pub none_lesser : (board : Board) (ps : List Push) (t : Scene) (xs : List Letter) → WritesLeastPlay board ps t xs →
    (es : List Dir) (u : Scene) → Play board Any (start board) es ps u → is_gt (shortlex dir_cmp (dirs_of xs) es) ≡ false
none_lesser board ps t xs w es u other =
    subst (λ (ds : List Dir). is_gt (shortlex dir_cmp ds es) ≡ false) (sym (dirs_written w.play) ∙ ap dirs_of w.written) (w.least es u other)
