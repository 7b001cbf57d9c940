-- Solved states, and letters that are judged solved: they write a solution, and each solution is written by such letters.
use Rattle.std.proofs.Common.{◌≡◌, ℕ, ◌+◌, Bool, true, false, if◌then◌else◌, List, [], ◌∷◌, ◌⊎◌, length, refl, sym, ap, subst, ◌∙◌, inl, inr, arith}
use Rattle.std.proofs.lemmas.Bool.{false≢true}
use Rattle.std.specs.List.{list_all}
use Rattle.grid.specs.declared.dir.Dir.{Dir}
use Rattle.grid.specs.declared.square.Push.{Push}
use Rattle.grid.specs.declared.moves.Letter.{Letter}
use Rattle.grid.specs.Board.{Board, Scene, IsSolved, is_goal, start}
use Rattle.grid.specs.Plays.{Play, stay, walk, push, Any, IsSolution, dirs_of, letters_of, push_at}
use Rattle.grid.proofs.lemmas.Squares.{all_contained, contained_all}
use Rattle.lurd.specs.declared.verdict.Verdict.TheVariants.{Solved}
use Rattle.lurd.specs.Verdict.{IsVerdictFrom, IsVerdict, StepsAs}
use Rattle.lurd.specs.Solving.{WritesSolution}

-- a state is solved or not
pub solved_or_not : (board : Board) (s : Scene) → IsSolved board s ⊎ ¬ (IsSolved board s)
solved_or_not board s = by (list_all (is_goal board) s.boxes) refl
  where
    by : (b : Bool) → list_all (is_goal board) s.boxes ≡ b → IsSolved board s ⊎ ¬ (IsSolved board s)
    by true e = inl (contained_all (is_goal board) s.boxes e)
    by false e = inr (λ solved. false≢true (sym e ∙ all_contained (is_goal board) s.boxes solved))

-- the directions of the letters of a play are its directions
pub dirs_of_play : {board : Board} {ok : Scene → Type 0} {s t : Scene} {ds : List Dir} {ps : List Push} (play : Play board ok s ds ps t) →
    dirs_of (letters_of play) ≡ ds
dirs_of_play (stay here) = refl
dirs_of_play (walk {d = d} here step rest) = ap (λ es. d ∷ es) (dirs_of_play rest)
dirs_of_play (push {d = d} here step rest) = ap (λ es. d ∷ es) (dirs_of_play rest)

-- there are as many as it has steps
pub moves_of_play : {board : Board} {ok : Scene → Type 0} {s t : Scene} {ds : List Dir} {ps : List Push} (play : Play board ok s ds ps t) →
    length (letters_of play) ≡ length ds
moves_of_play (stay here) = refl
moves_of_play (walk here step rest) = let more = moves_of_play rest in omega (arith, more)
moves_of_play (push here step rest) = let more = moves_of_play rest in omega (arith, more)

solved_from : {board : Board} {s t : Scene} {ds : List Dir} {ps : List Push} (play : Play board Any s ds ps t) (p m q n : ℕ) → IsSolved board t →
    q ≡ p + length ps → n ≡ m + length ds → IsVerdictFrom board s p m (letters_of play) (Solved q n)
solved_from (stay here) p m q n solved pushes moves =
    let a : q ≡ p = omega (arith, pushes) in
    let b : n ≡ m = omega (arith, moves) in
    inl (solved, cc)
solved_from (walk here step rest) p m q n solved pushes moves =
    inr (inr (_, step, solved_from rest p (m + 1) q n solved (omega (arith, pushes)) (omega (arith, moves))))
solved_from (push here step rest) p m q n solved pushes moves =
    inr (inr (_, step, solved_from rest (p + 1) (m + 1) q n solved (omega (arith, pushes)) (omega (arith, moves))))

-- the letters of a play to a solved state are judged solved
pub solved_of_play : {board : Board} {t : Scene} {ds : List Dir} {ps : List Push} {letters : List Letter} (play : Play board Any (start board) ds ps t) →
    letters_of play ≡ letters → IsSolved board t → IsVerdict board letters (Solved (length ps) (length letters))
solved_of_play {board} {t} {ds} {ps} {letters} play written solved =
    let moves = moves_of_play play in
    subst (λ (ls : List Letter). IsVerdict board ls (Solved (length ps) (length ls))) written
    (solved_from play 0 0 (length ps) (length (letters_of play)) solved (omega arith) (omega (arith, moves)))

-- what letters that are judged solved write
record WritesFrom (board : Board) (s : Scene) (p m : ℕ) (letters : List Letter) (pushes moves : ℕ) : Type 0 where
  pub end : Scene
  pub list : List Push
  pub play : Play board Any s (dirs_of letters) list end
  pub solved : IsSolved board end
  pub pushes_are : pushes ≡ p + length list
  pub moves_are : moves ≡ m + length letters

writes_more : (board : Board) (s t : Scene) (p m : ℕ) (x : Letter) (xs : List Letter) (pushes moves : ℕ) (b : Bool) → StepsAs board s x.dir b t →
    WritesFrom board t (if b then p + 1 else p) (m + 1) xs pushes moves → WritesFrom board s p m (x ∷ xs) pushes moves
writes_more board s t p m x xs pushes moves true step rest = record {
  end = rest.end;
  list = push_at board s x.dir ∷ rest.list;
  play = push tt step rest.play;
  solved = rest.solved;
  pushes_are = let e = rest.pushes_are in omega (arith, e);
  moves_are = let e = rest.moves_are in omega (arith, e);
}
writes_more board s t p m x xs pushes moves false step rest = record {
  end = rest.end;
  list = rest.list;
  play = walk tt step rest.play;
  solved = rest.solved;
  pushes_are = let e = rest.pushes_are in omega (arith, e);
  moves_are = let e = rest.moves_are in omega (arith, e);
}

writes_from : (board : Board) (s : Scene) (p m : ℕ) (letters : List Letter) (pushes moves : ℕ) → IsVerdictFrom board s p m letters (Solved pushes moves) →
    WritesFrom board s p m letters pushes moves
writes_from board s p m [] pushes moves (inl (solved, e)) =
    let a : pushes ≡ p = cc in
    let b : moves ≡ m = cc in
    record { end = s; list = []; play = stay tt; solved = solved; pushes_are = omega (arith, a); moves_are = omega (arith, b) }
writes_from board s p m [] pushes moves (inr (unsolved, e)) = cc
writes_from board s p m (x ∷ xs) pushes moves (inl (blocked, e)) = cc
writes_from board s p m (x ∷ xs) pushes moves (inr (inl (wrong, e))) = cc
writes_from board s p m (x ∷ xs) pushes moves (inr (inr (t, step, more))) =
    writes_more board s t p m x xs pushes moves x.push step (writes_from board t _ _ xs pushes moves more)

-- letters that are judged solved write a solution
pub solution_of_solved : (board : Board) (letters : List Letter) (pushes moves : ℕ) → IsVerdict board letters (Solved pushes moves) →
    WritesSolution board letters pushes moves
solution_of_solved board letters pushes moves is =
    let w = writes_from board (start board) 0 0 letters pushes moves is in
    let e = w.pushes_are in
    let f = w.moves_are in
    record { list = w.list; solution = (w.end, w.play, w.solved); pushes_are = omega (arith, e); moves_are = omega (arith, f) }

-- a solution is written by letters that are judged solved
pub solved_of_solution : (board : Board) (ds : List Dir) (ps : List Push) → IsSolution board ds ps → (letters : List Letter) × (dirs_of letters ≡ ds) ×
    IsVerdict board letters (Solved (length ps) (length ds))
solved_of_solution board ds ps (t, play, end) = (letters_of play, dirs_of_play play, solved_from play 0 0 (length ps) (length ds) end (omega arith) (omega arith))

-- solutions and the verdict on the letters that write them
pub ruleset of_solution = (solution_of_solved, solved_of_solution)
