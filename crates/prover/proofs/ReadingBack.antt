-- The pushes that lead to a position, read back from push to push, and the solution that they make.
use Rattle.std.proofs.Common.{◌≡◌, ℕ, zero, suc, ◌≤◌, List, [], ◌∷◌, ◌++◌, length, reverse, Option, None, Some, sym}
use Rattle.std.proofs.Common.{ap, subst, ◌∙◌, arith, append-nil, append_assoc}
use Rattle.std.proofs.lemmas.List.{reverse-append}
use Rattle.std.proofs.lemmas.Option.{none-some, same_Some}
use Rattle.std.specs.Prelude.{slice_get}
use Rattle.grid.specs.declared.moves.Letter.{Letter}
use Rattle.grid.specs.declared.square.Push.{Push}
use Rattle.grid.specs.Board.{Board, Scene, IsSolved, start}
use Rattle.grid.specs.Plays.{stay}
use Rattle.grid.proofs.lemmas.Plays.{walk_keeps_boxes}
use Rattle.area.specs.Area.{IsNorm}
use Rattle.area.specs.Pushes.{CanPush}
use Rattle.successors.specs.Expansion.{after_push}
use Rattle.lurd.specs.Verdict.{IsVerdict}
use Rattle.lurd.specs.declared.verdict.Verdict.TheVariants.{Solved}
use Rattle.lurd.proofs.lemmas.Solutions.{solved_of_play}
use Rattle.prices.specs.Fewest.{NoneHasFewer}
use Rattle.prices.specs.Solving.{Allows}
use Rattle.prices.proofs.lemmas.Solving.{solved_before}
use Rattle.successors.specs.LeastPlays.{WritesLeastPlay}
use Rattle.store.specs.Visited.{Node}
use Rattle.store.specs.declared.visited.Parent.{Parent}
use Rattle.prover.specs.declared.outcome.Outcome.TheVariants.{Least}
use Rattle.prover.specs.Frontier.{ComesFrom}
use Rattle.prover.specs.Outcomes.{IsOutcome}
use Rattle.prover.specs.inside.SearchEnds.{IsLeastSolved}
use Rattle.prover.specs.inside.Working.{AreLeading, AreReadBack, AreTraced, pushes_at}
use Rattle.prover.proofs.Steps.{leading_more}

-- ---- places

pub pushes_there : (all : List Node) (i : ℕ) (x : Node) → slice_get all i ≡ Some x → pushes_at all i ≡ x.pushes
pushes_there [] i x at = absurd (none-some x at)
pushes_there (z ∷ all) zero x at = ap (λ (w : Node). w.pushes) (same_Some z x at)
pushes_there (z ∷ all) (suc i) x at = pushes_there all i x at

-- ---- reading back

pub back_first : (board : Board) (all : List Node) (place : ℕ) (x y : Node) → slice_get all place ≡ Some y →
    slice_get all place ≡ Some x → AreReadBack board y x (reverse [])
back_first board all place x y there at = record {
  leading = λ ps leading. subst (λ (s : Scene). AreLeading board (ps ++ []) s) (ap (λ (w : Node). w.position) same)
      (subst (λ (qs : List Push). AreLeading board qs y.position) (sym (append-nil ps)) leading);
  few = (let e = ap (λ (w : Node). w.pushes) same in omega (arith, e));
}
  where
    same : y ≡ x
    same = same_Some y x (sym there ∙ at)

-- the parent of the position that was read back to
pub parent_there : (board : Board) (all : List Node) (here : ℕ) (z : Node) (parent : Parent) → AreTraced board all →
    slice_get all here ≡ Some z → z.parent ≡ Some parent → ComesFrom board all z (Some parent)
parent_there board all here z parent traced at is =
    subst (λ (o : Option Parent). ComesFrom board all z o) is (traced here z at).1

pub back_more : (board : Board) (all : List Node) (here : ℕ) (x y z : Node) (parent : Parent) (late : List Push) →
    AreTraced board all → slice_get all here ≡ Some z → z.parent ≡ Some parent → slice_get all parent.place ≡ Some y →
    AreReadBack board z x (reverse late) → AreReadBack board y x (reverse (late ++ parent.push ∷ []))
back_more board all here x y z parent late traced at is there back =
    subst (λ (qs : List Push). AreReadBack board y x qs) (sym (reverse-append late (parent.push ∷ []))) (by (parent_there board all here z parent traced at is))
  where
    by : ComesFrom board all z (Some parent) → AreReadBack board y x (parent.push ∷ reverse late)
    by (w, read, fewer, can, norm) = record {
      leading =
          λ ps leading. subst (λ (qs : List Push). AreLeading board qs x.position) (append_assoc ps (parent.push ∷ []) (reverse late))
          (back.leading (ps ++ parent.push ∷ []) (leading_more (traced parent.place y there).0.scene
          (subst (λ (v : Node). CanPush board v.position parent.push) same can)
          (subst (λ (v : Node). IsNorm board (after_push board v.position parent.push) z.position) same norm) ps leading));
      few = (let e = ap (λ (v : Node). v.pushes) same in let few = back.few in omega (arith, e, fewer, few));
    }
      where
        same : w ≡ y
        same = same_Some w y (sym read ∙ there)

-- the pushes that were read back to the start
pub back_whole : (board : Board) (all : List Node) (here : ℕ) (x y : Node) (late : List Push) → AreTraced board all →
    slice_get all here ≡ Some y → y.parent ≡ None → AreReadBack board y x late →
    AreLeading board late x.position × (length late ≤ x.pushes)
back_whole board all here x y late traced at is back = (
  back.leading [] ([], start board, stay tt, subst (λ (o : Option Parent). ComesFrom board all y o) is (traced here y at).1),
  (let few = back.few in omega (arith, few)),
)

-- ---- the solution

-- the least play with these pushes, which lead to a position that is solved and was found with as few pushes as any solution has
pub solution_by : (board : Board) (cap : Option ℕ) (limit : ℕ) (all : List Node) (place : ℕ) (x : Node) (ps : List Push)
    (t : Scene) (moves : List Letter) (n : ℕ) → n ≡ x.pushes → slice_get all place ≡ Some x →
    AreLeading board ps x.position → length ps ≤ x.pushes → WritesLeastPlay board ps t moves →
    IsLeastSolved board cap all place → IsOutcome board cap limit ⊥ (Least moves n)
solution_by board cap limit all place x ps t moves n count at (ds, s, play, norm) few writes least = (
  subst (λ (m : ℕ). IsVerdict board moves (Solved m (length moves))) (sym whole) (solved_of_play writes.play writes.written end),
  subst (NoneHasFewer board) fewest least.fewest,
  subst (Allows cap) fewest least.allowed,
)
  where
    same : least.entry ≡ x
    same = same_Some least.entry x (sym least.at ∙ at)

    there : IsSolved board s
    there =
        solved_before board s x.position norm.boxes (subst (λ (v : Node). IsSolved board v.position) same least.solved)

    end : IsSolved board t
    end =
        let (fs, ws, cut, first, rest) = writes.common ds s play in
        solved_before board t s (walk_keeps_boxes rest) there

    fewest : least.entry.pushes ≡ n
    fewest = ap (λ (v : Node). v.pushes) same ∙ sym count

    whole : n ≡ length ps
    whole = let le = least.fewest ds ps (s, play, there) in omega (arith, le, fewest, few, count)
