-- What a cap admits: what comes before an admitted position is admitted, and so is each position after fewer pushes.
use Rattle.std.proofs.Common.{◌≡◌, ℕ, suc, ◌+◌, ◌≤◌, List, ◌∷◌, length, arith}
use Rattle.grid.specs.declared.dir.Dir.{Dir}
use Rattle.grid.specs.declared.square.Push.{Push}
use Rattle.grid.specs.Board.{Board, Scene, start}
use Rattle.grid.specs.States.{IsScene}
use Rattle.grid.specs.Plays.{Play, Any}
use Rattle.grid.specs.Plays.Play.{stay, walk, push}
use Rattle.grid.proofs.lemmas.Plays.{play_any, play_scene}
use Rattle.grid.proofs.lemmas.Steps.{scene_after_walk, scene_after_push}
use Rattle.area.proofs.lemmas.Norms.{norm_walk}
use Rattle.doom.specs.Bounds.{IsLower}
use Rattle.doom.proofs.lemmas.Bounds.{push_lessens}
use Rattle.successors.specs.Problems.{Problem}
use Rattle.successors.specs.Capping.{Admits}
use Rattle.successors.specs.Reaching.{Reaches}
use Rattle.successors.specs.Expansion.{IsSuccessor}

-- along a play the least sum falls by no more than the number of its pushes
pub play_lessens : (board : Board) (s t : Scene) (ds : List Dir) (ps : List Push) (low : ℕ) → IsScene board s → Play board Any s ds ps t →
    IsLower board t.boxes low → (n : ℕ) × IsLower board s.boxes n × (n ≤ length ps + low)
play_lessens board s t ds ps low scene (stay ok) lower = (low, lower, omega arith)
play_lessens board s t (d ∷ ds) ps low scene (walk {m = m} ok step play) lower =
    grind (arith, play_lessens board m t ds ps low (scene_after_walk board s d m scene step) play lower)
play_lessens board s t (d ∷ ds) (p ∷ ps) low scene (push {m = m} ok step play) lower =
    grind (arith, play_lessens board m t ds ps low (scene_after_push board s d m scene step) play lower, scene_after_push, push_lessens)

-- what an admitted successor comes from was admitted one push before
pub admitted_before : (problem : Problem) → IsScene problem.board (start problem.board) → (k : ℕ) (ps : List Push) (n : Scene) (p : Push) (m : Scene) →
    Reaches problem.board ps n → IsSuccessor problem.board n p m → Admits problem (suc k) m → Admits problem k n
admitted_before problem scene k ps n p m (ds, t, play, norm) (es, u, next, after) adm =
    grind (arith, play_scene, norm_walk, play_lessens, play_any)

-- what is admitted late is admitted early
pub admitted_earlier : (problem : Problem) (j k : ℕ) (n : Scene) → j ≤ k → Admits problem k n → Admits problem j n
admitted_earlier problem j k n early adm = grind arith

-- positions with the same boxes are admitted alike
pub admitted_alike : (problem : Problem) (k : ℕ) (m n : Scene) → m.boxes ≡ n.boxes → Admits problem k m → Admits problem k n
admitted_alike problem k m n same adm = grind arith
