-- What an expansion keeps.
use Rattle.std.proofs.Common.{◌≡◌, ℕ, suc, subst, arith}
use Rattle.grid.specs.declared.square.Push.{Push}
use Rattle.grid.specs.Board.{Board, Scene}
use Rattle.grid.specs.States.{IsScene}
use Rattle.grid.specs.Plays.{push_at}
use Rattle.grid.proofs.lemmas.Plays.{walk_keeps_boxes}
use Rattle.prices.specs.Solving.{SolvableWithin}
use Rattle.prices.proofs.lemmas.Solving.{first_push_leads}
use Rattle.corrals.specs.Trying.{Suffice}
use Rattle.successors.proofs.lemmas.Pushes.{moved}
use Rattle.prover.specs.Frontier.{Keeps}

-- all pushes suffice
pub all_suffice : (board : Board) (left : ℕ) (s : Scene) → IsScene board s → Suffice board left (λ p. Unit {0}) s
all_suffice board left s scene m le unsolved solvable =
    let first = first_push_leads board (suc m) s scene unsolved solvable in
    let p : Push = push_at board first.before first.dir in
    let same = moved board s first.before first.after first.dir (walk_keeps_boxes first.walked.1) first.pushed in
    let one : first.left ≡ m = omega (arith, first.one) in
    let rest : SolvableWithin board m first.after = subst (λ (j : ℕ). SolvableWithin board j first.after) one first.rest in
    let can = first.possible in
    (p, first.after, tt, record { there = can.there; behind = can.behind; ahead = can.ahead; after = same }, rest)

-- what is kept may be told in other words
pub keeps_so : (board : Board) (Kept Other : Scene → Type 0) (most k : ℕ) (s : Scene) →
    ((t : Scene) → Kept t → Other t) → Keeps board most Kept k s → Keeps board most Other k s
keeps_so board Kept Other most k s so keeps m few unsolved solvable =
    let (t, kept, rest) = keeps m few unsolved solvable in (t, so t kept, rest)
