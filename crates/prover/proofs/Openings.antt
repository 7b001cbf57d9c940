-- What the open positions of a search say, over plain lists.
use Rattle.std.proofs.Common.{◌≡◌, ℕ, zero, suc, ◌+◌, ◌≤◌, ◌<◌, ◌⊎◌, List, [], ◌∷◌, length, Option, None, Some, inl}
use Rattle.std.proofs.Common.{inr, refl, sym, subst, ◌∙◌, arith}
use Rattle.std.proofs.lemmas.Bool.{cases_lt}
use Rattle.std.proofs.lemmas.Option.{none-some}
use Rattle.std.specs.Prelude.{slice_get}
use Rattle.grid.specs.Board.{Board, Scene, IsSolved, start}
use Rattle.grid.specs.Plays.{stay}
use Rattle.grid.proofs.lemmas.Levels.{start_is_scene}
use Rattle.area.specs.Area.{IsNorm}
use Rattle.area.specs.Pushes.{CanPush}
use Rattle.successors.specs.Expansion.{after_push}
use Rattle.grid.proofs.lemmas.Plays.{walk_keeps_boxes}
use Rattle.lurd.proofs.lemmas.Solutions.{solved_or_not}
use Rattle.doom.specs.Lost.{IsLost}
use Rattle.prices.specs.Solving.{Allows, SolvableWithin}
use Rattle.prices.proofs.lemmas.Solving.{solved_before, norms_change_nothing}
use Rattle.prover.proofs.Deferring.{tightened}
use Rattle.prover.proofs.Keeping.{keeps_so}
use Rattle.store.specs.Visited.{Node}
use Rattle.store.specs.Earlier.{IsFoundWithin}
use Rattle.prover.specs.Frontier.{IsDoneFor, IsBelowLeast, IsSettled, IsSoundEntry, AreSoundEntries}
use Rattle.prover.specs.Frontier.{IsOnTheWay, IsBound, ComesFrom, NoneGoesOn, NothingIsLost, LeastBounds, ClosedDecides}
use Rattle.prover.specs.inside.Working.{KeepPlaces, Expands, tighter}
use Rattle.store.specs.declared.visited.Parent.{Parent}

pub allows_fewer : (cap : Option ℕ) (m n : ℕ) → m ≤ n → Allows cap n → Allows cap m
allows_fewer None m n le ok = tt
allows_fewer (Some most) m n le ok = omega (arith, le, ok)

-- none goes on from a position with a bound that the cap does not allow
pub none_over : (board : Board) (cap : Option ℕ) (k total : ℕ) (s : Scene) → IsBound board k s total →
    ¬ (Allows cap total) → NoneGoesOn board cap k s
none_over board cap k total s bound over rest allowed solvable =
    over (allows_fewer cap total (k + rest) (bound rest solvable) allowed)

-- nor where no play ends solved
pub none_lost : (board : Board) (cap : Option ℕ) (k : ℕ) (s : Scene) → IsLost board s → NoneGoesOn board cap k s
none_lost board cap k s lost rest allowed (ds, ps, t, play, solved, few) = lost t ds ps play solved

-- within no push, only solved states are solvable
none_solved : (board : Board) (s : Scene) → SolvableWithin board 0 s → IsSolved board s
none_solved board s (ds, [], t, play, solved, few) = solved_before board s t (walk_keeps_boxes play) solved
none_solved board s (ds, p ∷ ps, t, play, solved, few) = absurd (omega (arith, few))

module _ (board : Board) (cap : Option ℕ) (all : List Node) (m : ℕ) (sound : AreSoundEntries board cap all)
    (allowed : Allows cap m) where
  -- a position is open with a least number up to m, or is done with for plays of m pushes
  open_or_done : (x : Node) → IsSettled board cap all x →
      ((least : ℕ) × (x.least ≡ Some least) × (least ≤ m)) ⊎ IsDoneFor board m all x
  open_or_done x settled = by x.least refl
    where
      by : (o : Option ℕ) → x.least ≡ o → ((least : ℕ) × (x.least ≡ Some least) × (least ≤ m)) ⊎ IsDoneFor board m all x
      by None is = inr (settled m allowed (subst (λ (o : Option ℕ). IsBelowLeast o m) (sym is) tt))
      by (Some least) is = elim (cases_lt m least) [
        | inl lt ↦ inr (settled m allowed (subst (λ (o : Option ℕ). IsBelowLeast o m) (sym is) lt))
        | inr le ↦ inl (least, is, le)
      ]

  way : (i : ℕ) (x : Node) → slice_get all i ≡ Some x → (least rest : ℕ) → x.least ≡ Some least → least ≤ m →
      x.pushes + rest ≤ m → SolvableWithin board rest x.position → IsOnTheWay board m all
  way i x at least rest is low few solvable = record {
    place = i;
    entry = x;
    least = least;
    rest = rest;
    at = at;
    is_open = is;
    low = low;
    few = few;
    solvable = solvable;
  }

  -- a position that was found, and is solvable with the pushes that are left, is on the way or leads to one that is
  led_on : (rest k : ℕ) (s : Scene) → IsFoundWithin all k s → k + rest ≤ m → SolvableWithin board rest s →
      IsOnTheWay board m all
  led_on zero k s (i, x, at, same, le) few solvable = elim (open_or_done x (sound i x at).settled) [
    | inl (least, is, low) ↦
        way i x at least 0 is low (omega (arith, few, le)) (subst (SolvableWithin board 0) (sym same) solvable)
    | inr done ↦ absurd (let lt = done.unsolved (subst (IsSolved board) (sym same) (none_solved board s solvable)) in
        omega (arith, lt, few, le))
  ]
  led_on (suc rest) k s (i, x, at, same, le) few solvable = elim (open_or_done x (sound i x at).settled) [
    | inl (least, is, low) ↦ way i x at least (suc rest) is low (omega (arith, few, le)) here
    | inr done ↦ by_solved done (λ t found less more. led_on rest (suc x.pushes) t found less more)
        (solved_or_not board x.position)
  ]
    where
      here : SolvableWithin board (suc rest) x.position
      here = subst (SolvableWithin board (suc rest)) (sym same) solvable

      by_solved : IsDoneFor board m all x →
          ((t : Scene) → IsFoundWithin all (suc x.pushes) t → suc x.pushes + rest ≤ m → SolvableWithin board rest t →
          IsOnTheWay board m all) → IsSolved board x.position ⊎ ¬ (IsSolved board x.position) → IsOnTheWay board m all
      by_solved done onwards (inl solved) = absurd (let lt = done.unsolved solved in omega (arith, lt, few, le))
      by_solved done onwards (inr unsolved) =
          let (t, found, more) = done.keeps rest (omega (arith, few, le)) unsolved here in
          onwards t found (omega (arith, few, le)) more

pub nothing_is_lost : (board : Board) → NothingIsLost board
nothing_is_lost board level cap all m under allowed solvable =
    let (n, norm, found) = under.begun in
    led_on board cap all m under.sound allowed m 0 n found (omega arith)
    ((norms_change_nothing board (start board) n (start_is_scene board level) norm m).0 solvable)

pub least_bounds : (board : Board) → LeastBounds board
least_bounds board level cap all k under from ds ps (t, play, solved) allowed =
    let way = nothing_is_lost board level cap all (length ps) under allowed (ds, ps, t, play, solved, omega arith) in
    let ge = from way.place way.entry way.least way.at way.is_open in
    omega (arith, ge, way.low)

pub closed_decides : (board : Board) → ClosedDecides board
closed_decides board level cap all under closed ds ps (t, play, solved) allowed =
    let way = nothing_is_lost board level cap all (length ps) under allowed (ds, ps, t, play, solved, omega arith) in
    none-some way.least (sym (closed way.place way.entry way.at) ∙ way.is_open)

-- ---- how the positions change

-- places that are kept twice are kept
pub kept_then : (first second third : List Node) → KeepPlaces first second → KeepPlaces second third →
    KeepPlaces first third
kept_then first second third one two i x at =
    let (y, there, same, less) = one i x at in
    let (z, here, alike, fewer) = two i y there in
    (z, here, alike ∙ same, omega (arith, less, fewer))

module _ (old new : List Node) (still : KeepPlaces old new) where
  -- what was found stays found
  pub found_on : (k : ℕ) (s : Scene) → IsFoundWithin old k s → IsFoundWithin new k s
  found_on k s (i, x, at, same, le) =
      let (y, there, alike, less) = still i x at in
      (i, y, there, alike ∙ same, omega (arith, less, le))

  -- where a position comes from stays
  from_on : (board : Board) (x : Node) (o : Option Parent) → ComesFrom board old x o → ComesFrom board new x o
  from_on board x None from = from
  from_on board x (Some step) (y, at, fewer, can, norm) =
      let (z, there, same, less) = still step.place y at in (
        z,
        there,
        omega (arith, fewer, less),
        subst (λ (s : Scene). CanPush board s step.push) (sym same) can,
        subst (λ (s : Scene). IsNorm board (after_push board s step.push) x.position) (sym same) norm,
      )

  -- what is true of it stays so
  pub sound_on : (board : Board) (cap : Option ℕ) (x : Node) → IsSoundEntry board cap old x →
      IsSoundEntry board cap new x
  sound_on board cap x sound = record {
    fits = sound.fits;
    reached = sound.reached;
    from = from_on board x x.parent sound.from;
    total = sound.total;
    settled = λ most allowed before. (let done = sound.settled most allowed before in record {
      unsolved = done.unsolved;
      keeps = keeps_so board (IsFoundWithin old (suc x.pushes)) (IsFoundWithin new (suc x.pushes)) most x.pushes
          x.position (found_on (suc x.pushes)) done.keeps;
    });
  }

-- a position that is open with a true bound is settled
pub settled_open : (board : Board) (cap : Option ℕ) (all : List Node) (x : Node) (least : ℕ) → x.least ≡ Some least →
    IsBound board x.pushes x.position least → IsSettled board cap all x
settled_open board cap all x least open_ bound most allowed before = record {
  unsolved = λ solved. (let le = bound 0 ([], [], x.position, stay tt, solved, omega arith) in omega (arith, le, lt));
  keeps = λ m few unsolved solvable. absurd (let le = bound (suc m) solvable in omega (arith, le, lt, few));
}
  where
    lt : most < least
    lt = subst (λ (o : Option ℕ). IsBelowLeast o most) open_ before

-- a position whose expansion kept what it has to, up to what is left for later, is settled up to there
pub settled_expanded : (board : Board) (cap : Option ℕ) (all : List Node) (x : Node) (next : Option ℕ) →
    x.least ≡ next → ¬ (IsSolved board x.position) → Expands board (tighter cap next)
    (IsFoundWithin all (suc x.pushes)) x.pushes x.position → IsSettled board cap all x
settled_expanded board cap all x next is unsolved expands most allowed before = record {
  unsolved = λ solved. absurd (unsolved solved);
  keeps = expands most (tightened cap next most allowed (subst (λ (o : Option ℕ). IsBelowLeast o most) is before));
}
