-- Steps of a search, over plain lists of what was found.
use Rattle.std.proofs.Common.{◌≡◌, ℕ, suc, ◌+◌, ◌≤◌, ◌<◌, List, [], ◌∷◌, ◌++◌, length, Option, None, Some, inl, inr}
use Rattle.std.proofs.Common.{refl, sym, ap, subst, arith, set, Bool, true, false, IsTrue}
use Rattle.std.proofs.lemmas.Bool.{cases_lt, false≢true}
use Rattle.std.proofs.lemmas.List.{length-append, length-set}
use Rattle.std.proofs.lemmas.Option.{same_Some, slice_get_within}
use Rattle.std.specs.Prelude.{slice_get}
use Rattle.grid.specs.declared.dir.Dir.{Dir}
use Rattle.grid.specs.declared.square.Push.{Push}
use Rattle.grid.specs.Board.{Board, Scene, IsSolved, start}
use Rattle.grid.specs.States.{IsScene, FitsLevel}
use Rattle.grid.specs.Lawful.{IsLevel}
use Rattle.grid.specs.Plays.{Play, Any, stay}
use Rattle.grid.specs.Masks.{has_bit}
use Rattle.grid.proofs.lemmas.Plays.{play-append}
use Rattle.area.specs.Area.{IsNorm}
use Rattle.area.specs.Pushes.{ArePushes, CanPush}
use Rattle.area.proofs.lemmas.Norms.{norm_walk}
use Rattle.prices.specs.Solving.{Allows, SolvableWithin}
use Rattle.prices.specs.Helping.{NeverHelps, SlackView}
use Rattle.prices.proofs.lemmas.Solving.{norms_change_nothing}
use Rattle.corrals.specs.Corrals.{IsClosure}
use Rattle.corrals.specs.Trying.{Suffice}
use Rattle.corrals.proofs.lemmas.Corrals.{corrals_suffice}
use Rattle.successors.specs.Expansion.{after_push}
use Rattle.successors.specs.Problems.{Problem}
use Rattle.successors.proofs.lemmas.Lists.{at-push, at_before, at_seam, set_at}
use Rattle.successors.proofs.lemmas.Successors.{after_scene}
use Rattle.store.specs.Visited.{Node, VisitedView, with_least}
use Rattle.prover.specs.declared.pushing.Expanded.{Expanded}
use Rattle.prover.specs.declared.pushing.Opened.{Opened}
use Rattle.prices.specs.Searching.{SomeHas}
use Rattle.prover.specs.Frontier.{IsReachedAfter, IsSoundEntry, IsSearchUnderWay, IsBound, IsTotal}
use Rattle.store.specs.Earlier.{IsFoundWithin}
use Rattle.prover.specs.Frontier.{IsLeast, NoneGoesOn}
use Rattle.prover.specs.inside.Working.{IsWaiting, HasLeastAt, KeepPlaces, Expands, IsPushDone, ArePushesDone, IsChosen}
use Rattle.prover.specs.inside.Working.{Enters, AreLeading, IsSearchOnBoard, IsFoundAt, IsExpanding, Widens, IsLater}
use Rattle.prover.specs.inside.Working.{lesser_total, AreEntered, IsKept, IsOpenedPosition, IsOpenedBy, Opens, tighter}
use Rattle.prices.proofs.lemmas.Lists.{upto_more}
use Rattle.prover.proofs.Keeping.{all_suffice, keeps_so}
use Rattle.prices.proofs.lemmas.Slacks.{never_solves}
use Rattle.successors.proofs.lemmas.Pushes.{is_pushed, play_by_push}
use Rattle.prover.proofs.Openings.{allows_fewer, found_on, settled_open, settled_expanded, sound_on}
use Rattle.prover.proofs.Deferring.{lesser_below}
use Rattle.prover.proofs.Entering.{goes_then, kept_set, same_turns}

-- ---- a push is done with

-- what is made for a problem is made for an equal one
pub made_for : {t u : Problem} {n : Scene} (s : Scene) (p : Push) → t ≡ u →
    IsNorm t.board (after_push t.board s p) n × FitsLevel t.board n →
    IsNorm u.board (after_push u.board s p) n × FitsLevel u.board n
made_for {n = n} s p same made =
    subst (λ (t : Problem). IsNorm t.board (after_push t.board s p) n × FitsLevel t.board n) same made

-- a play goes on from a position that a play reached, and solves it
solution_from : (board : Board) (k : ℕ) (n t : Scene) (ds : List Dir) (ps : List Push) → IsReachedAfter board k n →
    Play board Any n ds ps t → IsSolved board t → SomeHas board (k + length ps)
solution_from board k n t ds ps (es, qs, s, play, norm, long) rest solved =
    let to = norm_walk norm in (
      es ++ (to.0 ++ ds),
      qs ++ ps,
      (t, play-append play (play-append to.1 rest), solved),
      (let size = length-append qs ps in omega (arith, size, long)),
    )

module _ {board : Board} {s : Scene} {p : Push} (scene : IsScene board s) (can : CanPush board s p) where
  module _ {n : Scene} (norm : IsNorm board (after_push board s p) n) where
    -- what is solvable after the push is solvable from its normal form
    from_norm : (m : ℕ) → SolvableWithin board m (after_push board s p) → SolvableWithin board m n
    from_norm m solvable =
        (norms_change_nothing board (after_push board s p) n (after_scene board s scene p can) norm m).0 solvable

    -- that is kept
    pub taken_found : (cap : Option ℕ) (Kept : Scene → Type 0) (k : ℕ) → Kept n → IsPushDone board cap Kept k s p
    taken_found cap Kept k kept m allowed solvable = (n, kept, from_norm m solvable)

    -- no play that a cap no lower allows goes on from there and ends solved
    pub taken_none : (cap lower : Option ℕ) (Kept : Scene → Type 0) (k : ℕ) →
        ((m : ℕ) → Allows lower m → Allows cap m) → NoneGoesOn board cap (suc k) n → IsPushDone board lower Kept k s p
    taken_none cap lower Kept k narrows none m allowed solvable = absurd (none m
        (allows_fewer cap (suc k + m) (k + suc m) (omega arith) (narrows (k + suc m) allowed)) (from_norm m solvable))

    -- the push is left for later
    pub taken_later : (cap next : Option ℕ) (Kept : Scene → Type 0) (k total : ℕ) → IsBound board (suc k) n total →
        IsPushDone board (tighter cap (lesser_total next total)) Kept k s p
    taken_later cap next Kept k total bound m allowed solvable = absurd (
        let le = bound m (from_norm m solvable) in
        let lt = lesser_below cap next total (k + suc m) (omega arith) allowed in
        omega (arith, le, lt)
        )

    -- the pushes that lead to the position, and then this one
    pub leading_more : (ps : List Push) → AreLeading board ps s → AreLeading board (ps ++ p ∷ []) n
    leading_more ps (ds, t, play, here) =
        let to = norm_walk here in (
          ds ++ (to.0 ++ (can.behind.0 ++ p.dir ∷ [])),
          after_push board s p,
          play-append play (play-append to.1 (play_by_push board s p scene can can.behind.1 (stay tt))),
          norm,
        )

    pub reached_after : (k : ℕ) → IsReachedAfter board k s → IsReachedAfter board (suc k) n
    reached_after k (ds, ps, t, play, here, long) =
        let (es, u, more, end) = leading_more ps (ds, t, play, here) in
        (es, ps ++ p ∷ [], u, more, end, (let size = length-append ps (p ∷ []) in omega (arith, size, long)))

  -- it never helps with fewer pushes than `least`, where the cap allows fewer, or as few as no solution has
  pub taken_dear : (cap : Option ℕ) (Kept : Scene → Type 0) (k low total least : ℕ) (v : SlackView) →
      IsReachedAfter board k s → (v.board ≡ board) × (v.scene ≡ s) →
      ((m : ℕ) → m < least → NeverHelps v.board m v.scene p.square p.dir) → low ≤ k + least →
      ((n : ℕ) → SomeHas board n → low ≤ n → total ≤ n) → ((m : ℕ) → Allows cap (k + suc m) → k + suc m < total) →
      IsPushDone board cap Kept k s p
  taken_dear cap Kept k low total least v reached same never le rounds below m allowed (ds, ps, t, play, solved, few) =
      absurd (elim (cases_lt (k + suc (length ps)) low) [
        | inl lt ↦
            (let helps = never (suc (length ps)) (omega (arith, le, lt)) in
            let more = never_solves board s (after_push board s p) p scene (is_pushed board s p can) v (length ps) same helps ds ps t play solved in
            omega (arith, more))
        | inr ge ↦
            (let whole = play_by_push board s p scene can can.behind.1 play in
            let some = solution_from board k s t (can.behind.0 ++ p.dir ∷ ds) (p ∷ ps) reached whole solved in
            let up = rounds (k + suc (length ps)) some ge in
            let lt = below m allowed in
            omega (arith, up, lt, few))
      ])

-- what the cap allows is less than a total that it does not allow
pub below_refused : (cap : Option ℕ) (total m : ℕ) → ¬ (Allows cap total) → Allows cap m → m < total
below_refused cap total m refused allowed = elim (cases_lt m total) [
  | inl lt ↦ lt
  | inr le ↦ absurd (refused (allows_fewer cap total m le allowed))
]

-- one more push is done with, if it is to be tried, for a cap that allows no more
pub taken_more : (board : Board) (cap lower : Option ℕ) (Old New : Scene → Type 0) (Tried : Push → Type 0) (k : ℕ)
    (s : Scene) (pushes : List Push) (i : ℕ) (p : Push) → ((m : ℕ) → Allows lower m → Allows cap m) →
    ((t : Scene) → Old t → New t) → slice_get pushes i ≡ Some p → ArePushesDone board cap Old Tried k s pushes i →
    (Tried p → IsPushDone board lower New k s p) → ArePushesDone board lower New Tried k s pushes (i + 1)
taken_more board cap lower Old New Tried k s pushes i p narrows still here before taken =
    upto_more (λ (q : Push). Tried q → IsPushDone board lower New k s q) pushes i p here
    (λ j q lt there tried m allowed solvable.
    (let (t, kept, rest) = before j q lt there tried m (narrows (k + suc m) allowed) solvable in
    (t, still t kept, rest)))
    taken

-- all pushes that are to be tried are done with, and these suffice for each number of pushes that the cap leaves
pub expands_by : (board : Board) (cap : Option ℕ) (Kept : Scene → Type 0) (Tried : Push → Type 0) (k : ℕ) (s : Scene)
    (pushes : List Push) (count : ℕ) → ArePushes board s pushes → length pushes ≤ count →
    ((m : ℕ) → Allows cap (k + suc m) → Suffice board m Tried s) → ArePushesDone board cap Kept Tried k s pushes count →
    Expands board cap Kept k s
expands_by board cap Kept Tried k s pushes count are over suffice taken most allowed m few unsolved solvable =
    let ok = allows_fewer cap (k + suc m) most few allowed in
    let (p, t, tried, pushed, rest) = suffice m ok m (omega arith) unsolved solvable in
    let here = are.whole p (record { there = pushed.there; behind = pushed.behind; ahead = pushed.ahead }) in
    taken here.0 p (let lt = slice_get_within pushes here.0 p here.1 in omega (arith, lt, over)) here.1 tried m ok
    (subst (SolvableWithin board m) pushed.after rest)

-- all pushes suffice, and with `only` those of the held boxes of a corral
pub chosen_suffice : (board : Board) (left : Option ℕ) (s : Scene) (only : Bool) (held : List ℕ) → IsLevel board →
    FitsLevel board s →
    (IsTrue only → (m : ℕ) → Allows left m → (room : ℕ → Bool) × IsClosure board (suc m) (has_bit held) room s) →
    (m : ℕ) → Allows left m → Suffice board m (IsChosen only held) s
chosen_suffice board left s true held level fits closure m allowed n le unsolved solvable =
    let (room, is) = closure refl m allowed in
    let (p, t, tried, pushed, rest) =
    corrals_suffice board level m (has_bit held) room s fits is n le unsolved solvable in
    (p, t, (λ told. tried), pushed, rest)
chosen_suffice board left s false held level fits closure m allowed n le unsolved solvable =
    let (p, t, tried, pushed, rest) = all_suffice board m s fits.scene n le unsolved solvable in
    (p, t, (λ told. absurd (false≢true told)), pushed, rest)

-- the number that a bound is rounded up to, below which no solution has as many, is a bound
pub bound_rounded : (board : Board) (k total more : ℕ) (n : Scene) → IsReachedAfter board k n →
    ((m : ℕ) → SomeHas board m → total ≤ m → more ≤ m) → IsBound board k n total → IsBound board k n more
bound_rounded board k total more n reached rounds bound rest (ds, ps, t, play, solved, few) =
    let low = bound (length ps) (ds, ps, t, play, solved, omega arith) in
    let up = rounds (k + length ps) (solution_from board k n t ds ps reached play solved) low in
    omega (arith, up, few)

-- ---- positions are opened

pub opens_none : (board : Board) (cap : Option ℕ) (from : Expanded) (opened : List Opened) →
    Opens board cap from opened opened
opens_none board cap from opened = record { still = λ t listed. listed; each = λ each. each }

-- one more is opened
pub opens_one : (board : Board) (cap : Option ℕ) (from : Expanded) (opened new : List Opened) (o : Opened) →
    new ≡ opened ++ o ∷ [] → IsOpenedBy board cap from o → Opens board cap from opened new
opens_one board cap from opened new o is by = subst (Opens board cap from opened) (sym is) (record {
  still = λ t (i, u, at, same). (i, u, at_before opened (o ∷ []) i u at, same);
  each = λ each i u at. elim (at-push opened o i u at) [
    | inl h ↦ each i u h
    | inr (p, q) ↦ subst (IsOpenedBy board cap from) (sym q) by
  ];
})

pub listed_last : (opened new : List Opened) (o : Opened) → new ≡ opened ++ o ∷ [] → IsOpenedPosition new o.position
listed_last opened new o is =
    subst (λ (os : List Opened). IsOpenedPosition os o.position) (sym is) (length opened, o, at_seam opened o, refl)

-- what an expansion has kept stays kept where it opens more
pub kept_on : (all : List Node) (k : ℕ) (old new : List Opened) →
    ((t : Scene) → IsOpenedPosition old t → IsOpenedPosition new t) → (t : Scene) → IsKept all k old t →
    IsKept all k new t
kept_on all k old new still t (inl opened) = inl (still t opened)
kept_on all k old new still t (inr found) = inr found

-- where each position that was opened has entered, what the expansion keeps was found
pub expands_found : (board : Board) (cap : Option ℕ) (opened : List Opened) (old all : List Node) (k : ℕ) (s : Scene) →
    KeepPlaces old all → ((t : Scene) → IsOpenedPosition opened t → IsFoundWithin all (suc k) t) →
    Expands board cap (IsKept old k opened) k s → Expands board cap (IsFoundWithin all (suc k)) k s
expands_found board cap opened old all k s still entered expands most allowed =
    keeps_so board (IsKept old k opened) (IsFoundWithin all (suc k)) most k s by (expands most allowed)
  where
    by : (t : Scene) → IsKept old k opened t → IsFoundWithin all (suc k) t
    by t (inl o) = entered t o
    by t (inr found) = found_on old all still (suc k) t found

-- the next of them has entered
pub entered_more : (old new : List Node) (opened : List Opened) (k i : ℕ) (o : Opened) → KeepPlaces old new →
    slice_get opened i ≡ Some o → IsFoundWithin new k o.position → AreEntered old opened k i →
    AreEntered new opened k (i + 1)
entered_more old new opened k i o still here found before =
    upto_more (λ (u : Opened). IsFoundWithin new k u.position) opened i o here
    (λ j u lt there. found_on old new still k u.position (before j u lt there)) found

-- all of them have
pub entered_all : (all : List Node) (opened : List Opened) (k count : ℕ) → length opened ≤ count →
    AreEntered all opened k count → (t : Scene) → IsOpenedPosition opened t → IsFoundWithin all k t
entered_all all opened k count over entered t (i, o, at, same) =
    let lt = slice_get_within opened i o at in
    subst (IsFoundWithin all k) same (entered i o (omega (arith, lt, over)) at)

-- ---- the search goes on

-- the entry of a position that a push from a place leads to
abbrev pub entry_by : ℕ → ℕ → ℕ → Scene → Push → Node
entry_by place pushes least n p =
    record { position = n; pushes = pushes; least = Some least; parent = Some (record { place = place; push = p }) }

module _ (board : Board) (cap : Option ℕ) where
  -- what a push leads to has entered
  pub under_way_after : (old new : List Node) (place k least : ℕ) (s n : Scene) (p : Push) →
      IsSearchUnderWay board cap old → IsFoundAt old place s k → CanPush board s p →
      IsNorm board (after_push board s p) n → FitsLevel board n → IsTotal board cap (suc k) n least →
      Enters old new (entry_by place (suc k) least n p) → IsSearchUnderWay board cap new
  under_way_after old new place k least s n p under (x, at, same, count) can norm fits total enters = record {
    begun = (under.begun.0, under.begun.1, found_on old new enters.still 0 under.begun.0 under.begun.2);
    few = enters.few (let lt = under.few place x at in omega (arith, lt, count)) under.few;
    sound = λ i y there. elim (enters.each i y there) [
      | inl before ↦ sound_on old new enters.still board cap y (under.sound i y before)
      | inr is ↦ subst (IsSoundEntry board cap new) (sym is) opened
    ];
  }
    where
      e : Node
      e = entry_by place (suc k) least n p

      was : IsSoundEntry board cap old x
      was = under.sound place x at

      opened : IsSoundEntry board cap new e
      opened = record {
        fits = fits;
        reached = reached_after (subst (IsScene board) same was.fits.scene) can norm k
            (subst (IsReachedAfter board k) same
            (subst (λ (j : ℕ). IsReachedAfter board j x.position) count was.reached));
        from = (
          x,
          enters.below place x at (omega (arith, count)),
          omega (arith, count),
          subst (λ (t : Scene). CanPush board t p) (sym same) can,
          subst (λ (t : Scene). IsNorm board (after_push board t p) n) (sym same) norm,
        );
        total = λ m open_. subst (IsLeast cap (suc k)) (same_Some least m open_)
            (record { near = total.near; allowed = total.allowed });
        settled = settled_open board cap new e least refl total.bound;
      }

  -- the position that was expanded is closed, or has the least total of what was left for later
  pub under_way_expanded : (old new : List Node) (from : Expanded) (next : Option ℕ) → IsSearchUnderWay board cap old →
      IsWaiting old from → ¬ (IsSolved board from.position) → IsLater cap from.reach next →
      Expands board (tighter cap next) (IsFoundWithin old (suc from.pushes)) from.pushes from.position →
      HasLeastAt old from.place next new → IsSearchUnderWay board cap new
  under_way_expanded old new from next under waits unsolved later expands has =
      subst (IsSearchUnderWay board cap) (sym (has x waits.at)) (record {
        begun = (under.begun.0, under.begun.1, found_on old after still 0 under.begun.0 under.begun.2);
        few = λ i z there. (let long = length-set old from.place y in elim (set_at old from.place i y z there) [
          | inl (p, q) ↦ (let same = ap (λ (w : Node). w.pushes) q in
              let less = under.few from.place x waits.at in omega (arith, same, less, long))
          | inr (p, q) ↦ (let less = under.few i z q in omega (arith, less, long))
        ]);
        sound = λ i z there. elim (set_at old from.place i y z there) [
          | inl (p, q) ↦ subst (IsSoundEntry board cap after) (sym q) (sound_on old after still board cap y sound)
          | inr (p, q) ↦ sound_on old after still board cap z (under.sound i z q)
        ];
      })
    where
      x : Node
      x = waits.entry

      y : Node
      y = with_least next x

      after : List Node
      after = set old from.place y

      still : KeepPlaces old after
      still = kept_set old from.place x y waits.at refl (omega arith)

      was : IsSoundEntry board cap old x
      was = under.sound from.place x waits.at

      sound : IsSoundEntry board cap old y
      sound = record {
        fits = was.fits;
        reached = was.reached;
        from = was.from;
        total = λ n e. (let (lt, allowed) = later n e in
            let low = (was.total waits.least waits.is_open).near in
            let near = waits.near in
            record { near = omega (arith, low, near, lt); allowed = allowed });
        settled = settled_expanded board cap old y next refl
            (subst (λ (s : Scene). ¬ (IsSolved board s)) (sym waits.same) unsolved)
            (subst (λ (j : ℕ). Expands board (tighter cap next) (IsFoundWithin old (suc j)) j x.position)
            (sym waits.count)
            (subst (Expands board (tighter cap next) (IsFoundWithin old (suc from.pushes)) from.pushes) (sym waits.same)
            expands));
      }

  pub widens_none : (k : ℕ) (v : VisitedView) → IsSearchOnBoard board cap v → Widens board cap k v v
  widens_none k v searched = record {
    searched = searched;
    below = λ i x at le. at;
    goes_on = same_turns v.entries v.entries refl;
  }

  pub widens_then : (k : ℕ) (first second third : VisitedView) → Widens board cap k first second →
      Widens board cap k second third → Widens board cap k first third
  widens_then k first second third one two = record {
    searched = two.searched;
    below = λ i x at le. two.below i x (one.below i x at le) le;
    goes_on = goes_then first.entries second.entries third.entries one.goes_on two.goes_on;
  }

  -- the position keeps its place
  pub expanding_on : (old new : VisitedView) (from : Expanded) → IsExpanding board cap old from →
      Widens board cap from.pushes old new → IsExpanding board cap new from
  expanding_on old new from was widens =
      let (x, at, same, count) = was.at_place in record {
        searched = widens.searched;
        at_place = (x, widens.below from.place x at (omega (arith, count)), same, count);
        few = was.few;
      }

  -- the start alone has entered
  pub under_way_first : (old new : List Node) (n : Scene) → IsNorm board (start board) n → FitsLevel board n →
      old ≡ [] → Enters old new (record { position = n; pushes = 0; least = Some 0; parent = None }) →
      IsSearchUnderWay board cap new
  under_way_first old new n norm fits none enters = record {
    begun = (n, norm, enters.found);
    few = enters.few (omega arith) (λ i x there. absurd (no i x there));
    sound = λ i y there. elim (enters.each i y there) [
      | inl before ↦ absurd (no i y before)
      | inr is ↦ subst (IsSoundEntry board cap new) (sym is) first
    ];
  }
    where
      no : (i : ℕ) (x : Node) → slice_get old i ≡ Some x → ⊥
      no i x there =
          let lt = slice_get_within old i x there in
          let e = ap (λ (xs : List Node). length xs) none in omega (arith, lt, e)

      any : (cap : Option ℕ) → Allows cap 0
      any None = tt
      any (Some most) = omega arith

      e : Node
      e = (record { position = n; pushes = 0; least = Some 0; parent = None })

      first : IsSoundEntry board cap new e
      first = record {
        fits = fits;
        reached = ([], [], start board, stay tt, norm, refl);
        from = norm;
        total = λ m is. subst (λ (k : ℕ). IsLeast cap 0 k) (same_Some 0 m is)
            (record { near = omega arith; allowed = any cap });
        settled = settled_open board cap new e 0 refl (λ rest solvable. omega arith);
      }
