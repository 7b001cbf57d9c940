use Rattle.std.proofs.Common.{◌≡◌, ◌+◌, ℕ, suc, Option, inl, inr, sym, subst, arith}
use Rattle.store.proofs.lemmas.Fitting.{level_fits}
use Rattle.prover.specs.declared.pushing.Opened.{Opened}
use Rattle.prover.specs.Frontier.{IsReachedAfter, IsBound, IsTotal, NoneGoesOn}
use Rattle.store.specs.Earlier.{IsFoundWithin}
use Rattle.prover.specs.inside.Working.{IsKept, IsPushDone, tighter}
use Rattle.prover.proofs.Deferring.{defers_one, loosened}
use Rattle.prover.proofs.Steps.{listed_last, made_for, opens_one, reached_after, taken_found, taken_later, taken_none}
use Rattle.prover.proofs.pushing.open_after.Goals as goal

pub has_within-found-requires : goal.has_within-found-requires
has_within-found-requires c =
    let made = made_for c.args.from.now.position c.args.push c.requires.problem c.in-Some.ensures.made in
    level_fits c.args.pruner.now.board c.args.frontier.now.boxes c.args.frontier.now.squares c.in-Some.after
    c.requires.size.0 c.requires.size.1 made.1

pub allowed_total-requires-clause-reached : goal.allowed_total-requires-clause-reached
allowed_total-requires-clause-reached c =
    let made = made_for c.args.from.now.position c.args.push c.requires.problem c.in-Some.ensures.made in
    let ready = c.requires.expandable in
    let one : suc c.args.from.now.pushes ≡ c.args.from.now.pushes + 1 = omega arith in
    subst (λ (j : ℕ). IsReachedAfter c.args.pruner.now.board j c.in-Some.after) one
    (reached_after ready.fits.scene c.requires.possible made.0 c.args.from.now.pushes ready.reached)

pub returns-then-found-clause-taken : goal.returns-then-found-clause-taken
returns-then-found-clause-taken c =
    let made = made_for c.args.from.now.position c.args.push c.requires.problem c.in-Some.ensures.made in
    let k = c.args.from.now.pushes in
    let all = c.args.frontier.now.entries in
    let workspace = c.args.workspace.now in
    let one : k + 1 ≡ suc k = omega arith in
    taken_found c.requires.expandable.fits.scene c.requires.possible made.0
    (tighter c.args.pruner.now.cap workspace.next) (IsKept all k workspace.opened.items) k
    (inr (subst (λ (j : ℕ). IsFoundWithin all j c.in-Some.after) one (c.has_within-found.ensures c.if-found.true)))

pub returns-in_default-allowed_total-clause-taken : goal.returns-in_default-allowed_total-clause-taken
returns-in_default-allowed_total-clause-taken c =
    let made = made_for c.args.from.now.position c.args.push c.requires.problem c.in-Some.ensures.made in
    let cap = c.args.pruner.now.cap in
    let k = c.args.from.now.pushes in
    let workspace = c.args.workspace.now in
    let one : k + 1 ≡ suc k = omega arith in
    taken_none c.requires.expandable.fits.scene c.requires.possible made.0 cap (tighter cap workspace.next)
    (IsKept c.args.frontier.now.entries k workspace.opened.items) k (loosened cap workspace.next)
    (subst (λ (j : ℕ). NoneGoesOn c.args.pruner.now.board cap j c.in-Some.after) one
    c.in_default-allowed_total.ensures.none)

pub returns-then-total-from-clause-taken : goal.returns-then-total-from-clause-taken
returns-then-total-from-clause-taken c =
    let made = made_for c.args.from.now.position c.args.push c.requires.problem c.in-Some.ensures.made in
    let board = c.args.pruner.now.board in
    let cap = c.args.pruner.now.cap in
    let k = c.args.from.now.pushes in
    let Kept = IsKept c.args.frontier.now.entries k c.args.workspace.now.opened.items in
    let total = c.in-Some-allowed_total.total in
    let one : k + 1 ≡ suc k = omega arith in
    subst (λ (o : Option ℕ). IsPushDone board (tighter cap o) Kept k c.args.from.now.position c.args.push)
    (sym c.lesser-workspace.ensures)
    (taken_later c.requires.expandable.fits.scene c.requires.possible made.0 cap c.args.workspace.now.next Kept k total
    (subst (λ (j : ℕ). IsBound board j c.in-Some.after total) one c.in-Some-allowed_total.ensures.total.bound))

pub returns-then-total-from-clause-defers : goal.returns-then-total-from-clause-defers
returns-then-total-from-clause-defers c =
    defers_one c.args.pruner.now.cap c.args.from.now.reach c.args.workspace.now.next c.lesser-workspace.result
    c.in-Some-allowed_total.total c.lesser-workspace.ensures
    (omega (arith, c.if-total-from.true)) c.in-Some-allowed_total.ensures.total.allowed

pub returns-clause-taken : goal.returns-clause-taken
returns-clause-taken c =
    let made = made_for c.args.from.now.position c.args.push c.requires.problem c.in-Some.ensures.made in
    let k = c.args.from.now.pushes in
    let old = c.args.workspace.now.opened.items in
    let new = c.push.new.self.items in
    let o : Opened =
    (record { position = c.in-Some.after; push = c.args.push; total = c.in-Some-allowed_total.total }) in
    taken_found c.requires.expandable.fits.scene c.requires.possible made.0
    (tighter c.args.pruner.now.cap c.args.workspace.now.next) (IsKept c.args.frontier.now.entries k new) k
    (inl (listed_last old new o c.in_ok-push.ensures.items))

pub returns-clause-opens : goal.returns-clause-opens
returns-clause-opens c =
    let made = made_for c.args.from.now.position c.args.push c.requires.problem c.in-Some.ensures.made in
    let board = c.args.pruner.now.board in
    let cap = c.args.pruner.now.cap in
    let k = c.args.from.now.pushes in
    let n = c.in-Some.after in
    let total = c.in-Some-allowed_total.total in
    let one : k + 1 ≡ suc k = omega arith in
    let is : IsTotal board cap (suc k) n total =
    subst (λ (j : ℕ). IsTotal board cap j n total) one c.in-Some-allowed_total.ensures.total in
    let o : Opened = (record { position = n; push = c.args.push; total = total }) in
    opens_one board cap c.args.from.now c.args.workspace.now.opened.items c.push.new.self.items o
    c.in_ok-push.ensures.items (record { fits = made.1; can = c.requires.possible; norm = made.0; total = is })
