-- What each kind of step at a ledger's table tells the seat that steps.
use Rattle.std.specs.Prelude.{◌≡◌, ℕ, zero, suc, ◌+◌, ◌-◌, ◌%◌, ◌^◌, ◌<◌, nat_lt, if◌then◌else◌, [], ◌∷◌, All}
use mathlib.Core.Option.{none}
use Rattle.atomic_table.specs.Table.{Me, Step, Allows, step}
use Rattle.claims.specs.declared.views.Hand.{Hand}
use Rattle.claims.specs.declared.views.View.{View}
use Rattle.claims.specs.Hands.{AreApart, with_place, with_taken, with_number, spent_out}
use Rattle.claims.specs.Audit.{AreAudited}
use Rattle.claims.specs.Rule.{holds}
use Rattle.claims.specs.inside.Views.{first_hand, other_hands, view_of}

-- what a seat with no slot knows
abbrev pub Sat : Type 0
Sat = Me (Unit {0}) View

-- a seat with one hand
abbrev pub sat : ℕ → Hand → Sat
sat len h = (view_of len (h ∷ []), [])

-- the hand gets a place whose word was 0, and else has seen it taken
abbrev pub after_swap : ℕ → ℕ → Hand → Hand
after_swap p zero h = with_place p h
after_swap p (suc n) h = with_taken p h

-- the hand gets the number found where it is below the length, and else is spent out
abbrev pub after_draw : ℕ → ℕ → Hand → Hand
after_draw len found h = if nat_lt found len then with_number found h else spent_out h

-- enrol: one swap of the word of a place; its index is the place's number plus one
abbrev pub enrols : Step (Unit {0}) → Sat → ℕ → Sat → Type 0
enrols st me found me' = me' ≡ sat me.0.len (after_swap (st.word - 1) found (first_hand me.0.hands))

-- one is added to the next number
abbrev pub one_more : ℕ → Step (Unit {0})
one_more slots = step slots 0 1 0 none

-- draw: one addition to the next number, which was above all numbers of the hand
abbrev pub draws : Step (Unit {0}) → Sat → ℕ → Sat → Type 0
draws st me found me' = (me' ≡ sat me.0.len (after_draw me.0.len found (first_hand me.0.hands))) ×
    All (λ x. x < found) (first_hand me.0.hands).numbers

-- an addition to the next number keeps the rule
abbrev pub MayAddOne : ℕ → ℕ → ℕ → Sat → Type 0
MayAddOne len slots id me = Allows (holds len) slots id me 0 (λ n. (n + 1) % 2 ^ 64) (draws (one_more slots) me)

-- meet: the seat stays as it is, and its first two hands are apart
abbrev pub compares : Step (Unit {0}) → Sat → ℕ → Sat → Type 0
compares st me found me' = (me' ≡ me) × AreApart (first_hand me.0.hands) (first_hand (other_hands me.0.hands))

-- audit: a new seat with no hands
abbrev pub gathers : Step (Unit {0}) → Sat → ℕ → Sat → Type 0
gathers st me found me' = me' ≡ (view_of me.0.len [], [])

-- audit: the seat stays as it is, and its hands are audited
abbrev pub audits : Step (Unit {0}) → Sat → ℕ → Sat → Type 0
audits st me found me' = (me' ≡ me) × AreAudited me.0.len found me.0.hands
