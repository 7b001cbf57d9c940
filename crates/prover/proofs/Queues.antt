-- The queue of open positions, over plain lists.
use Rattle.std.proofs.Common.{IfNone, IfSome, ◌≡◌, ℕ, zero, suc, ◌+◌, ◌⊎◌, List, [], ◌∷◌, ◌++◌, length, Option, None}
use Rattle.std.proofs.Common.{Some, inl, inr, refl, sym, ap, subst, ◌∙◌, append-nil, arith, slice_index_or, slice_set}
use Rattle.std.proofs.lemmas.List.Sorted.{Contains-permutation, length_permutation}
use Rattle.std.proofs.lemmas.List.{length-append, nil_from_length}
use Rattle.std.proofs.lemmas.Option.{none-some, same_Some, slice_get_within}
use Rattle.std.specs.List.{Contains}
use Rattle.std.specs.List.Sorted.{IsPermutation}
use Rattle.std.specs.Prelude.{MatchOption, option_to_list, slice_get}
use Rattle.store.specs.Visited.{Node, HasEntered, with_least}
use Rattle.successors.proofs.lemmas.Lists.{at-push, set_at}
use Rattle.prover.specs.declared.queue.Ticket.{Ticket}
use Rattle.prover.specs.Frontier.{NoneIsOpen}
use Rattle.prover.specs.inside.Working.{HasLeastAt, IsFirstTicket, IsLeastOpen, IsQueued, OthersWait, StillWait, Waits}

-- ---- tickets

at_head : (t : Ticket) (ts : List Ticket) → Contains (t ∷ ts) t
at_head t ts = (0, omega arith, refl)

in_tail : (t u : Ticket) (ts : List Ticket) → Contains ts u → Contains (t ∷ ts) u
in_tail t u ts (i, lt, e) = (suc i, omega (arith, lt), e)

head_or_tail : (t u : Ticket) (ts : List Ticket) → Contains (t ∷ ts) u → (t ≡ u) ⊎ Contains ts u
head_or_tail t u ts (zero, lt, e) = inl e
head_or_tail t u ts (suc i, lt, e) = inr (i, omega (arith, lt), e)

pub waits_pushed : (t : Ticket) (old new : List Ticket) → IsPermutation (t ∷ old) new → Waits new t.least.0 t.place
waits_pushed t old new same = (t, Contains-permutation (t ∷ old) new t same (at_head t old), refl, refl)

pub waits_kept : (t : Ticket) (old new : List Ticket) → IsPermutation (t ∷ old) new → StillWait old new
waits_kept t old new same least place (u, there, l, p) =
    (u, Contains-permutation (t ∷ old) new u same (in_tail t u old there), l, p)

-- what waits when the first ticket was taken out
popped : (first t : Ticket) (old new : List Ticket) → slice_get old 0 ≡ Some first → t ≡ slice_index_or old 0 t →
    IsPermutation old (t ∷ new) → (length new + 1 ≡ length old) × OthersWait first old new
popped first t [] new at is same = absurd (none-some first at)
popped first t (v ∷ old) new at is same = (
  (let e = length_permutation (v ∷ old) (t ∷ new) same in omega (arith, e)),
  λ least place (u, there, l, p). elim (head_or_tail t u new (Contains-permutation (v ∷ old) (t ∷ new) u same there)) [
    | inl e ↦ (let f : first ≡ u = sym (same_Some v first at) ∙ (sym is ∙ e) in
        inr (sym l ∙ ap (λ (w : Ticket). w.least.0) (sym f), sym p ∙ ap (λ (w : Ticket). w.place) (sym f)))
    | inr rest ↦ inl (u, rest, l, p)
  ],
)

pub popped_by : (first : Ticket) (r : Option Ticket) (old new : List Ticket) (n : ℕ) → n ≡ length old →
    IfNone r (n ≡ 0) → IfSome r (λ t. t ≡ slice_index_or old 0 t) → IfSome r (λ t. IsPermutation old (t ∷ new)) →
    slice_get old 0 ≡ Some first → (length new + 1 ≡ length old) × OthersWait first old new
popped_by first None old new n size empty top same at =
    absurd (let lt = slice_get_within old 0 first at in omega (arith, size, empty, lt))
popped_by first (Some t) old new n size empty top same at = popped first t old new at top same

-- ---- tickets that are set aside

in_front_part : (t : Ticket) (xs ys : List Ticket) → Contains xs t → Contains (xs ++ ys) t
in_front_part t [] ys (i, lt, e) = absurd (omega (arith, lt))
in_front_part t (x ∷ xs) ys (zero, lt, e) = (zero, omega arith, e)
in_front_part t (x ∷ xs) ys (suc i, lt, e) = in_tail x t (xs ++ ys) (in_front_part t xs ys (i, omega (arith, lt), e))

in_back_part : (t : Ticket) (xs ys : List Ticket) → Contains ys t → Contains (xs ++ ys) t
in_back_part t [] ys there = there
in_back_part t (x ∷ xs) ys there = in_tail x t (xs ++ ys) (in_back_part t xs ys there)

in_either_part : (t : Ticket) (xs ys : List Ticket) → Contains (xs ++ ys) t → Contains xs t ⊎ Contains ys t
in_either_part t [] ys there = inr there
in_either_part t (x ∷ xs) ys there = elim (head_or_tail x t (xs ++ ys) there) [
  | inl e ↦ inl (zero, omega arith, e)
  | inr rest ↦ elim (in_either_part t xs ys rest) [
    | inl h ↦ inl (in_tail x t xs h)
    | inr h ↦ inr h
  ]
]

pub waits_front : (xs ys : List Ticket) → StillWait xs (xs ++ ys)
waits_front xs ys least place (t, there, l, p) = (t, in_front_part t xs ys there, l, p)

waits_back : (xs ys : List Ticket) → StillWait ys (xs ++ ys)
waits_back xs ys least place (t, there, l, p) = (t, in_back_part t xs ys there, l, p)

waits_either : (xs ys : List Ticket) (least place : ℕ) → Waits (xs ++ ys) least place →
    Waits xs least place ⊎ Waits ys least place
waits_either xs ys least place (t, there, l, p) = elim (in_either_part t xs ys there) [
  | inl h ↦ inl (t, h, l, p)
  | inr h ↦ inr (t, h, l, p)
]

-- what waits, also aside, when the tickets in order become more
pub waits_wider : (old new aside aside' : List Ticket) → aside' ≡ aside → StillWait old new → StillWait (old ++ aside)
    (new ++ aside')
waits_wider old new aside aside' same wider least place waits =
    subst (λ (ts : List Ticket). Waits (new ++ ts) least place) (sym same)
    (elim (waits_either old aside least place waits) [
      | inl h ↦ waits_front new aside least place (wider least place h)
      | inr h ↦ waits_back new aside least place h
    ])

-- what waits, also aside, when the first ticket was taken out
pub waits_less : (t : Ticket) (old new aside aside' : List Ticket) → aside' ≡ aside → OthersWait t old new →
    OthersWait t (old ++ aside) (new ++ aside')
waits_less t old new aside aside' same less least place waits = elim (waits_either old aside least place waits) [
  | inl h ↦ elim (less least place h) [
    | inl k ↦ inl (waits_front new aside' least place k)
    | inr k ↦ inr k
  ]
  | inr h ↦
      inl (subst (λ (ts : List Ticket). Waits (new ++ ts) least place) (sym same) (waits_back new aside least place h))
]

-- what waits, also aside, when the first ticket was set aside
pub waits_aside : (t : Ticket) (old new aside aside' : List Ticket) → aside' ≡ aside ++ t ∷ [] → OthersWait t old new →
    StillWait (old ++ aside) (new ++ aside')
waits_aside t old new aside aside' shape less least place waits =
    subst (λ (ts : List Ticket). Waits (new ++ ts) least place) (sym shape)
    (waits_back_or (waits_either old aside least place waits))
  where
    last : (l p : ℕ) → l ≡ t.least.0 → p ≡ t.place → Waits (aside ++ t ∷ []) l p
    last l p e f = waits_back aside (t ∷ []) l p (t, at_head t [], sym e, sym f)

    waits_back_or : Waits old least place ⊎ Waits aside least place → Waits (new ++ (aside ++ t ∷ [])) least place
    waits_back_or (inr h) = waits_back new (aside ++ t ∷ []) least place (waits_front aside (t ∷ []) least place h)
    waits_back_or (inl h) = elim (less least place h) [
      | inl k ↦ waits_front new (aside ++ t ∷ []) least place k
      | inr k ↦ waits_back new (aside ++ t ∷ []) least place (last least place k.0 k.1)
    ]

-- ---- the queue beside what was found

-- where nothing is aside, the tickets are those in order
pub only_ordered : (all : List Node) (ordered aside : List Ticket) → aside ≡ [] → IsQueued all (ordered ++ aside) →
    IsQueued all ordered
only_ordered all ordered aside none queued i x least at open_ =
    elim (waits_either ordered aside least i (queued i x least at open_)) [
      | inl h ↦ h
      | inr (t, (k, lt, same), l, p) ↦
          absurd (let size = ap (λ (ts : List Ticket). length ts) none in omega (arith, lt, size))
    ]

-- tickets that wait are queued in equal lists too
pub queued_same : (all : List Node) (old new aside aside' : List Ticket) → new ≡ old → aside' ≡ aside →
    IsQueued all (old ++ aside) → IsQueued all (new ++ aside')
queued_same all old new aside aside' same alike queued =
    subst (λ (ts : List Ticket). IsQueued all (ts ++ aside')) (sym same)
    (subst (λ (ts : List Ticket). IsQueued all (old ++ ts)) (sym alike) queued)

pub queued_on : (all : List Node) (old new : List Ticket) → StillWait old new → IsQueued all old → IsQueued all new
queued_on all old new wider queued i x least at open_ = wider least i (queued i x least at open_)

-- the last ticket was taken back
one_aside : (heap old new : List Ticket) (t : Ticket) → old ≡ new ++ t ∷ [] → OthersWait t (heap ++ old) (heap ++ new)
one_aside heap old new t is least place waits = by (waits_either heap old least place waits)
  where
    last : Waits (t ∷ []) least place → (least ≡ t.least.0) × (place ≡ t.place)
    last (u, there, l, p) = elim (head_or_tail t u [] there) [
      | inl e ↦ (sym l ∙ ap (λ (w : Ticket). w.least.0) (sym e), sym p ∙ ap (λ (w : Ticket). w.place) (sym e))
      | inr (i, lt, e) ↦ absurd (omega (arith, lt))
    ]

    by : Waits heap least place ⊎ Waits old least place →
        Waits (heap ++ new) least place ⊎ ((least ≡ t.least.0) × (place ≡ t.place))
    by (inl h) = inl (waits_front heap new least place h)
    by (inr h) =
        elim (waits_either new (t ∷ []) least place (subst (λ (ts : List Ticket). Waits ts least place) is h)) [
          | inl k ↦ inl (waits_back heap new least place k)
          | inr k ↦ inr (last k)
        ]

pub popped_aside : (heap old new : List Ticket) (r : Option Ticket) → old ≡ new ++ option_to_list r →
    IfSome r (λ t. OthersWait t (heap ++ old) (heap ++ new))
popped_aside heap old new None is = tt
popped_aside heap old new (Some t) is = one_aside heap old new t is

pub fewer_aside : (old new : List Ticket) (r : Option Ticket) → old ≡ new ++ option_to_list r →
    IfSome r (λ _. length new + 1 ≡ length old)
fewer_aside old new None is = tt
fewer_aside old new (Some t) is =
    let long = length-append new (t ∷ []) in
    let size = ap (λ (ts : List Ticket). length ts) is in
    omega (arith, long, size)

pub kept_aside : (old new : List Ticket) (r : Option Ticket) → old ≡ new ++ option_to_list r → IfNone r (new ≡ old)
kept_aside old new None is = sym (is ∙ append-nil new)
kept_aside old new (Some t) is = tt

pub none_aside : (new : List Ticket) (n m : ℕ) (r : Option Ticket) → MatchOption r ((n ≡ 0) × (m ≡ 0))
    (λ _. m + 1 ≡ n) → m ≡ length new → IfNone r (new ≡ [])
none_aside new n m None none size = let e = none.1 in nil_from_length new (omega (arith, e, size))
none_aside new n m (Some t) some size = tt

-- a ticket that was taken back waits again, if its position is open
pub queued_back : (all : List Node) (t : Ticket) (before : List Ticket) (old new aside aside' : List Ticket) →
    IsQueued all before → OthersWait t before (old ++ aside) →
    ((x : Node) → slice_get all t.place ≡ Some x → x.least ≡ Some t.least.0 → Waits new t.least.0 t.place) →
    StillWait old new → aside' ≡ aside → IsQueued all (new ++ aside')
queued_back all t before old new aside aside' queued less again wider same i x least at open_ =
    elim (less least i (queued i x least at open_)) [
      | inl h ↦ waits_wider old new aside aside' same wider least i h
      | inr (l, p) ↦
          subst (λ (m : ℕ). Waits (new ++ aside') m i) (sym l) (subst (λ (j : ℕ). Waits (new ++ aside') t.least.0 j) (sym p)
          (waits_front new aside' t.least.0 t.place (again x (ap (λ (k : ℕ). slice_get all k) (sym p) ∙ at) (open_ ∙ ap Some l))))
    ]

-- one more position is open
pub queued_more : (old new : List Node) (e : Node) (place least : ℕ) (before after : List Ticket) →
    e.least ≡ Some least → HasEntered old new e (Some place) → IsQueued old before → Waits after least place →
    StillWait before after → IsQueued new after
queued_more old new e place least before after is entered queued here others = by entered
  where
    new_one : (i n : ℕ) (x : Node) → i ≡ place → x ≡ e → x.least ≡ Some n → Waits after n i
    new_one i n x same alike open_ =
        let m : least ≡ n = same_Some least n (sym is ∙ (ap (λ (w : Node). w.least) (sym alike) ∙ open_)) in
        subst (λ (k : ℕ). Waits after n k) (sym same) (subst (λ (k : ℕ). Waits after k place) m here)

    by : HasEntered old new e (Some place) → IsQueued new after
    by (inl (end, shape, fresh)) i x n at open_ =
        elim (at-push old e i x (ap (λ (xs : List Node). slice_get xs i) (sym shape) ∙ at)) [
          | inl h ↦ others n i (queued i x n h open_)
          | inr (p, q) ↦ new_one i n x (p ∙ sym end) q open_
        ]
    by (inr (y, there, same, lt, shape)) i x n at open_ =
        elim (set_at old place i e x (ap (λ (xs : List Node). slice_get xs i) (sym shape) ∙ at)) [
          | inl (p, q) ↦ new_one i n x p q open_
          | inr (p, q) ↦ others n i (queued i x n q open_)
        ]

-- the least total of a position was set, and its ticket entered
pub queued_set : (old new : List Node) (x : Node) (place : ℕ) (least : Option ℕ) (before after : List Ticket) →
    slice_get old place ≡ Some x → HasLeastAt old place least new → IsQueued old before →
    ((n : ℕ) → least ≡ Some n → Waits after n place) → StillWait before after → IsQueued new after
queued_set old new x place least before after here has queued waits others =
    subst (λ (xs : List Node). IsQueued xs after) (sym (has x here)) shown
  where
    shown : IsQueued (slice_set old place (with_least least x)) after
    shown i z n at open_ = elim (set_at old place i (with_least least x) z at) [
      | inl (p, q) ↦ subst (λ (k : ℕ). Waits after n k) (sym p) (waits n (ap (λ (w : Node). w.least) (sym q) ∙ open_))
      | inr (p, q) ↦ others n i (queued i z n q open_)
    ]

-- a ticket was taken out whose position is not open with its total
pub queued_less : (all : List Node) (t : Ticket) (before after : List Ticket) → IsQueued all before →
    ((x : Node) → slice_get all t.place ≡ Some x → ¬ (x.least ≡ Some t.least.0)) → OthersWait t before after →
    IsQueued all after
queued_less all t before after queued stale others i x least at open_ =
    elim (others least i (queued i x least at open_)) [
      | inl waits ↦ waits
      | inr (l, p) ↦ absurd (stale x (ap (λ (k : ℕ). slice_get all k) (sym p) ∙ at) (open_ ∙ ap Some l))
    ]

-- a position that is open with the total of the first ticket has the least total of all
pub least_open_by : (all : List Node) (t : Ticket) (tickets : List Ticket) → IsQueued all tickets →
    IsFirstTicket tickets t → (x : Node) × (slice_get all t.place ≡ Some x) × (x.least ≡ Some t.least.0) →
    IsLeastOpen all t.place t.least.0
least_open_by all t tickets queued first (x, at, open_) =
    (x, at, open_, λ i y least there is. first.least least i (queued i y least there is))

-- where no ticket waits, none is open
pub closed_by : (all : List Node) (tickets : List Ticket) → IsQueued all tickets → tickets ≡ [] → NoneIsOpen all
closed_by all tickets queued none i x at = by x.least refl
  where
    by : (o : Option ℕ) → x.least ≡ o → x.least ≡ None
    by None e = e
    by (Some least) e =
        let (t, (k, lt, same), l, p) = queued i x least at e in let size = ap (λ (ts : List Ticket). length ts) none in
        absurd (omega (arith, lt, size))
