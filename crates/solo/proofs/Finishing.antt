-- The ranks of a layer that are left, done one by one.
use Rattle.std.proofs.Common.{◌≡◌, ℕ, ◌-◌, ◌<◌, Bool, true, false, length, count_by, get_or, set, Some, inl, inr, refl}
use Rattle.std.proofs.Common.{sym, ap, subst, ◌∙◌, arith}
use Rattle.std.specs.Prelude.{slice_get}
use Rattle.std.proofs.lemmas.Bool.{false≢true}
use Rattle.std.proofs.lemmas.List.{get_or-set_same, length-set}
use Rattle.std.proofs.lemmas.List.Sums.{count_by-le-length}
use Rattle.std.proofs.lemmas.Option.{get_or_from_slice_get, slice_get_within}
use Rattle.layers.specs.declared.book.Claim.{Claim}
use Rattle.layers.specs.LayerView.{LayerView, IsWhole}
use Rattle.successors.specs.ParcelView.{ParcelView}
use Rattle.layers.specs.BookView.{BookView, IsDone, IsLawfulBook}
use Rattle.layers.specs.Books.{AllDone, ClaimAnswer, CloseRefused, HasBegun, IsAtWork, with_parcel, with_reopened}
use Rattle.layers.specs.declared.fault.CloseFault.TheVariants.{NotAll}
use Rattle.layers.specs.Events.{AreMadeAlike}
use Rattle.layers.proofs.lemmas.Books.{begun_ranks, true_cases, true_kept}
use Rattle.successors.proofs.lemmas.Lists.{count-set_true}
use Rattle.solo.specs.inside.Iterations.{IsOnlyClaimed, IsOfRank, IsStillAt}

-- ---- ranks

-- a book that has begun a whole layer is at work on it, and where it was opened again all that is claimed is done
pub still_at : (book reopened : BookView) (layer : LayerView) → IsLawfulBook book → IsWhole layer →
    HasBegun book layer → reopened ≡ with_reopened book →
    IsStillAt reopened layer reopened × (reopened.claimed ≡ reopened.done)
still_at book reopened layer lawful whole begun is =
    subst (λ v. IsStillAt v layer v × (v.claimed ≡ v.done)) (sym is) (
      record {
        alike = (refl, refl, refl, refl, refl);
        closed = refl;
        begun = begun;
        ranks = begun_ranks book layer lawful whole begun;
      },
      refl,
    )

-- the rank that is claimed next is due
pub due_next : (start book after : BookView) (layer : LayerView) (parcel : ParcelView) (claim : Claim) →
    IsStillAt start layer book → ((r : ℕ) → get_or book.claimed r false ≡ true → IsDone book r) →
    ClaimAnswer book (Some claim) after → IsOfRank layer claim.rank parcel → IsOnlyClaimed start layer after parcel
due_next start book after layer parcel claim still done (number, free, before, is) (level, of, rank) =
    subst (λ v. IsOnlyClaimed start layer v parcel) (sym is) (record {
      still = record { alike = still.alike; closed = still.closed; begun = still.begun; ranks = still.ranks };
      of = (level, of, refl);
      free = ap (slice_get book.done) rank ∙ free.1;
      others =
          λ r e. elim (true_cases book.claimed claim.rank r e) [ inl same ↦ inr (same ∙ sym rank) | inr old ↦ inl (done r old) ];
    })

-- a rank that is due is one of the layer at work
pub due_work : (start book : BookView) (layer : LayerView) (parcel : ParcelView) →
    IsOnlyClaimed start layer book parcel → IsAtWork book parcel
due_work start book layer parcel due =
    (due.of.0 ∙ due.still.begun.0, due.of.1 ∙ due.still.begun.1, slice_get_within book.done parcel.rank false due.free)

-- once it was handed back, the book is still at work on the layer
pub done_still : (start book after : BookView) (layer : LayerView) (parcel : ParcelView) (worker : ℕ) →
    IsOnlyClaimed start layer book parcel → after ≡ with_parcel book worker parcel → IsStillAt start layer after
done_still start book after layer parcel worker due is =
    let still = due.still in
    subst (λ v. IsStillAt start layer v) (sym is) (record {
      alike = still.alike;
      closed = still.closed;
      begun = still.begun;
      ranks = length-set book.done parcel.rank true ∙ still.ranks;
    })

-- and all that is claimed is done
pub done_claimed : (start book after : BookView) (layer : LayerView) (parcel : ParcelView) (worker : ℕ) →
    IsOnlyClaimed start layer book parcel → after ≡ with_parcel book worker parcel → (r : ℕ) →
    get_or after.claimed r false ≡ true → IsDone after r
done_claimed start book after layer parcel worker due is =
    subst (λ v. (r : ℕ) → get_or v.claimed r false ≡ true → IsDone v r) (sym is)
    (λ r e. elim (due.others r e) [
      | inl old ↦ true_kept book.done parcel.rank r old
      | inr same ↦ subst (λ j. get_or (set book.done parcel.rank true) j false ≡ true) (sym same)
          (get_or-set_same book.done parcel.rank true false (slice_get_within book.done parcel.rank false due.free))
    ])

-- one rank less is left to do
pub fewer_left : (start book after next : BookView) (layer : LayerView) (parcel : ParcelView) (worker : ℕ) →
    IsOnlyClaimed start layer book parcel → after ≡ with_parcel book worker parcel → next.done ≡ after.done →
    length layer.places - count_by (λ b. b) next.done < length layer.places - count_by (λ b. b) book.done
fewer_left start book after next layer parcel worker due is same =
    let done : next.done ≡ set book.done parcel.rank true = same ∙ ap (λ v. v.done) is in
    omega (
      arith,
      ap (λ bs. count_by (λ b. b) bs) done,
      count-set_true book.done parcel.rank due.free,
      count_by-le-length (λ (b : Bool). b) (set book.done parcel.rank true),
      length-set book.done parcel.rank true,
      due.still.ranks,
    )

-- ---- how the last ranks leave a book

more_alike : (u v w : BookView) → AreMadeAlike u v → AreMadeAlike v w → AreMadeAlike u w
more_alike u v w a b = (a.0 ∙ b.0, a.1 ∙ b.1, a.2 ∙ b.2, a.3 ∙ b.3, a.4 ∙ b.4)

opened_alike : (book reopened : BookView) → reopened ≡ with_reopened book → AreMadeAlike book reopened
opened_alike book reopened is = subst (AreMadeAlike book) (sym is) (refl, refl, refl, refl, refl)

-- still at work on the layer
pub still_since : (book reopened after : BookView) (layer : LayerView) → reopened ≡ with_reopened book →
    IsStillAt reopened layer after → IsStillAt book layer after
still_since book reopened after layer is still = record {
  alike = more_alike book reopened after (opened_alike book reopened is) still.alike;
  closed = still.closed ∙ ap (λ v. v.closed) is;
  begun = still.begun;
  ranks = still.ranks;
}

-- ---- a close

-- a close that was refused for its ranks: not all of them are done
pub not_all_done : (v : BookView) → CloseRefused v NotAll → ¬ (AllDone v)
not_all_done v (inl paused) all = absurd (false≢true (sym paused ∙ all.0))
not_all_done v (inr (r, left)) all =
    absurd (false≢true (sym (get_or_from_slice_get v.done r false false left) ∙ all.1 r (slice_get_within v.done r false left)))
