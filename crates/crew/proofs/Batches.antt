-- Batches of ranks, and their parcels.
use Rattle.std.proofs.Common.{◌≡◌, Bool, ℕ, zero, suc, ◌+◌, ◌<◌, ◌≤◌, List, [], ◌∷◌, ◌++◌, length, map, take, get_or, set, sym, ap, subst}
use Rattle.std.proofs.Common.{◌∙◌, arith, length-append}
use Rattle.std.proofs.Math.Seq.{take-length, take-suc, take-suc-set}
use Rattle.std.proofs.lemmas.List.{append_assoc, length-map, length-set, length-take-le, map-append}
use Rattle.std.proofs.lemmas.Option.{none-some, same_Some}
use Rattle.layers.specs.LayerView.{LayerView}
use Rattle.successors.specs.ParcelView.{ParcelView}
use Rattle.claims.specs.declared.views.Hand.{Hand}
use Rattle.crew.specs.Work.{DrawEnds, IsOfLayer}
use Rattle.crew.specs.declared.end.End.{End}
use Rattle.crew.specs.declared.end.End.TheVariants.{Drained, Foreign, NoPlace, Refused, Stopped}
use Rattle.crew.specs.inside.Batches.{AreDrawn, AreExpanded, AreOfLayer, AreRanks, IsBatch, IsParcelOfRank}
use Rattle.crew.specs.inside.Ends.{HasEnded}

-- ---- one more at the end

of_more : (layer : LayerView) (xs : List ParcelView) (p : ParcelView) → AreOfLayer layer xs → IsOfLayer layer p → AreOfLayer layer (xs ++ p ∷ [])
of_more layer [] p of it zero q at = subst (IsOfLayer layer) (same_Some p q at) it
of_more layer [] p of it (suc i) q at = absurd (none-some q at)
of_more layer (x ∷ xs) p of it zero q at = of 0 q at
of_more layer (x ∷ xs) p of it (suc i) q at = of_more layer xs p (λ j r e. of (suc j) r e) it i q at

rank_more : (layer : LayerView) (xs : List ℕ) (r : ℕ) → AreRanks layer xs → r < length layer.places → AreRanks layer (xs ++ r ∷ [])
rank_more layer [] r of it zero q at = subst (λ n. n < length layer.places) (same_Some r q at) it
rank_more layer [] r of it (suc i) q at = absurd (none-some q at)
rank_more layer (x ∷ xs) r of it zero q at = of 0 q at
rank_more layer (x ∷ xs) r of it (suc i) q at = rank_more layer xs r (λ j s e. of (suc j) s e) it i q at

-- ---- ranks

-- one more rank is drawn into the next place of a list
pub drawn_more : (layer : LayerView) (before hand after : Hand) (place rank : ℕ) (ranks : List ℕ) → AreDrawn layer before place ranks hand →
    place < length ranks → rank < length layer.places → after.numbers ≡ hand.numbers ++ rank ∷ [] →
    AreDrawn layer before (place + 1) (set ranks place rank) after
drawn_more layer before hand after place rank ranks so room within drew =
    let next : place + 1 ≡ suc place = omega arith in
    let is : take (place + 1) (set ranks place rank) ≡ take place ranks ++ rank ∷ [] =
    ap (λ n. take n (set ranks place rank)) next ∙ take-suc-set ranks place rank room in
    let long = length-set ranks place rank in record {
      few = omega (arith, long, room);
      within = subst (AreRanks layer) (sym is) (rank_more layer (take place ranks) rank so.within within);
      drawn = drew ∙ ap (λ (ns : List ℕ). ns ++ rank ∷ []) so.drawn ∙ append_assoc before.numbers (take place ranks) (rank ∷ [])
          ∙ ap (λ (ns : List ℕ). before.numbers ++ ns) (sym is);
    }

-- as many ranks are drawn
pub drawn_long : (layer : LayerView) (before after : Hand) (count : ℕ) (ranks : List ℕ) → AreDrawn layer before count ranks after →
    length after.numbers ≡ length before.numbers + count
drawn_long layer before after count ranks so =
    ap length so.drawn ∙ length-append before.numbers (take count ranks) ∙ ap (λ n. length before.numbers + n) (length-take-le count ranks so.few)

-- ---- parcels

-- one more rank is expanded
pub expanded_more : (layer : LayerView) (ranks : List ℕ) (place rank : ℕ) (parcels : List ParcelView) (parcel : ParcelView) → place < length ranks →
    place < length parcels → get_or ranks place 0 ≡ rank → IsParcelOfRank layer rank parcel → AreExpanded layer ranks place parcels →
    AreExpanded layer ranks (place + 1) (set parcels place parcel)
expanded_more layer ranks place rank parcels parcel within room at it so =
    let rank_of : ParcelView → ℕ = λ p. p.rank in let next : place + 1 ≡ suc place = omega arith in
    let is : take (place + 1) (set parcels place parcel) ≡ take place parcels ++ parcel ∷ [] =
    ap (λ n. take n (set parcels place parcel)) next ∙ take-suc-set parcels place parcel room in record {
      of = subst (AreOfLayer layer) (sym is) (of_more layer (take place parcels) parcel so.of it.0);
      ranks_are =
          ap (map rank_of) is ∙ map-append rank_of (take place parcels) (parcel ∷ []) ∙ ap (λ (ns : List ℕ). ns ++ parcel.rank ∷ []) so.ranks_are
          ∙ ap (λ r. take place ranks ++ r ∷ []) (it.1 ∙ sym at) ∙ sym (take-suc ranks place 0 within) ∙ ap (λ n. take n ranks) (sym next);
    }

-- the parcels of all ranks that were drawn are a batch
pub is_batch : (layer : LayerView) (before after : Hand) (count : ℕ) (ranks some : List ℕ) (parcels : List ParcelView) → some ≡ take count ranks →
    AreDrawn layer before count ranks after → AreExpanded layer some (length some) parcels → IsBatch layer before (take count parcels) after
is_batch layer before after count ranks some parcels same drawn so =
    let rank_of : ParcelView → ℕ = λ p. p.rank in
    let many : length some ≡ count = ap length same ∙ length-take-le count ranks drawn.few in
    let all : map rank_of (take (length some) parcels) ≡ some = so.ranks_are ∙ take-length some in record {
      of = subst (λ n. AreOfLayer layer (take n parcels)) many so.of;
      drawn = drawn.drawn ∙ ap (λ (ns : List ℕ). before.numbers ++ ns) (sym same ∙ sym all ∙ ap (λ n. map rank_of (take n parcels)) many);
    }

-- a batch has as many parcels as ranks are drawn
pub batch_long : (layer : LayerView) (before after : Hand) (count : ℕ) (parcels : List ParcelView) → count ≤ length parcels →
    IsBatch layer before (take count parcels) after → length after.numbers ≡ length before.numbers + count
batch_long layer before after count parcels fits so =
    let rank_of : ParcelView → ℕ = λ p. p.rank in
    ap length so.drawn ∙ length-append before.numbers (map rank_of (take count parcels))
    ∙ ap (λ n. length before.numbers + n) (length-map (take count parcels) rank_of ∙ length-take-le count parcels fits)

-- ---- the end of a layer

-- a draw that gives no rank ends a worker as a worker may end
pub drawn_at_last : (may_stop : Bool) (layer : LayerView) (workers worker : ℕ) (hand : Hand) (end : End) → DrawEnds worker hand end →
    HasEnded may_stop layer workers worker hand end
drawn_at_last may_stop layer workers worker hand Drained ends = record { may = tt; left = ends; answered = tt }
drawn_at_last may_stop layer workers worker hand Stopped ends = absurd ends
drawn_at_last may_stop layer workers worker hand Foreign ends = absurd ends
drawn_at_last may_stop layer workers worker hand NoPlace ends = absurd ends
drawn_at_last may_stop layer workers worker hand (Refused refusal) ends = absurd ends
