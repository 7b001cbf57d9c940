-- Two boxes that move, one after the other.
use Rattle.std.proofs.Common.{◌≡◌, ◌≢◌, ℕ, Bool, true, false, not, ◌&&◌, ◌||◌, eqb, refl, sym, ap, ◌∙◌}
use Rattle.std.proofs.lemmas.Bool.{true≢false, eqb-true}
use Rattle.grid.specs.Squares.{Squares, contains, insert, remove}
use Rattle.grid.specs.Rising.{is_rising}
use Rattle.grid.proofs.lemmas.Squares.{contains-insert, contains-remove, is_rising-insert, is_rising-remove, same_set}

-- whichever of two boxes moves first, the same set comes out
bits : (c bz qz rz tz : Bool) → (qz ≡ true → tz ≡ true → ⊥) → (rz ≡ true → bz ≡ true → ⊥)
    → (tz || (not bz && (rz || (not qz && c)))) ≡ (rz || (not qz && (tz || (not bz && c))))
bits c bz true rz true apart other = absurd (apart refl refl)
bits c bz false true true apart other = refl
bits c bz false false true apart other = refl
bits c true qz true false apart other = absurd (other refl refl)
bits c false qz true false apart other = refl
bits c true true false false apart other = refl
bits c true false false false apart other = refl
bits c false true false false apart other = refl
bits c false false false false apart other = refl

moved_at : (xs : Squares) (b t z : ℕ)
    → contains (insert (remove xs b) t) z ≡ (eqb t z || (not (eqb b z) && contains xs z))
moved_at xs b t z = contains-insert (remove xs b) t z ∙ ap (λ (x : Bool). eqb t z || x) (contains-remove xs b z)

rising_moved : (xs : Squares) (b t : ℕ) → is_rising xs ≡ true → is_rising (insert (remove xs b) t) ≡ true
rising_moved xs b t rising = is_rising-insert (remove xs b) t (is_rising-remove xs b rising)

pub two_moved : (xs : Squares) (b t q r : ℕ) → is_rising xs ≡ true → q ≢ t → r ≢ b
    → insert (remove (insert (remove xs q) r) b) t ≡ insert (remove (insert (remove xs b) t) q) r
two_moved xs b t q r rising apart other =
    let one = insert (remove xs q) r in
    let two = insert (remove xs b) t in
    same_set (insert (remove one b) t) (insert (remove two q) r) (rising_moved one b t (rising_moved xs q r rising))
    (rising_moved two q r (rising_moved xs b t rising)) each
  where
    each : (z : ℕ) → contains (insert (remove (insert (remove xs q) r) b) t) z ≡ contains (insert
        (remove (insert (remove xs b) t) q) r) z
    each z =
        let from_q = λ (e : eqb q z ≡ true) (f : eqb t z ≡ true). apart (eqb-true q z e ∙ sym (eqb-true t z f)) in
        let from_r = λ (e : eqb r z ≡ true) (f : eqb b z ≡ true). other (eqb-true r z e ∙ sym (eqb-true b z f)) in
        moved_at (insert (remove xs q) r) b t z
        ∙ (ap (λ (x : Bool). eqb t z || (not (eqb b z) && x)) (moved_at xs q r z)
        ∙ (bits (contains xs z) (eqb b z) (eqb q z) (eqb r z) (eqb t z) from_q from_r
        ∙ (sym (ap (λ (x : Bool). eqb r z || (not (eqb q z) && x)) (moved_at xs b t z))
        ∙ sym (moved_at (insert (remove xs b) t) q r z))))

-- two squares of which one passes a test and the other does not are not the same
pub differ : (test : ℕ → Bool) (x y : ℕ) → test x ≡ true → test y ≡ false → x ≢ y
differ test x y in_x not_y e = true≢false (sym in_x ∙ (ap test e ∙ not_y))
