-- Closed positions as they are copied.
use Rattle.std.proofs.Common.{◌≡◌, ℕ, zero, suc, ◌≤◌, List, [], ◌∷◌, ◌++◌, length, take, drop, Some, refl, sym, ap, ◌∙◌, arith}
use Rattle.std.proofs.lemmas.List.{append_assoc}
use Rattle.std.proofs.lemmas.Option.{slice_get_within}
use Rattle.std.specs.Prelude.{slice_get}
use Rattle.std.specs.Option.{option_to_list}
use Rattle.grid.specs.Board.{Scene}
use Rattle.store.specs.Entries.{Closed, places_of, origins_of}
use Rattle.successors.proofs.lemmas.Lists.{take_push}
use Rattle.store.specs.inside.Copies.{squares_of}

pub length-take_all : {A : Type 0} (xs : List A) (n : ℕ) → n ≤ length xs → length (take n xs) ≡ n
length-take_all [] zero le = refl
length-take_all [] (suc n) le = absurd (omega arith)
length-take_all (x ∷ xs) zero le = refl
length-take_all (x ∷ xs) (suc n) le = ap suc (length-take_all xs n (omega arith))

drop-push : {A : Type 0} (xs : List A) (n : ℕ) (a : A) → n ≤ length xs → drop n (xs ++ a ∷ []) ≡ drop n xs ++ a ∷ []
drop-push [] zero a le = refl
drop-push [] (suc n) a le = absurd (omega arith)
drop-push (x ∷ xs) zero a le = refl
drop-push (x ∷ xs) (suc n) a le = drop-push xs n a (omega arith)

-- one more entry is copied
pub copied_more : (es : List Closed) (from place : ℕ) (e : Closed) → from ≤ place → slice_get es place ≡ Some e →
    drop from (take (suc place) es) ≡ drop from (take place es) ++ e ∷ []
copied_more es from place e le at =
    let long = length-take_all es place (omega (arith, slice_get_within es place e at)) in
    ap (drop from) (take_push es place e at) ∙ drop-push (take place es) from e (omega arith)

pub places-push : (es : List Closed) (e : Closed) → places_of (es ++ e ∷ []) ≡ places_of es ++ e.0 ∷ []
places-push [] e = refl
places-push (x ∷ es) e = ap (λ xs. x.0 ∷ xs) (places-push es e)

append_end : {A : Type 0} (xs : List A) → xs ++ [] ≡ xs
append_end [] = refl
append_end (x ∷ xs) = ap (λ ys. x ∷ ys) (append_end xs)

pub origins-push : (es : List Closed) (e : Closed) → origins_of (es ++ e ∷ []) ≡ origins_of es ++ option_to_list e.1
origins-push [] e = append_end (option_to_list e.1)
origins-push (x ∷ es) e = ap (λ xs. option_to_list x.1 ++ xs) (origins-push es e) ∙ sym (append_assoc (option_to_list x.1) (origins_of es) (option_to_list e.1))

-- the squares of one more position
pub squares-push : (ms : List Scene) (m : Scene) → squares_of (ms ++ m ∷ []) ≡ squares_of ms ++ (m.boxes ++ m.player ∷ [])
squares-push [] m = refl
squares-push (n ∷ ms) m = ap (λ xs. n.boxes ++ n.player ∷ xs) (squares-push ms m) ∙ sym (assoc n.boxes)
  where
    assoc : (xs : List ℕ) → (xs ++ n.player ∷ squares_of ms) ++ (m.boxes ++ m.player ∷ []) ≡ xs ++ n.player ∷ (squares_of ms ++ (m.boxes ++ m.player ∷ []))
    assoc [] = refl
    assoc (x ∷ xs) = ap (λ ys. x ∷ ys) (assoc xs)
