-- What the books of all shares hold: the layers that they have closed, and different positions of the next one.
use Rattle.std.proofs.Common.{◌≡◌, ℕ, ◌+◌, true, false, Bool, List, [], ◌∷◌, length, map, sum_by, Some, refl, sym, ap, subst, ◌∙◌, arith}
use Rattle.std.proofs.lemmas.List.{length-map}
use Rattle.std.proofs.lemmas.Option.{none-some}
use Rattle.std.specs.Prelude.{slice_get}
use Rattle.grid.specs.Board.{Scene}
use Rattle.successors.specs.Layered.{IsIn}
use Rattle.successors.specs.Shares.{share_of}
use Rattle.successors.specs.Reaching.{AreLayersOf, total}
use Rattle.successors.specs.Distances.{IsAtDistance}
use Rattle.layers.specs.BookView.{BookView, InShare, IsLawfulBook, AreLawfulBooks}
use Rattle.layers.specs.Books.{AreAllShares}
use Rattle.layers.specs.Holding.{AreManyIn, all_held, held}
use Rattle.layers.proofs.lemmas.Books.{open-distance}
use Rattle.layers.proofs.lemmas.Counting.{flat, length-flat, of_flat, flat_distinct, total-map, sum_by-same}
use Rattle.successors.proofs.lemmas.Lists.{at_map, sum_by_first}
use Rattle.layers.proofs.lemmas.Shares.{books_total}

-- the open positions of a book
abbrev open_in : BookView → List Scene
open_in v = map (λ e. e.0) v.waiting

-- they are of its share, and at the next distance
open_away : (v : BookView) → IsLawfulBook v → (m : Scene) → IsIn (open_in v) m → InShare v m × IsAtDistance v.level m (length v.closed)
open_away v book m i = go v.begun refl
  where
    go : (b : Bool) → v.begun ≡ b → InShare v m × IsAtDistance v.level m (length v.closed)
    go true e = open-distance v book e v.waiting (book.waiting e) book.distinct m i
    go false e = absurd (none-some m (ap (λ ws. slice_get (map (λ e. e.0) ws) i.0) (sym (book.not_begun e).3) ∙ i.1))

-- each of them holds the positions that it has closed and its open positions
held_parts : (books : List BookView) → all_held books ≡ sum_by (λ (v : BookView). total v.closed) books + sum_by (λ (v : BookView). length v.waiting) books
held_parts [] = refl
held_parts (v ∷ books) = omega (
  arith,
  sum_by_first held v books,
  sum_by_first (λ (w : BookView). total w.closed) v books,
  sum_by_first (λ (w : BookView). length w.waiting) v books,
  held_parts books,
)

module _ (books : List BookView) (all : AreAllShares books) (lawful : AreLawfulBooks books) where
  abbrev all_open : List (List Scene)
  all_open = map open_in books

  -- the open positions of a share's book are of that share, and at the distance of the next layer
  away : (t : ℕ) (ms : List Scene) → slice_get all_open t ≡ Some ms → (m : Scene) → IsIn ms m →
      (share_of all.first.shares m ≡ t) × IsAtDistance all.first.level m (length all.first.closed)
  away t ms at m i =
      let x = at_map open_in books t ms at in
      let v : BookView = x.0 in
      let e = all.each t v x.1 in
      let w = open_away v (lawful t v x.1) m (i.0, ap (λ zs. slice_get zs i.0) x.2 ∙ i.1) in (
        subst (λ n. share_of n m ≡ t) e.3 (w.0 ∙ e.0),
        subst (λ k. IsAtDistance all.first.level m k) e.4 (subst (λ b. IsAtDistance b m (length v.closed)) e.1 w.1),
      )

  -- the open positions of all of them are different positions of the next layer
  pub open_many : AreManyIn all.first.level (length all.first.closed) (sum_by (λ (v : BookView). length v.waiting) books)
  open_many = record {
    places = flat all_open;
    distinct = flat_distinct all_open
        (λ t ms at. let x = at_map open_in books t ms at in subst (λ zs. (i j : ℕ) (m : Scene) → slice_get zs i ≡ Some m → slice_get zs j ≡ Some m →
        i ≡ j) x.2 (lawful t x.0 x.1).distinct) (λ s t ms ns m at_m at_n in_m in_n. sym (away s ms at_m m in_m).0 ∙ (away t ns at_n m in_n).0);
    away = λ m i. (let w = of_flat all_open m i in (away w.0 w.1 w.2 m w.3).1);
    count = length-flat all_open ∙ total-map open_in books ∙ sum_by-same (λ (v : BookView). length (open_in v)) (λ v. length v.waiting) books
        (λ v. length-map v.waiting (λ e. e.0));
  }

  -- and so all that they hold are the layers and these
  pub held_all : (layers : List (List Scene)) → AreLayersOf all.first.level layers → length layers ≡ length all.first.closed →
      (many : ℕ) × AreManyIn all.first.level (length all.first.closed) many × (all_held books ≡ total layers + many)
  held_all layers are long =
      (sum_by (λ (v : BookView). length v.waiting) books, open_many, omega (arith, held_parts books, books_total books all lawful layers are long))
