-- Positions as a list of squares.
use Rattle.std.proofs.Common.{◌≡◌, ℕ, zero, suc, ◌+◌, ◌*◌, ◌<◌, ◌≤◌, List, [], ◌∷◌, ◌++◌, length, take, drop, get_or, Some, refl, sym, ap, subst, ◌∙◌, add-one}
use Rattle.std.proofs.Common.{arith}
use Rattle.std.proofs.lemmas.List.{length-append, drop-drop}
use Rattle.std.specs.Prelude.{slice_get}
use Rattle.std.specs.Arc.{arc_value}
use Rattle.grid.specs.Board.{Scene}
use Rattle.grid.specs.Lawful.{box_count}
use Rattle.grid.specs.declared.limits.TheConstants.{MAX_BOXES}
use Rattle.layers.specs.LayerView.{LayerView}
use Rattle.layers.specs.declared.layer.Layer.TheInside.{Inside}
use Rattle.store.specs.inside.Copies.{squares_of}
use Rattle.layers.specs.inside.Insides.{scenes_of, layer_view, IsSoundLayer}

-- each position has so many boxes
abbrev pub HaveBoxes : ℕ → List Scene → Type 0
HaveBoxes boxes ms = (i : ℕ) (m : Scene) → slice_get ms i ≡ Some m → length m.boxes ≡ boxes

pub length-scenes_of : (boxes count : ℕ) (xs : List ℕ) → length (scenes_of boxes count xs) ≡ count
length-scenes_of boxes zero xs = refl
length-scenes_of boxes (suc count) xs = ap suc (length-scenes_of boxes count (drop (suc boxes) xs))

pub length-squares_of : (boxes : ℕ) (ms : List Scene) → HaveBoxes boxes ms → length (squares_of ms) ≡ length ms * suc boxes
length-squares_of boxes [] have = omega arith
length-squares_of boxes (m ∷ ms) have = omega (
  arith,
  length-append m.boxes (m.player ∷ squares_of ms),
  have zero m refl,
  length-squares_of boxes ms (λ i n at. have (suc i) n at),
)

-- positions are read from their squares
pub scenes-squares : (boxes : ℕ) (ms : List Scene) → HaveBoxes boxes ms → scenes_of boxes (length ms) (squares_of ms) ≡ ms
scenes-squares boxes [] have = refl
scenes-squares boxes (m ∷ ms) have = λ i. record { boxes = front i; player = last i } ∷ (ap (scenes_of boxes (length ms)) rest
    ∙ scenes-squares boxes ms (λ i n at. have (suc i) n at)) i where
      long : length m.boxes ≡ boxes
      long = have zero m refl

      take_front : (xs ys : List ℕ) → take (length xs) (xs ++ ys) ≡ xs
      take_front [] ys = refl
      take_front (x ∷ xs) ys = ap (λ zs. x ∷ zs) (take_front xs ys)

      read_next : (xs ys : List ℕ) (y : ℕ) → get_or (xs ++ y ∷ ys) (length xs) 0 ≡ y
      read_next [] ys y = refl
      read_next (x ∷ xs) ys y = read_next xs ys y

      drop_next : (xs ys : List ℕ) (y : ℕ) → drop (suc (length xs)) (xs ++ y ∷ ys) ≡ ys
      drop_next [] ys y = refl
      drop_next (x ∷ xs) ys y = drop_next xs ys y

      front : take boxes (m.boxes ++ m.player ∷ squares_of ms) ≡ m.boxes
      front = ap (λ n. take n (m.boxes ++ m.player ∷ squares_of ms)) (sym long) ∙ take_front m.boxes (m.player ∷ squares_of ms)

      last : get_or (m.boxes ++ m.player ∷ squares_of ms) boxes 0 ≡ m.player
      last = ap (λ n. get_or (m.boxes ++ m.player ∷ squares_of ms) n 0) (sym long) ∙ read_next m.boxes (squares_of ms) m.player

      rest : drop (suc boxes) (m.boxes ++ m.player ∷ squares_of ms) ≡ squares_of ms
      rest = ap (λ n. drop (suc n) (m.boxes ++ m.player ∷ squares_of ms)) (sym long) ∙ drop_next m.boxes (squares_of ms) m.player

-- the squares of a rank lie within all squares
pub row_within : (width count rank : ℕ) → rank < count → rank * width + width ≤ count * width
row_within width zero rank lt = absurd (omega arith)
row_within width (suc count) zero lt = omega arith
row_within width (suc count) (suc rank) lt = omega (arith, row_within width count rank (omega arith))

-- the position with a rank is that of the squares there
pub scene_at : (boxes count : ℕ) (xs : List ℕ) (rank : ℕ) → rank < count → slice_get (scenes_of boxes count xs) rank ≡ Some (record {
  boxes = take boxes (drop (rank * suc boxes) xs);
  player = get_or (drop (rank * suc boxes) xs) boxes 0;
})
scene_at boxes zero xs rank lt = absurd (omega arith)
scene_at boxes (suc count) xs zero lt =
    let z : 0 * suc boxes ≡ 0 = omega arith in
    ap (λ ys. Some (record { boxes = take boxes ys; player = get_or ys boxes 0 })) (drop_none xs ∙ ap (λ n. drop n xs) (sym z))
  where
    drop_none : (ys : List ℕ) → ys ≡ drop 0 ys
    drop_none [] = refl
    drop_none (y ∷ ys) = refl
scene_at boxes (suc count) xs (suc rank) lt =
    let e : suc boxes + rank * suc boxes ≡ suc rank * suc boxes = omega arith in
    scene_at boxes count (drop (suc boxes) xs) rank (omega arith) ∙ ap (λ ys. Some (record { boxes = take boxes ys; player = get_or ys boxes 0 }))
    (drop-drop (rank * suc boxes) (suc boxes) xs ∙ ap (λ n. drop n xs) e)

-- the position of a row, where a row is its boxes and its player
abbrev pub row_scene : ℕ → ℕ → List ℕ → Scene
row_scene boxes rank xs = record { boxes = take boxes (drop (rank * (boxes + 1)) xs); player = get_or (drop (rank * (boxes + 1)) xs) boxes 0 }

-- the row of a rank of a layer
pub layer_row : (a : Inside) (v : LayerView) → IsSoundLayer a → layer_view a ≡ v → (boxes rank : ℕ) → boxes ≡ box_count v.level.board → rank < length v.places →
    (xs : List ℕ) → xs ≡ a.squares.items →
    (slice_get v.places rank ≡ Some (row_scene boxes rank xs)) × (rank * (boxes + 1) + (boxes + 1) ≤ length xs) × (boxes ≤ MAX_BOXES)
layer_row a v sound view boxes rank read within xs same = (
  ap (λ (u : LayerView). slice_get u.places rank) (sym view) ∙ ap (λ n. slice_get (scenes_of n a.count a.squares.items) rank) (sym e)
      ∙ scene_at boxes a.count a.squares.items rank lt ∙ (λ i. Some (record {
        boxes = take boxes (drop (rank * sym (add-one boxes) i) (sym same i));
        player = get_or (drop (rank * sym (add-one boxes) i) (sym same i)) boxes 0;
      })),
  subst (λ n. rank * n + n ≤ length xs) (sym (add-one boxes)) (omega (arith, row_within (suc boxes) a.count rank lt, long)),
  omega (arith, e, sound.few),
)
  where
    e : boxes ≡ box_count (arc_value a.problem).board
    e = read ∙ ap (λ (u : LayerView). box_count u.level.board) (sym view)

    lt : rank < a.count
    lt = omega (arith, within, ap (λ (u : LayerView). length u.places) view, length-scenes_of (box_count (arc_value a.problem).board) a.count a.squares.items)

    long : length xs ≡ a.count * suc boxes
    long = ap length same ∙ sound.squares ∙ ap (λ n. a.count * suc n) (sym e)
