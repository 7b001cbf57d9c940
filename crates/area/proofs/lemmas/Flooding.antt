-- What a flood by words finds: the area.
use Rattle.std.proofs.Common.{◌≡◌, ℕ, ◌+◌, ◌*◌, ◌<◌, ◌≤◌, true, ◌↔◌, List, refl, sym, ap, subst, ◌∙◌, arith}
use Rattle.grid.specs.declared.limits.TheConstants.{MAX_SQUARES}
use Rattle.grid.specs.declared.masks.TheConstants.{WORD_BITS}
use Rattle.grid.specs.Board.{Board, Scene}
use Rattle.grid.specs.Masks.{has_bit, word_count}
use Rattle.grid.specs.Squares.{Squares, contains}
use Rattle.grid.specs.Rising.{is_rising}
use Rattle.grid.proofs.lemmas.Squares.{same_set}
use Rattle.area.specs.Area.{Area, IsNorm, at}
use Rattle.area.specs.Words.{squares_of}
use Rattle.area.proofs.lemmas.Norms.{norm_found}
use Rattle.area.proofs.lemmas.WordSets.{contains-squares_of, squares_of_rise}

-- the words have a bit for each square
pub words_enough : (n words q : ℕ) → words ≡ word_count n → q < n → q < WORD_BITS * words
unfolding word_count
words_enough n words q e lt = omega (arith, e, lt)

-- and not many more
pub words_few : (n words : ℕ) → words ≡ word_count n → n ≤ MAX_SQUARES → WORD_BITS * words ≤ MAX_SQUARES + WORD_BITS
unfolding word_count
words_few n words e le = omega (arith, e, le)

-- words that are the same hold the same area
pub area_seen : (board : Board) (s : Scene) (words seen : List ℕ) → ((q : ℕ) → (has_bit words q ≡ true) ↔ Area board s q) → seen ≡ words → (q : ℕ) →
    (has_bit seen q ≡ true) ↔ Area board s q
area_seen board s words seen area same q = subst (λ (ws : List ℕ). (has_bit ws q ≡ true) ↔ Area board s q) (sym same) (area q)

-- the list of the squares of words that hold the area
pub listed_area : (board : Board) (s : Scene) (words seen : List ℕ) → ((q : ℕ) → (has_bit words q ≡ true) ↔ Area board s q) → seen ≡ words → (q : ℕ) →
    (contains (squares_of seen) q ≡ true) ↔ Area board s q
listed_area board s words seen area same q = grind (arith, contains-squares_of)

-- the list of the squares of words that hold the boxes
pub listed_boxes : (boxes : Squares) (words seen : List ℕ) → is_rising boxes ≡ true → ((q : ℕ) → has_bit words q ≡ contains boxes q) → seen ≡ words →
    squares_of seen ≡ boxes
listed_boxes boxes words seen rising stand same =
    same_set (squares_of seen) boxes (squares_of_rise seen) rising (λ q. contains-squares_of seen q ∙ (ap (λ (ws : List ℕ). has_bit ws q) same ∙ stand q))

-- the least square of the area makes the normal form
pub norm_of_least : (board : Board) (s : Scene) (words : List ℕ) (r : ℕ) → ((q : ℕ) → (has_bit words q ≡ true) ↔ Area board s q) → has_bit words r ≡ true →
    ((q : ℕ) → has_bit words q ≡ true → r ≤ q) → IsNorm board s (at s r)
norm_of_least board s words r area here least = norm_found board s (at s r) r refl ((area r).0 here) (λ q w. least q ((area q).1 w))
