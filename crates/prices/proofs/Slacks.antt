-- What is left above what boxes need tells of pushes that never help.
use Rattle.std.proofs.Common.{◌≡◌, ◌+◌, ◌≤◌, ℕ, true, List, length, ap, ◌∙◌, arith}
use Rattle.grid.specs.declared.dir.Dir.{Dir}
use Rattle.grid.specs.Board.{Board, Scene, next}
use Rattle.grid.specs.States.{IsScene}
use Rattle.grid.specs.Squares.{contains, remove}
use Rattle.grid.specs.Rising.{is_rising}
use Rattle.prices.specs.declared.table.DistanceTable.{DistanceTable}
use Rattle.prices.specs.Helping.{NeverHelps}
use Rattle.prices.specs.Prices.{AreFar, goals_of, least_of, need_of, sum_over, total_need}
use Rattle.prices.specs.inside.Tables.{far_in, number_of}
use Rattle.prices.specs.inside.Sums.{greatest, need_by, need_seen, sum_all}
use Rattle.prices.proofs.lemmas.Goals.{is_rising-goals}
use Rattle.prices.proofs.lemmas.Helping.{costs_tell}
use Rattle.prices.proofs.lemmas.Prices.{sum_le, sum_put_back, tolls_are_free}
use Rattle.prices.proofs.Sums.{seen_low, tolls_le}

-- a push never helps where more pushes are needed than there are, once its box needs what it needs after the push
pub dear_never_helps : (board : Board) (t : DistanceTable) (tolls : List ℕ) (m after : ℕ) (s : Scene) (b : ℕ) (d : Dir) → AreFar board (far_in t)
    → t.goals.items ≡ goals_of board → length tolls ≡ length t.goals.items → IsScene board s → contains s.boxes b ≡ true
    → after ≤ need_by t tolls (next board b d) b
    → m + sum_all tolls + need_seen t tolls b s.player ≤ sum_over (λ z. need_seen t tolls z s.player) s.boxes + after → NeverHelps board m s b d
dear_never_helps board t tolls m after s b d far goals size scene there low dear =
    let toll = number_of t.goals.items tolls in
    let need = need_of board (far_in t) toll greatest in
    let rises : is_rising t.goals.items ≡ true = ap (λ (gs : List ℕ). is_rising gs) goals ∙ is_rising-goals board in
    let pay = tolls_le 0 t.goals.items tolls rises size in
    let same : sum_over toll t.goals.items ≡ sum_over toll (goals_of board) = ap (λ (gs : List ℕ). sum_over toll gs) goals in
    let all : sum_over (λ z. need_by t tolls z s.player) s.boxes ≡ total_need need s =
    ap (λ (gs : List ℕ). sum_over (λ z. least_of (λ g. far_in t g z s.player + toll g) greatest gs) s.boxes) goals in
    let one : need_by t tolls b s.player ≡ need b s.player =
    ap (λ (gs : List ℕ). least_of (λ g. far_in t g b s.player + toll g) greatest gs) goals in
    let ahead : need_by t tolls (next board b d) b ≡ need (next board b d) b =
    ap (λ (gs : List ℕ). least_of (λ g. far_in t g (next board b d) b + toll g) greatest gs) goals in
    let seen = sum_put_back (λ z. need_seen t tolls z s.player) 0 s.boxes b scene.rising there in
    let real = sum_put_back (λ z. need_by t tolls z s.player) 0 s.boxes b scene.rising there in
    let others = sum_le (λ z. need_seen t tolls z s.player) (λ z. need_by t tolls z s.player) (remove s.boxes b) (λ z h. seen_low t tolls z s.player size) in
    costs_tell board toll need m s b d (tolls_are_free board (far_in t) toll greatest far) scene there
    (omega (arith, pay, same, all, one, ahead, seen, real, others, low, dear))
