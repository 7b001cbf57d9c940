-- What a position feeds a hasher: words of four squares each, the last one with the player.
use Rattle.std.specs.Prelude.{◌≡◌, ℕ, ◌+◌, ◌*◌, ◌^◌, ◌==◌, ◌&&◌, IsTrue, List, [], ◌∷◌, nat_eq}
use Rattle.std.specs.Cmp.{first_so, second_so, unsigned_Decides}
use Rattle.std.specs.Cmp.Lexicographic.{pointwise, bytes_decides}
use Rattle.std.specs.List.{flat_map}
use Rattle.std.specs.Hash as fed
use Rattle.grid.specs.Board.{Scene}
use Rattle.grid.specs.Squares.{Squares}

-- four squares in one word, each above those before it
abbrev pub word_of : ℕ → ℕ → ℕ → ℕ → ℕ
word_of a b c d = a + b * 2 ^ 16 + c * 2 ^ 32 + d * 2 ^ 48

-- the squares by fours, and then those that are left over, with the player after them
abbrev pub words_of : Squares → ℕ → List ℕ
words_of [] player = word_of player 0 0 0 ∷ []
words_of (a ∷ []) player = word_of a player 0 0 ∷ []
words_of (a ∷ b ∷ []) player = word_of a b player 0 ∷ []
words_of (a ∷ b ∷ c ∷ []) player = word_of a b c player ∷ []
words_of (a ∷ b ∷ c ∷ d ∷ others) player = word_of a b c d ∷ words_of others player

-- the words of the boxes and the player, each written at once
abbrev pub writes_of_squares : Squares → ℕ → fed.HashWrites
writes_of_squares boxes player = flat_map fed.u64 (words_of boxes player)

abbrev pub writes_of : Scene → fed.HashWrites
writes_of s = writes_of_squares s.boxes s.player

-- equal positions write the same
pub writes_alike : (s t : Scene) → IsTrue (pointwise nat_eq s.boxes t.boxes && (s.player == t.player)) →
    writes_of s ≡ writes_of t
writes_alike s t same =
    let boxes = (bytes_decides s.boxes t.boxes).0
    (first_so (pointwise nat_eq s.boxes t.boxes) (s.player == t.player) same) in
    let player = (unsigned_Decides s.player t.player).0
    (second_so (pointwise nat_eq s.boxes t.boxes) (s.player == t.player) same) in
    λ i. flat_map fed.u64 (words_of (boxes i) (player i))
