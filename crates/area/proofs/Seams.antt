-- What a vector holds whose items were lent and written.
use Rattle.std.proofs.Common.{◌≡◌, ℕ, ◌<◌, ◌++◌, List, length, get_or, take, drop, sym, ap, ◌∙◌, length-append, arith}
use Rattle.std.proofs.lemmas.List.{get_or_read, length-take-le, length-drop}
use Rattle.std.proofs.Math.Seq.{take-append_seam}
use Rattle.area.specs.inside.Written.{written_over}

-- all of its items are those that were written
pub written : (new rest : List ℕ) (len : ℕ) → len ≡ length new → take len (new ++ rest) ≡ new
written new rest len e = ap (λ (n : ℕ). take n (new ++ rest)) e ∙ take-append_seam new rest

-- so is the item read at an index
pub read_written : (new rest : List ℕ) (len index at item : ℕ) → len ≡ length new → index < len → item ≡ get_or (take len (new ++ rest)) index item →
    index ≡ at → item ≡ get_or new at 0
read_written new rest len index at item e lt is same = grind (arith, written, get_or_read)

-- where no fewer words were written than there were, the set holds these
pub over : (old words : List ℕ) → length words ≡ length old → written_over old words ≡ words
over old words e = written words (drop (length words) old) (length old) (sym e)

-- it has as many words as before in any case
pub length-written_over : (old words : List ℕ) → length (written_over old words) ≡ length old
length-written_over old words =
    let all = length-append words (drop (length words) old) in
    let rest = length-drop (length words) old in
    length-take-le (length old) (words ++ drop (length words) old) (omega (arith, all, rest))
