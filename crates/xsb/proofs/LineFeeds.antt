-- Lines: the pieces that end at line feeds are what stands between line feeds.
use Rattle.std.proofs.Common.{◌≡◌, ℕ, suc, ◌<◌, Bool, true, false, cond, ◌==◌, List, [], ◌∷◌, ◌++◌, length, map, take, drop, refl, sym, ap, ◌∙◌, arith}
use Rattle.std.specs.List.{slice_split, onto_first}
use Rattle.std.proofs.lemmas.Simd.{map-map}
use Rattle.bstr.specs.Text.{line_len, lines_of}
use Rattle.bstr.proofs.lemmas.LineLemmas.{lines-nil, lines-step}
use Rattle.xsb.specs.inside.Bytes.{line_feed, carriage_return}
use Rattle.xsb.specs.Lines.{without_last, without_last_empty, without_mark, lines_of_text}
use Rattle.xsb.specs.inside.Reading.{cut_lines}
use Rattle.xsb.proofs.CutEnds.{take-zero}

-- a line feed is a line of its own front
lines-feed : (b : ℕ) (bs : List ℕ) → (b == line_feed) ≡ true → lines_of (b ∷ bs) ≡ (b ∷ []) ∷ lines_of bs
unfolding line_len
lines-feed b bs e =
    let one : line_len (b ∷ bs) ≡ 1 = ap (λ t. cond t 1 (suc (line_len bs))) e in
    lines-step (b ∷ bs) (omega arith) ∙ ap (λ n. take n (b ∷ bs) ∷ lines_of (drop n (b ∷ bs))) one ∙ ap (λ l. (b ∷ l) ∷ lines_of bs) (take-zero bs)

-- any other byte stands at the front of the next line
lines-other : (b : ℕ) (bs : List ℕ) → (b == line_feed) ≡ false → lines_of (b ∷ bs) ≡ onto_first b (lines_of bs)
unfolding line_len
lines-other b [] e =
    let one : line_len (b ∷ []) ≡ 1 = ap (λ t. cond t 1 (suc 0)) e in
    lines-step (b ∷ []) (omega arith) ∙ ap (λ n. take n (b ∷ []) ∷ lines_of (drop n (b ∷ []))) one ∙ ap (λ l. (b ∷ []) ∷ l) lines-nil ∙
    ap (onto_first b) (sym lines-nil)
lines-other b (c ∷ bs) e =
    let more : line_len (b ∷ c ∷ bs) ≡ suc (line_len (c ∷ bs)) = ap (λ t. cond t 1 (suc (line_len (c ∷ bs)))) e in
    lines-step (b ∷ c ∷ bs) (omega arith) ∙ ap (λ n. take n (b ∷ c ∷ bs) ∷ lines_of (drop n (b ∷ c ∷ bs))) more
    ∙ ap (onto_first b) (sym (lines-step (c ∷ bs) (omega arith)))

-- what is not cut off is kept, whatever follows
pub without_last-other : (c b : ℕ) (l : List ℕ) → (b == c) ≡ false → without_last c (b ∷ l) ≡ b ∷ without_last c l
without_last-other c b [] e = ap (λ t. cond t [] (b ∷ [])) e
without_last-other c b (d ∷ l) e = refl

without_last-onto : (c b : ℕ) (ls : List (List ℕ)) → (b == c) ≡ false → map (without_last c) (onto_first b ls) ≡ onto_first b (map (without_last c) ls)
without_last-onto c b [] e = ap (λ l. l ∷ []) (without_last-other c b [] e)
without_last-onto c b (l ∷ ls) e = ap (λ k. k ∷ map (without_last c) ls) (without_last-other c b l e)

without_last_empty-onto : (b : ℕ) (part : List ℕ) (parts : List (List ℕ)) →
    without_last_empty (onto_first b (part ∷ parts)) ≡ onto_first b (without_last_empty (part ∷ parts))
without_last_empty-onto b [] [] = refl
without_last_empty-onto b (c ∷ part) [] = refl
without_last_empty-onto b [] (next ∷ parts) = refl
without_last_empty-onto b (c ∷ part) (next ∷ parts) = refl

pub split-cons : (t : Bool) (b : ℕ) (all : List (List ℕ)) (part : List ℕ) (parts : List (List ℕ)) → all ≡ part ∷ parts →
    (first : List ℕ) × (others : List (List ℕ)) × (cond t ([] ∷ all) (onto_first b all) ≡ first ∷ others)
split-cons true b all part parts e = ([], all, refl)
split-cons false b all part parts e = (b ∷ part, parts, ap (onto_first b) e)

-- what `slice_split` gives is not empty
pub split-some : (c : ℕ) (bs : List ℕ) → (part : List ℕ) × (parts : List (List ℕ)) × (slice_split (λ b. b == c) bs ≡ part ∷ parts)
split-some c [] = ([], [], refl)
split-some c (b ∷ bs) = let s = split-some c bs in split-cons (b == c) b (slice_split (λ b. b == c) bs) s.0 s.1 s.2

without_last-one : (b : ℕ) → (b == line_feed) ≡ true → without_last line_feed (b ∷ []) ≡ []
without_last-one b e = ap (λ t. cond t [] (b ∷ [])) e

pub without_last_empty-cons : (part : List ℕ) (parts : List (List ℕ)) → 0 < length parts
    → without_last_empty (part ∷ parts) ≡ part ∷ without_last_empty parts
without_last_empty-cons part [] some = absurd (omega arith)
without_last_empty-cons [] (next ∷ parts) some = refl
without_last_empty-cons (b ∷ part) (next ∷ parts) some = refl

lines-split_step : (b : ℕ) (bs : List ℕ) (t : Bool) → (b == line_feed) ≡ t →
    map (without_last line_feed) (lines_of bs) ≡ without_last_empty (slice_split (λ b. b == line_feed) bs) →
    map (without_last line_feed) (lines_of (b ∷ bs)) ≡
    without_last_empty (cond t ([] ∷ slice_split (λ b. b == line_feed) bs) (onto_first b (slice_split (λ b. b == line_feed) bs)))
lines-split_step b bs true e rest =
    let s = split-some line_feed bs in
    let some : 0 < length (slice_split (λ b. b == line_feed) bs) = let l = ap length s.2 in omega arith in
    ap (map (without_last line_feed)) (lines-feed b bs e) ∙ ap (λ l. l ∷ map (without_last line_feed) (lines_of bs)) (without_last-one b e)
    ∙ ap (λ ls. [] ∷ ls) rest ∙ sym (without_last_empty-cons [] (slice_split (λ b. b == line_feed) bs) some)
lines-split_step b bs false e rest =
    let s = split-some line_feed bs in
    ap (map (without_last line_feed)) (lines-other b bs e) ∙ without_last-onto line_feed b (lines_of bs) e ∙ ap (onto_first b) rest
    ∙ ap (λ ps. onto_first b (without_last_empty ps)) s.2 ∙ sym (without_last_empty-onto b s.0 s.1) ∙ ap (λ ps. without_last_empty (onto_first b ps)) (sym s.2)

-- the lines without their line feeds are the parts between line feeds
lines-split : (bs : List ℕ) → map (without_last line_feed) (lines_of bs) ≡ without_last_empty (slice_split (λ b. b == line_feed) bs)
lines-split [] = ap (map (without_last line_feed)) lines-nil
lines-split (b ∷ bs) = lines-split_step b bs (b == line_feed) refl (lines-split bs)

pub lines-of_text : (bytes : List ℕ) → cut_lines (lines_of (without_mark bytes)) ≡ lines_of_text bytes
unfolding lines_of_text
lines-of_text bytes = sym (map-map (without_last carriage_return) (without_last line_feed) (lines_of (without_mark bytes))) ∙
    ap (map (without_last carriage_return)) (lines-split (without_mark bytes))

cons-cond : (t : Bool) (b : ℕ) (xs ys : List ℕ) → (b ∷ cond t xs ys) ≡ cond t (b ∷ xs) (b ∷ ys)
cons-cond true b xs ys = refl
cons-cond false b xs ys = refl

-- at the end, one byte is cut off where it is that one
pub without_last-end : (c : ℕ) (bytes before : List ℕ) (last : ℕ) → bytes ≡ before ++ last ∷ [] → without_last c bytes ≡ cond (last == c) before bytes
without_last-end c bytes [] last e = ap (without_last c) e ∙ ap (λ l. cond (last == c) [] l) (sym e)
without_last-end c bytes (b ∷ []) last e = ap (without_last c) e ∙ cons-cond (last == c) b [] (last ∷ []) ∙ ap (λ l. cond (last == c) (b ∷ []) l) (sym e)
without_last-end c bytes (b ∷ d ∷ before) last e =
    ap (without_last c) e ∙ ap (λ l. b ∷ l) (without_last-end c (d ∷ before ++ last ∷ []) (d ∷ before) last refl)
    ∙ cons-cond (last == c) b (d ∷ before) (d ∷ before ++ last ∷ []) ∙ ap (λ l. cond (last == c) (b ∷ d ∷ before) l) (sym e)
