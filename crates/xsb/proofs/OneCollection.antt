-- Bytes are a collection in one way, and in no other.
use Rattle.std.proofs.Common.{◌≡◌, ℕ, suc, ◌+◌, ◌<◌, List, [], ◌∷◌, ◌++◌, length, flat_map, refl, sym, ap, ◌∙◌, arith, length-append, append_assoc, subst}
use Rattle.std.specs.Bool.{⊤}
use Rattle.std.specs.List.{AllZip, AllByRecursion}
use Rattle.grid.specs.declared.cell.Cell.{Cell}
use Rattle.xsb.specs.Lines.{lines_of_text}
use Rattle.xsb.specs.Boards.{board_of}
use Rattle.xsb.specs.Rows.{IsRow, IsRowLine, IsTextLine}
use Rattle.xsb.specs.Collection.{Found, Part, IsPart, AreSeparated, IsFoundBoard, AreFound, IsCollection}
use Rattle.xsb.proofs.RowItems.{same-row}
use Rattle.xsb.proofs.lemmas.Cutting.{HasRowLine, cut-lines, find-boards}

-- an element of a kind comes first, or none
abbrev Begins : {A : Type 0} → (A → Type 0) → List A → Type 0
Begins P [] = ⊤
Begins P (x ∷ xs) = P x

-- the front of one kind before another kind is one front
same-front : {A : Type 0} (P Q : A → Type 0) → ((x : A) → P x → Q x → ⊥) → (xs ys r s : List A) → AllByRecursion Q xs → AllByRecursion Q ys → Begins P r →
    Begins P s → xs ++ r ≡ ys ++ s → (xs ≡ ys) × (r ≡ s)
same-front P Q other [] [] r s a b f g e = (refl, e)
same-front P Q other [] (y ∷ ys) [] s a b f g e = absurd (cc)
same-front P Q other [] (y ∷ ys) (x ∷ r) s a b f g e = absurd (let same : x ≡ y = cc in other y (subst P same f) b.0)
same-front P Q other (x ∷ xs) [] r [] a b f g e = absurd (cc)
same-front P Q other (x ∷ xs) [] r (y ∷ s) a b f g e = absurd (let same : y ≡ x = cc in other x (subst P same g) a.0)
same-front P Q other (x ∷ xs) (y ∷ ys) r s a b f g e =
    let head : x ≡ y = cc in let tail : xs ++ r ≡ ys ++ s = cc in
    let more = same-front P Q other xs ys r s a.1 b.1 f g tail in
    let first = more.0 in (cc, more.1)

abbrev lines_of_parts : List Part → List (List ℕ)
lines_of_parts parts = flat_map (λ part. part.board ++ part.gap) parts

begins-all : {A : Type 0} (Q : A → Type 0) (xs ys : List A) → 0 < length xs → AllByRecursion Q xs → Begins Q (xs ++ ys)
begins-all Q [] ys some all = absurd (omega arith)
begins-all Q (x ∷ xs) ys some all = all.0

-- a board comes first in parts
begins-parts : (parts : List Part) → AllByRecursion IsPart parts → Begins HasRowLine (lines_of_parts parts)
begins-parts [] boards = tt
begins-parts (part ∷ parts) boards =
    subst (Begins HasRowLine) (sym (append_assoc part.board part.gap (lines_of_parts parts)))
    (begins-all HasRowLine part.board (part.gap ++ lines_of_parts parts) boards.0.some boards.0.board)

-- after a board a text line comes, or nothing
begins-gap : (gap : List (List ℕ)) (parts : List Part) → AllByRecursion IsTextLine gap →
    ((next : Part) (more : List Part) → parts ≡ next ∷ more → 0 < length gap) → Begins IsTextLine (gap ++ lines_of_parts parts)
begins-gap [] [] texts some = tt
begins-gap [] (next ∷ more) texts some = absurd (let l = some next more refl in omega arith)
begins-gap (line ∷ gap) parts texts some = texts.0

apart-gap : (part : Part) (parts : List Part) → AreSeparated (part ∷ parts) → (next : Part) (more : List Part) → parts ≡ next ∷ more → 0 < length part.gap
apart-gap part [] apart next more e = absurd (cc)
apart-gap part (q ∷ parts) apart next more e = apart.0

apart-rest : (part : Part) (parts : List Part) → AreSeparated (part ∷ parts) → AreSeparated parts
apart-rest part [] apart = tt
apart-rest part (q ∷ parts) apart = apart.1

no-both : (line : List ℕ) → HasRowLine line → IsTextLine line → ⊥
no-both line rows text = text rows.0 rows.1

-- lines are cut into boards and gaps in one way
same-parts : (ps qs : List Part) → AllByRecursion IsPart ps → AllByRecursion IsPart qs → AreSeparated ps → AreSeparated qs → lines_of_parts ps ≡ lines_of_parts qs →
    ps ≡ qs
same-parts [] [] a b f g e = refl
same-parts [] (q ∷ qs) a b f g e = absurd (let l = ap length e in let some = b.0.some in let m = length-append (q.board ++ q.gap) (lines_of_parts qs) in
    let n = length-append q.board q.gap in omega arith)
same-parts (p ∷ ps) [] a b f g e = absurd (let l = ap length e in let some = a.0.some in let m = length-append (p.board ++ p.gap) (lines_of_parts ps) in
    let n = length-append p.board p.gap in omega arith)
same-parts (p ∷ ps) (q ∷ qs) a b f g e =
    let whole = sym (append_assoc p.board p.gap (lines_of_parts ps)) ∙ e ∙ append_assoc q.board q.gap (lines_of_parts qs) in
    let boards = same-front IsTextLine HasRowLine (λ x t r. no-both x r t) p.board q.board (p.gap ++ lines_of_parts ps)
    (q.gap ++ lines_of_parts qs) a.0.board b.0.board
    (begins-gap p.gap ps a.0.gap (apart-gap p ps f)) (begins-gap q.gap qs b.0.gap (apart-gap q qs g)) whole in
    let gaps = same-front HasRowLine IsTextLine no-both p.gap q.gap (lines_of_parts ps) (lines_of_parts qs) a.0.gap b.0.gap (begins-parts ps a.1)
    (begins-parts qs b.1) boards.1 in
    let rest = same-parts ps qs a.1 b.1 (apart-rest p ps f) (apart-rest q qs g) gaps.1 in
    let first : p ≡ q = ap (λ l. record { board = l; gap = p.gap }) boards.0 ∙ ap (λ l. record { board = q.board; gap = l }) gaps.0 in
    ap (λ x. x ∷ ps) first ∙ ap (λ l. q ∷ l) rest

-- a relation that gives each element one value gives a list one list of values
same-zip : {A B : Type 0} (R : A → B → Type 0) → ((x : A) (y z : B) → R x y → R x z → y ≡ z) → (xs : List A)
    (ys zs : List B) → AllZip R xs ys → AllZip R xs zs → ys ≡ zs
same-zip R one [] [] [] a b = refl
same-zip R one [] [] (z ∷ zs) a b = absurd b
same-zip R one [] (y ∷ ys) zs a b = absurd a
same-zip R one (x ∷ xs) [] zs a b = absurd a
same-zip R one (x ∷ xs) (y ∷ ys) [] a b = absurd b
same-zip R one (x ∷ xs) (y ∷ ys) (z ∷ zs) a b =
    ap (λ v. v ∷ ys) (one x y z a.0 b.0) ∙ ap (λ vs. z ∷ vs) (same-zip R one xs ys zs a.1 b.1)

-- a line has one list of rows
pub same-line : (line : List ℕ) (rows others : List (List Cell)) → IsRowLine line rows → IsRowLine line others
    → rows ≡ others
same-line line rows others a b = same-zip IsRow (λ x y z p q. same-row p z q) _ rows others a.pieces b.pieces

same-found : (line : ℕ) (before : List (List ℕ)) (part : Part) (f g : Found) → IsFoundBoard line before part f → IsFoundBoard line before part g → f ≡ g
same-found line before part f g a b =
    let name = a.name ∙ sym b.name in let first = a.first_line ∙ sym b.first_line in
    let rows = same-zip IsRowLine same-line part.board a.board.0 b.board.0 a.board.1 b.board.1 in
    let board = a.board.2 ∙ ap (λ r. board_of (flat_map (λ x. x) r)) rows ∙ sym b.board.2 in
    ap (λ n. record { name = n; first_line = f.first_line; board = f.board }) name ∙ ap (λ n. record { name = g.name; first_line = n; board = f.board }) first
    ∙ ap (λ n. record { name = g.name; first_line = g.first_line; board = n }) board

same-founds : (line : ℕ) (before : List (List ℕ)) (parts : List Part) (fs gs : List Found) → AreFound line before parts fs → AreFound line before parts gs →
    fs ≡ gs
same-founds line before [] [] [] a b = refl
same-founds line before [] [] (g ∷ gs) a b = absurd b
same-founds line before [] (f ∷ fs) gs a b = absurd a
same-founds line before (p ∷ parts) [] gs a b = absurd a
same-founds line before (p ∷ parts) (f ∷ fs) [] a b = absurd b
same-founds line before (p ∷ parts) (f ∷ fs) (g ∷ gs) a b =
    ap (λ x. x ∷ fs) (same-found line before p f g a.0 b.0) ∙ ap (λ l. g ∷ l) (same-founds (line + length (p.board ++ p.gap)) p.gap parts fs gs a.1 b.1)

-- bytes are a collection of one list of boards at most
pub one-collection : (bytes : List ℕ) (founds others : List Found) → IsCollection bytes founds → IsCollection bytes others → founds ≡ others
unfolding IsCollection
one-collection bytes founds others a b =
    let one = a.2 in let two = b.2 in
    let gaps = same-front HasRowLine IsTextLine no-both a.0 b.0 (lines_of_parts a.1) (lines_of_parts b.1) one.texts two.texts (begins-parts a.1 one.boards)
    (begins-parts b.1 two.boards) (sym one.whole ∙ two.whole) in
    let parts = same-parts a.1 b.1 one.boards two.boards one.apart two.apart gaps.1 in
    same-founds (suc (length b.0)) b.0 b.1 founds others
    (subst (λ ps. AreFound (suc (length b.0)) b.0 ps founds) parts (subst (λ g. AreFound (suc (length g)) g a.1 founds) gaps.0 a.3)) b.3

-- all bytes are a collection
pub some-collection : (bytes : List ℕ) → (founds : List Found) × IsCollection bytes founds
unfolding IsCollection
some-collection bytes =
    let cut = cut-lines (lines_of_text bytes) in
    let found = find-boards (suc (length cut.gap)) cut.gap cut.parts cut.is.boards in
    (found.0, (cut.gap, cut.parts, cut.is, found.1))
