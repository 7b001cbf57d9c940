-- The cells of a board, line by line.
use Rattle.std.proofs.Common.{◌≡◌, ℕ, suc, ◌+◌, ◌<◌, ◌≤◌, List, [], ◌∷◌, ◌++◌, length, flat_map, refl, sym, ap, ◌∙◌, arith, length-append, append_assoc, subst}
use Rattle.std.specs.List.{AllZip}
use Rattle.std.proofs.lemmas.List.{append-nil}
use Rattle.std.proofs.lemmas.List.Concat.{flat_map-append}
use Rattle.grid.specs.declared.cell.Cell.{Cell}
use Rattle.xsb.specs.Boards.{cols_of, padded}
use Rattle.xsb.specs.Rows.{IsRowLine}
use Rattle.xsb.specs.inside.Reading.{cut_line, cut_lines}
use Rattle.xsb.specs.inside.Stretches.{AreRowLines}
use Rattle.xsb.proofs.RowLines.{cols_of-append}

-- how far the cells of some rows are made: k lines of count are done
pub record Filling (cols count k : ℕ) (rest : List (List ℕ)) (cells : List Cell) (rows : List (List Cell)) : Type 0 where
  pub lines : List (List ℕ)
  pub after : List (List ℕ)
  pub others : List (List Cell)
  pub whole : cut_lines rest ≡ lines ++ after
  pub count_is : length lines + k ≡ count
  pub rows_are : AreRowLines lines others
  pub made : cells ++ flat_map (padded cols) others ≡ flat_map (padded cols) rows
  pub wide : cols_of others ≤ cols

record Taken (cols : ℕ) (line : List ℕ) (lines : List (List ℕ)) (others : List (List Cell)) : Type 0 where
  first : List (List Cell)
  left : List (List Cell)
  is : IsRowLine line first
  rest : AreRowLines lines left
  all : others ≡ first ++ left
  wide : (cols_of first ≤ cols) × (cols_of left ≤ cols)

take-line : (cols : ℕ) (line : List ℕ) (lines : List (List ℕ)) (others : List (List Cell)) (by_line : List (List (List Cell))) →
    AllZip IsRowLine (line ∷ lines) by_line → others ≡ flat_map (λ r. r) by_line → cols_of others ≤ cols → Taken cols line lines others
take-line cols line lines others [] each all wide = absurd each
take-line cols line lines others (first ∷ more) each all wide =
    let both = cols_of-append first (flat_map (λ r. r) more) in let same = ap cols_of all in
    record {
      first = first;
      left = flat_map (λ r. r) more;
      is = each.0;
      rest = record { by_line = more; each = each.1; all = refl };
      all = all;
      wide = (omega arith, omega arith);
    }

fill-line : (cols count k n : ℕ) (rest next : List (List ℕ)) (cells fresh : List Cell) (rows : List (List Cell)) (raw : List ℕ) (lines after : List (List ℕ))
    (others : List (List Cell)) →
    cut_lines rest ≡ lines ++ after → length lines + k ≡ count → AreRowLines lines others →
    cells ++ flat_map (padded cols) others ≡ flat_map (padded cols) rows → cols_of others ≤ cols →
    k < count → rest ≡ raw ∷ next → n ≡ suc k →
    ((made : List (List Cell)) → IsRowLine (cut_line raw) made → cols_of made ≤ cols → fresh ≡ cells ++ flat_map (padded cols) made) →
    Filling cols count n next fresh rows
fill-line cols count k n rest next cells fresh rows raw [] after others whole count_is are made wide less e f pushed = absurd (omega arith)
fill-line cols count k n rest next cells fresh rows raw (line ∷ lines) after others whole count_is are made wide less e f pushed =
    let t = take-line cols line lines others are.by_line are.each are.all wide in
    let front = sym (ap cut_lines e) ∙ whole in
    let same : cut_line raw ≡ line = cc in
    let tail : cut_lines next ≡ lines ++ after = cc in
    let new = pushed t.first (subst (λ l. IsRowLine l t.first) (sym same) t.is) t.wide.0 in
    record {
      lines = lines;
      after = after;
      others = t.left;
      whole = tail;
      count_is = omega arith;
      rows_are = t.rest;
      made = ap (λ c. c ++ flat_map (padded cols) t.left) new ∙ append_assoc cells (flat_map (padded cols) t.first) (flat_map (padded cols) t.left)
          ∙ ap (λ c. cells ++ c) (sym (flat_map-append (padded cols) t.first t.left) ∙ ap (flat_map (padded cols)) (sym t.all)) ∙ made;
      wide = t.wide.1;
    }

pub Filling-more : {cols count k n : ℕ} {rest next : List (List ℕ)} {cells fresh : List Cell} {rows : List (List Cell)} (raw : List ℕ) →
    Filling cols count k rest cells rows →
    k < count → rest ≡ raw ∷ next → n ≡ suc k →
    ((made : List (List Cell)) → IsRowLine (cut_line raw) made → cols_of made ≤ cols → fresh ≡ cells ++ flat_map (padded cols) made) →
    Filling cols count n next fresh rows
Filling-more {cols} {count} {k} {n} {rest} {next} {cells} {fresh} {rows} raw is less e f pushed =
    fill-line cols count k n rest next cells fresh rows raw is.lines is.after is.others is.whole is.count_is is.rows_are is.made is.wide less e f pushed

no-rows : (others : List (List Cell)) (by_line : List (List (List Cell))) (lines : List (List ℕ)) → length lines ≡ 0 → AllZip IsRowLine lines by_line →
    others ≡ flat_map (λ r. r) by_line → others ≡ []
no-rows others [] [] e each all = all
no-rows others (r ∷ rs) [] e each all = absurd each
no-rows others by_line (l ∷ ls) e each all = absurd (omega arith)

pub Filling-all : {cols count k : ℕ} {rest : List (List ℕ)} {cells : List Cell} {rows : List (List Cell)} → Filling cols count k rest cells rows → count ≤ k →
    cells ≡ flat_map (padded cols) rows
Filling-all {cols} {count} {k} {rest} {cells} {rows} is e =
    let n = is.count_is in
    let none = no-rows is.others is.rows_are.by_line is.lines (omega arith) is.rows_are.each is.rows_are.all in
    sym (append-nil cells) ∙ ap (λ o. cells ++ flat_map (padded cols) o) (sym none) ∙ is.made

-- there is a next line as long as not all lines are done
pub Filling-some : {cols count k : ℕ} {rest : List (List ℕ)} {cells : List Cell} {rows : List (List Cell)} → Filling cols count k rest cells rows → k < count →
    rest ≡ [] → ⊥
Filling-some {cols} {count} {k} {rest} {cells} {rows} is less e =
    let n = is.count_is in let l = ap length (sym (ap cut_lines e) ∙ is.whole) in omega (arith, length-append is.lines is.after)
