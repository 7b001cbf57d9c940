-- Up to which line the rows of a board are within the limits.
use Rattle.std.proofs.Common.{◌≡◌, ℕ, ◌+◌, ◌<◌, ◌≤◌, nat_lt, Bool, true, false, List, [], ◌∷◌, ◌++◌, length, Option, Some, None, refl, sym, ap, ◌∙◌, arith}
use Rattle.std.proofs.Common.{append_assoc, length-append, subst}
use Rattle.std.proofs.lemmas.Bool.Decides.{nat_tests}
use Rattle.grid.specs.declared.cell.Cell.{Cell}
use Rattle.grid.specs.declared.limits.TheConstants.{MAX_ROWS, MAX_COLS}
use Rattle.xsb.specs.Boards.{cols_of}
use Rattle.xsb.specs.Rows.{IsRowLine}
use Rattle.xsb.specs.declared.boards.Beyond.{Beyond}
use Rattle.xsb.specs.declared.sizes.Size.{Size}
use Rattle.xsb.specs.inside.Reading.{IsSize}
use Rattle.xsb.proofs.RowLines.{cols_of-append}
use Rattle.xsb.specs.inside.Stretches.{ArePast, AreRowLines, IsPastAt, beyond_with, first_of}

-- one line more
past-more : (count : List (List Cell) → ℕ) (most : ℕ) (lines : List (List ℕ)) (rows : List (List Cell)) (first n : ℕ) (found : Option ℕ) (line : List ℕ)
    (more : List (List Cell)) (t : Bool) → AreRowLines lines rows → IsRowLine line more → n ≡ first + length lines →
    count rows ≤ count (rows ++ more) → (t ≡ true → most < count (rows ++ more)) → (t ≡ false → count (rows ++ more) ≤ most) →
    IsPastAt count most lines rows first found → IsPastAt count most (lines ++ line ∷ []) (rows ++ more) first (first_of found t n)
past-more count most lines rows first n (Some k) line more t are row place grows many few past =
    let is = past.0 in (
      record {
        before = is.before;
        line = is.line;
        after = is.after ++ line ∷ [];
        whole = ap (λ l. l ++ line ∷ []) is.whole ∙ append_assoc is.before (is.line ∷ is.after) (line ∷ []);
        number = is.number;
        rows = is.rows;
        each = is.each;
        few = is.few;
        more = is.more;
        next = is.next;
        many = is.many;
      },
      let over = past.1 in omega (arith, over, grows),
    )
past-more count most lines rows first n None line more true are row place grows many few past = (
  record {
    before = lines;
    line = line;
    after = [];
    whole = refl;
    number = place;
    rows = are.by_line;
    each = are.each;
    few = subst (λ r. count r ≤ most) are.all past;
    more = more;
    next = row;
    many = subst (λ r. most < count (r ++ more)) are.all (many refl);
  },
  many refl,
)
past-more count most lines rows first n None line more false are row place grows many few past = few refl

-- what a test of a size says of the rows
tall-yes : (size : Size) (rows : List (List Cell)) → IsSize size rows → nat_lt MAX_ROWS size.rows ≡ true → MAX_ROWS < length rows
tall-yes size rows sized t = let n = sized.row_count in let over : MAX_ROWS < size.rows = grind (arith, nat_tests) in omega arith

tall-no : (size : Size) (rows : List (List Cell)) → IsSize size rows → nat_lt MAX_ROWS size.rows ≡ false → length rows ≤ MAX_ROWS
tall-no size rows sized t = let n = sized.row_count in let under : size.rows ≤ MAX_ROWS = grind (arith, nat_tests) in omega arith

wide-yes : (size : Size) (rows : List (List Cell)) → IsSize size rows → nat_lt MAX_COLS size.cols ≡ true → MAX_COLS < cols_of rows
wide-yes size rows sized t = let n = sized.col_count in let over : MAX_COLS < size.cols = grind (arith, nat_tests) in omega arith

wide-no : (size : Size) (rows : List (List Cell)) → IsSize size rows → nat_lt MAX_COLS size.cols ≡ false → cols_of rows ≤ MAX_COLS
wide-no size rows sized t = let n = sized.col_count in let under : size.cols ≤ MAX_COLS = grind (arith, nat_tests) in omega arith

-- one line more of a board
pub ArePast-more : (lines : List (List ℕ)) (rows : List (List Cell)) (first n : ℕ) (beyond fresh : Beyond) (size : Size) (line : List ℕ) (more : List (List Cell)) →
    AreRowLines lines rows → IsRowLine line more → n ≡ first + length lines → IsSize size (rows ++ more) → fresh ≡ beyond_with beyond size n →
    ArePast lines rows first beyond → ArePast (lines ++ line ∷ []) (rows ++ more) first fresh
ArePast-more lines rows first n beyond fresh size line more are row place sized same past =
    subst (λ (b : Beyond). ArePast (lines ++ line ∷ []) (rows ++ more) first b) (sym same) (record {
      tall = past-more length MAX_ROWS lines rows first n beyond.rows line more (nat_lt MAX_ROWS size.rows) are row place
          (let long = length-append rows more in omega (arith, long)) (tall-yes size (rows ++ more) sized) (tall-no size (rows ++ more) sized) past.tall;
      wide = past-more cols_of MAX_COLS lines rows first n beyond.cols line more (nat_lt MAX_COLS size.cols) are row place
          (let broad = cols_of-append rows more in omega (arith, broad)) (wide-yes size (rows ++ more) sized) (wide-no size (rows ++ more) sized) past.wide;
    })
