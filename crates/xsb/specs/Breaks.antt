-- Text lines that may be meant as rows, and why they are none.
use Rattle.std.specs.Prelude.{◌≡◌, ℕ, suc, ◌+◌, ◌-◌, ◌<◌, ◌≢◌, true, false, ◌==◌, ◌||◌, List, [], ◌∷◌, ◌++◌, length, take}
use Rattle.std.specs.Prelude.{Contains, encode_utf8}
use Rattle.std.specs.Char.{is_ascii_digit}
use Rattle.std.specs.List.{list_any, prefix_len}
use Rattle.counts.specs.Counts.{IsCount, decimal}
use Rattle.grid.specs.declared.cell.Cell.{Cell}
use Rattle.xsb.specs.declared.breaks.BrokenRow.{BrokenRow}
use Rattle.xsb.specs.declared.breaks.Cause.{Cause}
use Rattle.xsb.specs.declared.breaks.Cause.TheVariants.{Byte, Character, ZeroCount, LongCount, LooseCount}
use Rattle.xsb.specs.declared.breaks.Flaw.{Flaw}
use Rattle.xsb.specs.declared.breaks.Flaw.TheVariants.{Breaks, NoWall}
use Rattle.xsb.specs.Places.{IsLineOf}
use Rattle.xsb.specs.Rows.{IsItem, IsRowLine, IsTextLine}

-- the bytes are items and bars, one after the other
pub data AreItems : List ℕ → Type 0 where
  nothing : AreItems []
  bar : {bytes : List ℕ} → AreItems bytes → AreItems (bytes ++ 124 ∷ [])
  item : {bytes : List ℕ} (next : List ℕ) (cells : List Cell) → AreItems bytes → IsItem next cells → AreItems (bytes ++ next)

-- the digits that the bytes begin with
abbrev pub digits_of : List ℕ → List ℕ
digits_of bytes = take (prefix_len is_ascii_digit bytes) bytes

-- why no item begins the bytes: they begin with a byte that is no digit; or with a character of several bytes; or with a
-- count of 0; or with more than four digits; or with a count that no cell byte follows
abbrev pub IsCause : List ℕ → Cause → Type 0
IsCause bytes (Byte b) = (rest : List ℕ) × (bytes ≡ b ∷ rest) × (is_ascii_digit b ≡ false)
IsCause bytes (Character c) = (rest : List ℕ) × (bytes ≡ encode_utf8 c ++ rest) × (127 < c)
IsCause bytes ZeroCount = (0 < length (digits_of bytes)) × (decimal (digits_of bytes) ≡ 0)
IsCause bytes LongCount = 4 < length (digits_of bytes)
IsCause bytes LooseCount = IsCount (digits_of bytes)

-- at a byte of the line, counted from 1, for the first time neither an item nor a bar begins, for this cause
pub record BreaksAt (line : List ℕ) (place : ℕ) (cause : Cause) : Type 0 where
  pub before : List ℕ
  pub rest : List ℕ
  pub whole : line ≡ before ++ rest
  pub items : AreItems before
  pub at_byte : place ≡ suc (length before)
  pub no_item : (item after : List ℕ) (cells : List Cell) → IsItem item cells → rest ≡ item ++ after → ⊥
  pub no_bar : (after : List ℕ) → rest ≢ 124 ∷ after
  pub why : IsCause rest cause

-- line n of the bytes is a row line
abbrev pub IsRowAt : List ℕ → ℕ → Type 0
IsRowAt bytes n = (line : List ℕ) × IsLineOf bytes n line × (rows : List (List Cell)) × IsRowLine line rows

-- why the line is no row line: it has a wall, and at a byte neither an item nor a bar begins; or it has items and bars
-- alone, the player, a box or a goal among them, and no wall
abbrev pub HasFlaw : List ℕ → Flaw → Type 0
HasFlaw line (Breaks byte cause) = Contains line 35 × BreaksAt line byte cause
HasFlaw line NoWall = AreItems line × ¬ (Contains line 35) ×
    (list_any (λ b. (b == 64) || (b == 43) || (b == 36) || (b == 42) || (b == 46)) line ≡ true)

-- a line of the bytes that is no row line, and why; it parts two boards if the lines before and after it are row lines
pub record IsBroken (bytes : List ℕ) (row : BrokenRow) : Type 0 where
  pub text : List ℕ
  pub is_line : IsLineOf bytes row.line text
  pub is_text : IsTextLine text
  pub flaw : HasFlaw text row.flaw
  pub parts : row.parts ≡ true → IsRowAt bytes (row.line - 1) × IsRowAt bytes (row.line + 1)
