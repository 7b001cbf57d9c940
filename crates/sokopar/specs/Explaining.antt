-- What explaining the levels of a collection writes: where and why each is faulty or cannot be solved.
use Rattle.std.specs.Prelude.{◌≡◌, ◌≢◌, ℕ, zero, suc, ◌+◌, ◌-◌, ◌/◌, ◌%◌, ◌<◌, Bool, true, false, cond, ◌&&◌, ◌||◌, ◌==◌, nat_lt}
use Rattle.std.specs.Prelude.{encode_utf8}
use Rattle.std.specs.Fmt.{digit_glyph}
use Rattle.std.specs.Prelude.{List, [], ◌∷◌, ◌++◌, length, take, drop, map, flat_map, get_or, slice_get, slice_index, slice_index_or, codes, decimal}
use Rattle.std.specs.Prelude.{Option, Some, None, is_some, is_none, Result, Ok, Err, IsTrue, ◌↔◌}
use Rattle.grid.specs.declared.cell.Cell.{Cell}
use Rattle.grid.specs.declared.cell.Cell.TheVariants.{Wall, Floor, Box}
use Rattle.grid.specs.declared.dir.Dir.{Dir}
use Rattle.grid.specs.declared.fault.LevelFault.{LevelFault}
use Rattle.grid.specs.declared.fault.LevelFault.TheVariants.{NoPlayer, TwoPlayers, NoBox, Counts, Open}
use Rattle.grid.specs.declared.limits.TheConstants.{MAX_ROWS, MAX_COLS}
use Rattle.grid.specs.Board.{Board, IsSolved, Pushes, Scene, Walks, box_cell, goal_cell, is_goal, player_cell, next, start}
use Rattle.grid.specs.Lawful.{InRoom, IsOpen, box_count, goal_count, player_count, row_count}
use Rattle.grid.specs.Squares.{Squares, contains, places_from}
use Rattle.doom.specs.Deadlocks.{IsDead, IsFrozen, Undoomed}
use Rattle.xsb.specs.Breaks.{IsBroken}
use Rattle.xsb.specs.Collection.{IsJudged}
use Rattle.xsb.specs.Foreign.{looks_foreign}
use Rattle.xsb.specs.Places.{IsBoardAt, IsExcess, IsLineOf, excess_fault}
use Rattle.xsb.specs.Rows.{cell_byte}
use Rattle.xsb.specs.Written.{rows_from}
use Rattle.xsb.specs.declared.breaks.BrokenRow.{BrokenRow}
use Rattle.xsb.specs.declared.breaks.Cause.{Cause}
use Rattle.xsb.specs.declared.breaks.Cause.TheVariants.{Byte, Character, ZeroCount, LongCount, LooseCount}
use Rattle.xsb.specs.declared.breaks.Flaw.{Flaw}
use Rattle.xsb.specs.declared.breaks.Flaw.TheVariants.{Breaks, NoWall}
use Rattle.xsb.specs.declared.places.Excess.{Excess}
use Rattle.xsb.specs.declared.places.Excess.TheVariants.{Rows, Columns}
use Rattle.xsb.specs.declared.places.RowPlace.{RowPlace}
use Rattle.sokopar.specs.Judging.{IsUnsolvable}
use Rattle.sokopar.specs.DeadMap.{IsMark, marked_row}
use Rattle.sokopar.specs.Listing.{Listed, IsLevelListing}
use Rattle.sokopar.specs.Report.{Report, check_line, fault_words, good_count, line, no_level}
use Rattle.sokopar.specs.declared.remark.Plight.{Plight}
use Rattle.sokopar.specs.declared.remark.Plight.TheVariants.{Unreached, Unfilled, OnDead}
use Rattle.sokopar.specs.declared.remark.Remark.{Remark}
use Rattle.sokopar.specs.declared.remark.Remark.TheVariants.{Players, Unequal, Exit, Solved, Lost, Frozen, Stuck, Unmatched, Sound}
use Rattle.sokopar.specs.declared.sentences.TheConstants.{MOST_PLACES}

-- a line and a column of the file, which counts the bytes of a plain line; else that of a row of the board, spelled out
abbrev pub place_words : ℕ → ℕ → Option RowPlace → List ℕ
place_words row column None = []
place_words row column (Some place) =
    codes "line " ++ decimal place.line ++ codes ", column " ++ decimal column ++
    cond place.plain [] (codes " of row " ++ decimal row)

-- a sentence is indented
unfoldable pub sentence : List ℕ → List ℕ
sentence words = line (codes "  " ++ words)

-- where a square of a board with these columns is, given the places of the rows; rows count from 1
unfoldable pub sentence_at : List ℕ → ℕ → List RowPlace → ℕ → List ℕ
sentence_at words cols places q = line
    (codes "  " ++ words ++ codes " at " ++ place_words (q / cols + 1) (q % cols + 1) (slice_get places (q / cols)))

-- how many more squares there are than were listed
abbrev pub more_words : ℕ → List ℕ
more_words zero = []
more_words (suc n) = line (codes "  and " ++ decimal (suc n) ++ codes " more")

-- a sentence for each of the squares, up to the most that are listed
unfoldable pub sentences : List ℕ → ℕ → List RowPlace → Squares → List ℕ
sentences words cols places squares =
    flat_map (sentence_at words cols places) (take MOST_PLACES squares) ++ more_words (length squares - MOST_PLACES)

-- where a board is too large
abbrev pub excess_words : Excess → List ℕ
excess_words (Rows line) = sentence (codes "row " ++ decimal (MAX_ROWS + 1) ++ codes " is at line " ++ decimal line)
excess_words (Columns line) = sentence
    (codes "line " ++ decimal line ++ codes " has a row with more than " ++ decimal MAX_COLS ++ codes " columns")

-- the sentences of a remark
abbrev pub remark_words : ℕ → List RowPlace → Remark → List ℕ
remark_words cols places (Players squares) = sentences (codes "a player is") cols places squares.items ++
    cond (nat_lt 1 (length squares.items)) (sentence (codes "if these are two levels, put an empty line between them")) []
remark_words cols places (Unequal boxes goals) =
    sentences (codes "a box is") cols places boxes.items ++ sentences (codes "a goal is") cols places goals.items
remark_words cols places (Exit q) = sentence_at (codes "the player gets out") cols places q
remark_words cols places Solved = sentence (codes "solved already")
remark_words cols places (Lost Unreached squares) =
    sentences (codes "unsolvable: the player never gets to the box") cols places squares.items
remark_words cols places (Lost Unfilled squares) =
    sentences (codes "unsolvable: no box gets to the goal") cols places squares.items
remark_words cols places (Lost OnDead squares) =
    sentences (codes "unsolvable: a box is on a dead square") cols places squares.items
remark_words cols places (Frozen squares) =
    sentence (codes "unsolvable: some of these boxes are frozen, not all of them on goals") ++
    sentences (codes "a box is") cols places squares.items
remark_words cols places Stuck = sentence (codes "unsolvable: the player cannot move")
remark_words cols places Unmatched =
    sentence (codes "unsolvable: some boxes together get to fewer goals than they are")
remark_words cols places Sound =
    sentence (codes "nothing found; sokopar best FILE N decides whether it can be solved")

-- steps over squares that are no wall lead the player to the square, and the grid ends beside it
abbrev pub IsExit : Board → ℕ → Type 0
IsExit board q = InRoom board q × ((d : Dir) × (next board q d ≡ length board.cells))

-- the box or the goal on the square is in this plight: outside of the player's room a box off goal is never moved, and no
-- box is brought to a goal; from a dead square no box gets to a goal
abbrev pub IsIn : Board → Plight → ℕ → Type 0
IsIn board Unreached q = ¬ (InRoom board q) × (is_goal board q ≡ false)
IsIn board Unfilled q = ¬ (InRoom board q) × (box_cell (slice_index_or board.cells q Wall) ≡ false)
IsIn board OnDead q = IsDead board q

-- the squares of the goals, or of the boxes at the start, which may be in this plight
abbrev pub endangered : Board → Plight → Squares
endangered board Unfilled = places_from goal_cell 0 board.cells
endangered board plight = places_from box_cell 0 board.cells

-- the squares of a list that are in this plight are these, in order
pub data AreIn (board : Board) (plight : Plight) : Squares → Squares → Type 0 where
  empty : AreIn board plight [] []
  also : {q : ℕ} {all squares : Squares} → IsIn board plight q → AreIn board plight all squares →
      AreIn board plight (q ∷ all) (q ∷ squares)
  others : {q : ℕ} {all squares : Squares} → ¬ (IsIn board plight q) → AreIn board plight all squares →
      AreIn board plight (q ∷ all) squares

-- the remark on a lawful level: it is solved; or boxes or goals are in a plight, all of them that are; or some boxes are
-- frozen, and none is on a dead square; or no step is possible; or no play solves it; or nothing of this is found
abbrev pub IsRemarkOnLevel : Board → Remark → Type 0
IsRemarkOnLevel board Solved = IsSolved board (start board)
IsRemarkOnLevel board (Lost plight squares) =
    IsUnsolvable board × AreIn board plight (endangered board plight) squares.items × (squares.items ≢ [])
IsRemarkOnLevel board (Frozen squares) = IsUnsolvable board × AreIn board OnDead (endangered board OnDead) [] ×
    ((q : ℕ) → contains squares.items q ≡ true → contains (start board).boxes q ≡ true) ×
    ((members : Squares) × IsFrozen board squares.items members)
IsRemarkOnLevel board Stuck = IsUnsolvable board ×
    ((d : Dir) (t : Scene) → ¬ (Walks board (start board) d t) × ¬ (Pushes board (start board) d t))
IsRemarkOnLevel board Unmatched = IsUnsolvable board
IsRemarkOnLevel board Sound =
    Undoomed board (start board) × ((plight : Plight) → AreIn board plight (endangered board plight) [])
IsRemarkOnLevel board remark = ⊥

-- the remark on a board with a fault: all players, if there is none or several; all boxes and goals, if there is no box or
-- the numbers differ; a square where the player gets out, if the board is open. A board that is too large gets none
abbrev pub IsRemarkOnFault : LevelFault → Board → Remark → Type 0
IsRemarkOnFault NoPlayer board (Players squares) = squares.items ≡ places_from player_cell 0 board.cells
IsRemarkOnFault TwoPlayers board (Players squares) = squares.items ≡ places_from player_cell 0 board.cells
IsRemarkOnFault NoBox board (Unequal boxes goals) =
    (boxes.items ≡ places_from box_cell 0 board.cells) × (goals.items ≡ places_from goal_cell 0 board.cells)
IsRemarkOnFault (Counts box_number goal_number) board (Unequal boxes goals) =
    (boxes.items ≡ places_from box_cell 0 board.cells) × (goals.items ≡ places_from goal_cell 0 board.cells)
IsRemarkOnFault Open board (Exit q) = IsExit board q
IsRemarkOnFault fault board remark = ⊥

-- the faults of a board that is none too large, in the order of `LevelFault`: of its players, of its boxes and goals, and
-- that the player, of several the first, gets out
abbrev pub AreFaults : Board → Bool → List LevelFault → Type 0
AreFaults board out faults = (IsTrue out ↔ ((player_count board ≢ 0) × IsOpen board)) × (faults ≡
    cond (player_count board == 0) (NoPlayer ∷ []) (cond (nat_lt 1 (player_count board)) (TwoPlayers ∷ []) []) ++
    cond (box_count board == 0) (NoBox ∷ [])
    (cond (box_count board == goal_count board) [] (Counts (box_count board) (goal_count board) ∷ [])) ++
    cond out (Open ∷ []) [])

-- the text on some faults of a board: a line for each, and the sentences of its remark
pub data AlsoTold (board : Board) (places : List RowPlace) : List LevelFault → List ℕ → Type 0 where
  nothing : AlsoTold board places [] []
  further : {faults : List LevelFault} {text : List ℕ} (fault : LevelFault) (remark : Remark) →
      IsRemarkOnFault fault board remark → AlsoTold board places faults text → AlsoTold board places (fault ∷ faults)
      (line (codes "also " ++ fault_words fault) ++ remark_words board.cols places remark ++ text)

-- the remark on a board, as the board is judged
abbrev pub IsRemarkOn : Result Board LevelFault → Board → Remark → Type 0
IsRemarkOn (Ok level) board remark = IsRemarkOnLevel board remark
IsRemarkOn (Err fault) board remark = IsRemarkOnFault fault board remark

-- nothing was found
abbrev pub is_sound : Remark → Bool
is_sound Sound = true
is_sound remark = false

-- no play solves the level
abbrev pub is_unsolvable : Remark → Bool
is_unsolvable (Lost plight squares) = true
is_unsolvable (Frozen squares) = true
is_unsolvable Stuck = true
is_unsolvable Unmatched = true
is_unsolvable remark = false

-- nothing was found, and no level is wanted by its number
abbrev pub is_quiet : Remark → Option ℕ → Bool
is_quiet remark wanted = is_sound remark && is_none wanted

-- the board is shown: the player gets out, or the level is wanted by its number
abbrev pub is_drawn : Bool → Option ℕ → Bool
is_drawn out wanted = out || is_some wanted

-- the byte that shows a cell of a level: floor has the mark of its square by `dead`, a box on a dead square is `!`, all
-- others are as they were read
abbrev pub shown_byte : Cell → ℕ → Bool → ℕ
shown_byte Floor mark dead = mark
shown_byte Box mark dead = cond dead 33 36
shown_byte cell mark dead = cell_byte cell

-- the byte shows the cell on square q of a level
abbrev pub IsShown : Board → ℕ → Cell → ℕ → Type 0
IsShown board q cell b = (mark : ℕ) × IsMark board q mark × (dead : Bool) × (IsTrue dead ↔ IsDead board q) ×
    (b ≡ shown_byte cell mark dead)

-- the bytes show the cells of a level, in order
pub record AreShown (board : Board) (bytes : List ℕ) : Type 0 where
  pub count : length bytes ≡ length board.cells
  pub each : (q : ℕ) → q < length board.cells → IsShown board q (get_or board.cells q Wall) (slice_index bytes q)

-- the bytes of the cells of a board: they show those of a level; those of a faulty board are as they were read
abbrev pub IsPicture : Result Board LevelFault → List Cell → List ℕ → Type 0
IsPicture (Ok board) cells bytes = AreShown board bytes
IsPicture (Err fault) cells bytes = bytes ≡ map cell_byte cells

-- the rows that the bytes of a board's cells make
abbrev pub drawn : Board → List ℕ → List ℕ
drawn board bytes = flat_map marked_row (rows_from (row_count board) board.cols bytes)

-- what is written of level n: `check`'s line, the remark, the text on further faults, and the board, given the bytes of
-- its cells
abbrev pub level_text : Option ℕ → ℕ → Listed → Board → List RowPlace → Remark → List ℕ → Bool → List ℕ → List ℕ
level_text wanted n listed board places remark besides out picture = cond (is_quiet remark wanted) [] (check_line n listed ++
    remark_words board.cols places remark ++ besides ++ cond (is_drawn out wanted) (drawn board picture) [])

-- a byte in words
abbrev pub byte_words : ℕ → List ℕ
byte_words b = cond (b == 9) (codes "a tab")
    (cond (nat_lt 32 b && nat_lt b 127) (codes "'" ++ b ∷ [] ++ codes "'") (codes "value " ++ decimal b))

-- a character beyond ASCII in words: itself and its code, in four to six hexadecimal digits
abbrev pub character_words : ℕ → List ℕ
character_words c = cond (c == 0xA0) (codes "a no-break space") (codes "'" ++ encode_utf8 c ++ codes "' (U+" ++
    (cond (nat_lt 0xFFFFF c) (digit_glyph true (c / 0x100000 % 16) ∷ []) [] ++
    cond (nat_lt 0xFFFF c) (digit_glyph true (c / 0x10000 % 16) ∷ []) [] ++
    digit_glyph true (c / 0x1000 % 16) ∷ digit_glyph true (c / 0x100 % 16) ∷ digit_glyph true (c / 0x10 % 16) ∷
    digit_glyph true (c % 16) ∷ []) ++ codes ")")

-- why no item begins at a byte
abbrev pub cause_words : Cause → List ℕ
cause_words (Byte b) = codes ", " ++ byte_words b ++ codes ", is no cell"
cause_words (Character c) = codes ", " ++ character_words c ++ codes ", is no cell"
cause_words ZeroCount = codes " begins a count of 0"
cause_words LongCount = codes " begins a count of too many digits"
cause_words LooseCount = codes " begins a count that no cell follows"

-- why a line is no row line
abbrev pub flaw_words : Flaw → List ℕ
flaw_words (Breaks byte cause) = codes " has a wall and is no row: column " ++ decimal byte ++ cause_words cause
flaw_words NoWall = codes " has cells and no wall"

-- the line of a row that is broken, and whether it parts two boards
unfoldable pub broken_line : BrokenRow → List ℕ
broken_line row = line (codes "line " ++ decimal row.line ++ flaw_words row.flaw ++ cond row.parts
    (codes "; it cuts a level in two: remove it, or put an empty line before the next level") [])

-- level n is wanted: all levels are, or one by its number
abbrev pub is_wanted : Option ℕ → ℕ → Bool
is_wanted None n = true
is_wanted (Some wanted) n = wanted == n

-- what is written of the first levels of these bytes, whether nothing was found, and how many are found unsolvable: lines of
-- broken rows, the texts of the wanted levels, and, only if there is no level at all, a line of other characters
pub data Explains (bytes : List ℕ) (wanted : Option ℕ) : List Listed → List ℕ → Bool → ℕ → Type 0 where
  none : Explains bytes wanted [] [] true 0
  broken : {listing : List Listed} {text : List ℕ} {sound : Bool} {lost : ℕ} (row : BrokenRow) →
      Explains bytes wanted listing text sound lost → IsBroken bytes row →
      Explains bytes wanted listing (text ++ broken_line row) false lost
  foreign : {text : List ℕ} {sound : Bool} {lost : ℕ} (n : ℕ) (row : List ℕ) →
      Explains bytes wanted [] text sound lost → IsLevelListing bytes [] → IsLineOf bytes n row →
      looks_foreign row ≡ true → Explains bytes wanted []
      (text ++ line (codes "line " ++ decimal n ++ codes " looks like a board of other characters")) false lost
  other : {listing : List Listed} {text : List ℕ} {sound : Bool} {lost : ℕ} (listed : Listed) →
      Explains bytes wanted listing text sound lost → is_wanted wanted (suc (length listing)) ≡ false →
      Explains bytes wanted (listing ++ listed ∷ []) text sound lost
  large : {listing : List Listed} {text : List ℕ} {sound : Bool} {lost : ℕ} (listed : Listed) (board : Board)
      (places : List RowPlace) (excess : Excess) →
      Explains bytes wanted listing text sound lost → is_wanted wanted (suc (length listing)) ≡ true →
      (here : IsBoardAt bytes listed.first_line board places) → IsJudged board listed.board →
      listed.board ≡ Err (excess_fault excess) → IsExcess here.lines listed.first_line excess →
      Explains bytes wanted (listing ++ listed ∷ [])
      (text ++ check_line (suc (length listing)) listed ++ excess_words excess) false lost
  told : {listing : List Listed} {text : List ℕ} {sound : Bool} {lost : ℕ} (listed : Listed) (board : Board)
      (places : List RowPlace) (remark : Remark) (out : Bool) (faults : List LevelFault) (besides picture : List ℕ) →
      Explains bytes wanted listing text sound lost → is_wanted wanted (suc (length listing)) ≡ true →
      IsBoardAt bytes listed.first_line board places → IsJudged board listed.board →
      IsRemarkOn listed.board board remark → AreFaults board out faults → AlsoTold board places (drop 1 faults) besides →
      (is_drawn out wanted ≡ true → IsPicture listed.board board.cells picture) →
      Explains bytes wanted (listing ++ listed ∷ [])
      (text ++ level_text wanted (suc (length listing)) listed board places remark besides out picture)
      (sound && is_sound remark) (cond (is_unsolvable remark) (lost + 1) lost)

-- the report: of all levels with `check`'s totals and how many are found unsolvable; or of the wanted one, if there is such
-- a level; good if nothing was found
abbrev pub explained : Option ℕ → List Listed → List ℕ → Bool → ℕ → Report
explained None listing text sound lost = record {
  text = text ++ line (decimal (length listing) ++ codes " levels, " ++ decimal (good_count listing) ++ codes " good" ++
      cond (lost == 0) [] (codes ", " ++ decimal lost ++ codes " of them unsolvable"));
  status = cond sound 0 1;
}
explained (Some n) listing text sound lost =
    cond (nat_lt (length listing) n) (no_level n) (record { text = text; status = cond sound 0 1 })

-- the report of explaining the levels of these bytes, or the wanted one
abbrev pub IsExplainReport : Option ℕ → List ℕ → Report → Type 0
IsExplainReport wanted bytes report =
    (listing : List Listed) × IsLevelListing bytes listing × (text : List ℕ) × (sound : Bool) × (lost : ℕ) ×
    Explains bytes wanted listing text sound lost × (report ≡ explained wanted listing text sound lost)
