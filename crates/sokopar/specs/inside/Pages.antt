-- How `explain` goes from level to level.
use Rattle.std.specs.Prelude.{◌≡◌, ℕ, suc, ◌+◌, ◌++◌, Bool, true, cond, ◌&&◌, List, drop, Option, Some, None}
use Rattle.grid.specs.Board.{Board}
use Rattle.grid.specs.declared.fault.LevelFault.{LevelFault}
use Rattle.xsb.specs.Collection.{Found, IsJudged}
use Rattle.xsb.specs.declared.breaks.BrokenRow.{BrokenRow}
use Rattle.xsb.specs.declared.breaks.BrokenRows.{BrokenRows}
use Rattle.xsb.specs.declared.places.BoardSource.{BoardSource}
use Rattle.xsb.specs.declared.places.RowPlace.{RowPlace}
use Rattle.xsb.specs.inside.Breaking.{rows_left}
use Rattle.xsb.specs.inside.Sources.{HasRowsFor}
use Rattle.sokopar.specs.Explaining.{AlsoTold, AreFaults, Explains, IsPicture, is_drawn, is_sound, is_unsolvable, level_text}
use Rattle.sokopar.specs.Listing.{Listed}
use Rattle.sokopar.specs.declared.explain.Broken.{Broken}
use Rattle.sokopar.specs.declared.explain.Page.{Page}
use Rattle.sokopar.specs.declared.remark.Remark.{Remark}
use Rattle.sokopar.specs.inside.Explaining.{HaveBroken}

-- the levels so far are explained, and the broken rows that are left are known
pub record IsPage (bytes : List ℕ) (wanted : Option ℕ) (listing : List Listed) (page : Page) (gaps : Broken) : Type 0 where
  pub text : Explains bytes wanted listing page.text page.sound page.lost
  pub broken : HaveBroken bytes gaps.rows gaps.first

-- text is added to a page, something is found or not, and the level is found unsolvable or not
abbrev pub Adds : List ℕ → Bool → Bool → Page → Page → Type 0
Adds more sound is_lost old new = (new.text ≡ old.text ++ more) × (new.sound ≡ (old.sound && sound)) ×
    (new.lost ≡ cond is_lost (old.lost + 1) old.lost)

-- a level is written about, with its further faults, and with its picture if it is drawn
pub record Tells (wanted : Option ℕ) (n : ℕ) (listed : Listed) (board : Board) (places : List RowPlace) (remark : Remark)
    (old new : Page) : Type 0 where
  pub out : Bool
  pub faults : List LevelFault
  pub besides : List ℕ
  pub picture : List ℕ
  pub are : AreFaults board out faults
  pub told : AlsoTold board places (drop 1 faults) besides
  pub shown : is_drawn out wanted ≡ true → IsPicture listed.board board.cells picture
  pub adds : Adds (level_text wanted n listed board places remark besides out picture) (is_sound remark)
      (is_unsolvable remark) old new

-- the board of the source, and its rows
abbrev pub IsSourceOf : BoardSource → Found → Type 0
IsSourceOf source found = IsJudged found.board source.entry.board ×
    ((lines : List (List ℕ)) × (first : ℕ) × HasRowsFor lines first found.board source.rows)

-- no more broken rows come
abbrev pub broken_left : Option BrokenRow → BrokenRows → ℕ
broken_left None rows = 0
broken_left (Some row) rows = suc (rows_left rows)

abbrev pub rows_left_in : Broken → ℕ
rows_left_in broken = broken_left broken.first broken.rows
