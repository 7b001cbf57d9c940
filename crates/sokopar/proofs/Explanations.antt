-- A collection, as its levels are explained one by one.
use Rattle.std.proofs.Common.{◌≡◌, ℕ, suc, ◌+◌, ◌<◌, ◌≤◌, Bool, true, false, cond, ◌&&◌, List, [], ◌∷◌, ◌++◌, length, Option, Some, None, Result, refl, sym, ap, ◌∙◌, subst}
use Rattle.std.proofs.Common.{Ok, Err, OnOk, inl, inr, IfOk, IfSome, drop, is_none, is_some, append_assoc, append-nil}
use Rattle.std.proofs.Common.{arith}
use Rattle.std.proofs.lemmas.Bool.{false≢true}
use Rattle.grid.specs.Board.{Board}
use Rattle.grid.specs.declared.fault.LevelFault.{LevelFault}
use Rattle.grid.specs.Lawful.{IsLevel, cell_fault}
use Rattle.xsb.specs.Collection.{Found, IsJudged}
use Rattle.xsb.specs.Entries.{IsBoardEntry}
use Rattle.xsb.specs.declared.entry.BoardEntry.{BoardEntry}
use Rattle.xsb.specs.Breaks.{IsBroken}
use Rattle.xsb.specs.Foreign.{looks_foreign}
use Rattle.xsb.specs.Places.{IsBoardAt, IsExcess, IsLineOf, excess_fault}
use Rattle.xsb.specs.declared.breaks.BrokenRow.{BrokenRow}
use Rattle.xsb.specs.declared.limits.TheConstants.{MAX_FILE}
use Rattle.xsb.specs.declared.places.BoardRows.{BoardRows}
use Rattle.xsb.specs.declared.places.BoardSource.{BoardSource}
use Rattle.xsb.specs.declared.places.Excess.{Excess}
use Rattle.xsb.specs.declared.places.RowPlace.{RowPlace}
use Rattle.xsb.specs.declared.reader.Collection.{Collection}
use Rattle.xsb.specs.inside.Cursors.{IsAt}
use Rattle.xsb.specs.inside.Progress.{HasRead, lines_left}
use Rattle.xsb.specs.inside.Sources.{AreRowsOf, GivesSource, HasRowsFor}
use Rattle.sokopar.specs.Entries.{listed_of}
use Rattle.sokopar.specs.Explaining.{AreFaults, Explains, IsExplainReport, explained, IsPicture, IsRemarkOn, broken_line, drawn, is_drawn, is_quiet, is_sound, is_unsolvable, is_wanted}
use Rattle.sokopar.specs.Explaining.{excess_words, level_text, nothing, remark_words, broken, foreign, large, other, told}
use Rattle.sokopar.specs.Listing.{Listed, IsLevelListing}
use Rattle.sokopar.specs.Report.{Report, check_line}
use Rattle.sokopar.specs.declared.explain.Broken.{Broken}
use Rattle.sokopar.specs.declared.explain.Page.{Page}
use Rattle.sokopar.specs.declared.remark.Remark.{Remark}
use Rattle.sokopar.specs.inside.Explaining.{AddsFaults, HaveBroken, IsWayOut, board_in, foreign_line}
use Rattle.sokopar.specs.inside.Pages.{IsPage, IsSourceOf, Tells}
use Rattle.sokopar.specs.inside.Parts.{is_good}
use Rattle.sokopar.proofs.Behind.{lawful_faults, quiet_is, quiet_undrawn}
use Rattle.sokopar.proofs.Listings.{HasChecked, checked-more, checked-none}

-- how far a collection was explained
pub record HasExplained (bytes : List ℕ) (wanted : Option ℕ) (left : Collection) (so_far : Page) (gaps : Broken) (levels good : ℕ) : Type 0 where
  pub lines : List ℕ
  pub checked : HasChecked bytes left lines levels good
  pub at_line : IsAt bytes left.lines
  pub page : IsPage bytes wanted checked.listing so_far gaps

pub explained-none : (bytes : List ℕ) (wanted : Option ℕ) (left : Collection) (page : Page) (gaps : Broken) → HasRead bytes left [] →
    lines_left left ≤ MAX_FILE → IsAt bytes left.lines → IsPage bytes wanted [] page gaps → HasExplained bytes wanted left page gaps 0 0
explained-none bytes wanted left page gaps read few at_line is = record {
  lines = [];
  checked = checked-none bytes left [] read refl few;
  at_line = at_line;
  page = is;
}

-- a level more
pub explained-more : {bytes : List ℕ} {wanted : Option ℕ} {first : Collection} {page : Page} {gaps : Broken} {levels good : ℕ}
    (last : Collection) (source : BoardSource) (new : Page) (left : Broken) (now : ℕ)
    (is : HasExplained bytes wanted first page gaps levels good) → GivesSource bytes is.checked.so_far.founds last (Some source) →
    lines_left last < lines_left first → now ≡ cond (is_good (listed_of source.entry)) (good + 1) good →
    IsPage bytes wanted (is.checked.listing ++ listed_of source.entry ∷ []) new left →
    HasExplained bytes wanted last new left (levels + 1) now
explained-more {bytes} {wanted} {first} {page} {gaps} {levels} {good} last source new left now is next fewer grown said = record {
  lines = is.lines ++ check_line (levels + 1) (listed_of source.entry);
  checked = checked-more last source.entry (is.lines ++ check_line (levels + 1) (listed_of source.entry)) now is.checked
      (next.0, next.1, next.2) fewer grown refl;
  at_line = next.3;
  page = said;
}

-- the listing of all levels
pub explained-all : {bytes : List ℕ} {wanted : Option ℕ} {first : Collection} {page : Page} {gaps : Broken} {levels good : ℕ}
    (last : Collection) (is : HasExplained bytes wanted first page gaps levels good) →
    GivesSource bytes is.checked.so_far.founds last None → IsLevelListing bytes is.checked.listing
explained-all last is all = (is.checked.so_far.founds, all, is.checked.so_far.each)

-- a broken row more
pub page-broken : {bytes : List ℕ} {wanted : Option ℕ} {listing : List Listed} {page : Page} {gap : Broken} (new : Page) (left : Broken) (row : BrokenRow) →
    IsPage bytes wanted listing page gap → gap.first ≡ Some row → HaveBroken bytes left.rows left.first →
    new ≡ record { text = page.text ++ broken_line row; sound = false; lost = page.lost } → IsPage bytes wanted listing new left
page-broken {bytes} {wanted} {listing} {page} {gap} new left row is first rest same =
    let true_of : IsBroken bytes row = subst (λ f. IfSome f (IsBroken bytes)) first is.broken.first in
    record {
      text = subst (λ (p : Page). Explains bytes wanted listing p.text p.sound p.lost) (sym same) (broken row is.text true_of);
      broken = rest;
    }

-- or it is passed over
pub page-passed : {bytes : List ℕ} {wanted : Option ℕ} {listing : List Listed} {page : Page} {gap : Broken} (new : Page) (left : Broken) →
    IsPage bytes wanted listing page gap → HaveBroken bytes left.rows left.first → new ≡ page → IsPage bytes wanted listing new left
page-passed {bytes} {wanted} {listing} {page} {gap} new left is rest same = record {
  text = subst (λ (p : Page). Explains bytes wanted listing p.text p.sound p.lost) (sym same) is.text;
  broken = rest;
}

-- a level is told
pub level-told : (bytes : List ℕ) (wanted : Option ℕ) (number : ℕ) (listing : List Listed) (listed : Listed) (board : Board)
    (places : List RowPlace) (remark : Remark) (old new : Page) → number ≡ suc (length listing) → is_wanted wanted number ≡ true →
    IsBoardAt bytes listed.first_line board places → IsJudged board listed.board → IsRemarkOn listed.board board remark →
    Tells wanted number listed board places remark old new →
    Explains bytes wanted listing old.text old.sound old.lost → Explains bytes wanted (listing ++ listed ∷ []) new.text new.sound new.lost
level-told bytes wanted number listing listed board places remark old new count is at_line judged remark_on tells before =
    let adds = tells.adds in
    subst (λ k. Explains bytes wanted (listing ++ listed ∷ []) new.text new.sound k) (sym adds.2)
    (subst (λ s. Explains bytes wanted (listing ++ listed ∷ []) new.text s (cond (is_unsolvable remark) (old.lost + 1) old.lost)) (sym adds.1)
    (subst (λ t. Explains bytes wanted (listing ++ listed ∷ []) t (old.sound && is_sound remark) (cond (is_unsolvable remark) (old.lost + 1) old.lost))
    (sym (adds.0 ∙ ap (λ n. old.text ++ level_text wanted n listed board places remark tells.besides tells.out tells.picture) count))
    (told listed board places remark tells.out tells.faults tells.besides tells.picture before (ap (is_wanted wanted) (sym count) ∙ is)
    at_line judged remark_on tells.are tells.told tells.shown)))

-- or it is another one
pub level-other : (bytes : List ℕ) (wanted : Option ℕ) (number : ℕ) (listing : List Listed) (listed : Listed) (page : Page) →
    number ≡ suc (length listing) → is_wanted wanted number ≡ false →
    Explains bytes wanted listing page.text page.sound page.lost → Explains bytes wanted (listing ++ listed ∷ []) page.text page.sound page.lost
level-other bytes wanted number listing listed page count is before = other listed before (ap (is_wanted wanted) (sym count) ∙ is)

-- texts one after the other
four_said : (old first second third fourth one two three new : List ℕ) → one ≡ old ++ first → two ≡ one ++ second → three ≡ two ++ third →
    new ≡ three ++ fourth → new ≡ old ++ (((first ++ second) ++ third) ++ fourth)
four_said old first second third fourth one two three new a b c d =
    let both : two ≡ old ++ (first ++ second) = b ∙ ap (λ t. t ++ second) a ∙ append_assoc old first second in
    let all : three ≡ old ++ ((first ++ second) ++ third) = c ∙ ap (λ t. t ++ third) both ∙ append_assoc old (first ++ second) third in
    d ∙ ap (λ t. t ++ fourth) all ∙ append_assoc old ((first ++ second) ++ third) fourth

quiet-sound : (sound so_far : Bool) (none : Bool) → (sound && none) ≡ true → so_far ≡ (so_far && sound)
quiet-sound true true none is = refl
quiet-sound true false none is = refl
quiet-sound false so_far none is = absurd (false≢true is)

-- a level of which nothing is written is not found unsolvable
quiet-lost : (remark : Remark) (wanted : Option ℕ) (lost : ℕ) → is_quiet remark wanted ≡ true → lost ≡ cond (is_unsolvable remark) (lost + 1) lost
quiet-lost remark wanted lost quiet = rw (quiet_is remark wanted quiet) refl

-- nothing is written of a level
pub tells-nothing : (wanted : Option ℕ) (n : ℕ) (listed : Listed) (board : Board) (places : List RowPlace) (remark : Remark) (exit : Option ℕ)
    (page : Page) → IsLevel board → IsWayOut board exit → is_quiet remark wanted ≡ true → Tells wanted n listed board places remark page page
tells-nothing wanted n listed board places remark exit page level way is =
    let more = check_line n listed ++ remark_words board.cols places remark ++ [] ++ cond (is_drawn (is_some exit) wanted) (drawn board []) [] in record {
      out = is_some exit;
      faults = [];
      besides = [];
      picture = [];
      are = lawful_faults board exit level way;
      told = nothing;
      shown = λ drawn. absurd (quiet_undrawn board exit (is_sound remark) wanted level way is drawn);
      adds = (
        sym (append-nil page.text) ∙ ap (λ (b : Bool). page.text ++ cond b [] more) (sym is),
        quiet-sound (is_sound remark) page.sound (is_none wanted) is,
        quiet-lost remark wanted page.lost is,
      );
    }

-- a level is written about
module _ (wanted : Option ℕ) (n : ℕ) (listed : Listed) (board : Board) (places : List RowPlace) (remark : Remark) (out : Bool) (old new : Page)
    (one two three : List ℕ) (loud : is_quiet remark wanted ≡ false) (head : one ≡ old.text ++ check_line n listed)
    (said : two ≡ one ++ remark_words board.cols places remark)
    (more : (faults : List LevelFault) × AreFaults board out faults × AddsFaults board places (drop 1 faults) two three)
    (found : new.sound ≡ (old.sound && is_sound remark)) (number : new.lost ≡ cond (is_unsolvable remark) (old.lost + 1) old.lost) where
  -- with its board or without it
  tells-text : (picture : List ℕ) → (is_drawn out wanted ≡ true → IsPicture listed.board board.cells picture) →
      new.text ≡ three ++ cond (is_drawn out wanted) (drawn board picture) [] → Tells wanted n listed board places remark old new
  tells-text picture is text =
      let besides = more.2.0 in
      let rows = cond (is_drawn out wanted) (drawn board picture) [] in
      let all = check_line n listed ++ remark_words board.cols places remark ++ besides ++ rows in record {
        out = out;
        faults = more.0;
        besides = besides;
        picture = picture;
        are = more.1;
        told = more.2.1;
        shown = is;
        adds = (
          four_said old.text (check_line n listed) (remark_words board.cols places remark) besides rows one two three new.text head said more.2.2 text
              ∙ ap (λ (b : Bool). old.text ++ cond b [] all) (sym loud),
          found,
          number,
        );
      }

  -- without its board
  pub tells-plain : is_drawn out wanted ≡ false → new.text ≡ three → Tells wanted n listed board places remark old new
  tells-plain hidden text = tells-text [] (λ shown. absurd (false≢true (sym hidden ∙ shown)))
      (text ∙ sym (append-nil three) ∙ ap (λ (b : Bool). three ++ cond b (drawn board []) []) (sym hidden))

  -- with its board, if memory lasts
  pub tells-drawn : {A E : Type 0} (result : Result A E) (judged : Result Board LevelFault) → is_drawn out wanted ≡ true → judged ≡ listed.board →
      OnOk result ((picture : List ℕ) × IsPicture judged board.cells picture × (new.text ≡ three ++ drawn board picture)) →
      OnOk result (Tells wanted n listed board places remark old new)
  tells-drawn (Err e) judged shown same picture = tt
  tells-drawn (Ok a) judged shown same picture = tells-text picture.0
      (λ _. subst (λ (j : Result Board LevelFault). IsPicture j board.cells picture.0) same picture.1)
      (picture.2 ∙ ap (λ (b : Bool). three ++ cond b (drawn board picture.0) []) (sym shown))

-- what is found is told, if memory lasts
pub found-told : {A E : Type 0} (result : Result A E) (remark : Remark) (IsOn Tale : Remark → Type 0) → IsOn remark →
    OnOk result (Tale remark) → OnOk result ((one : Remark) × IsOn one × Tale one)
found-told (Err e) remark IsOn Tale remark_on told_of = tt
found-told (Ok a) remark IsOn Tale remark_on told_of = (remark, remark_on, told_of)

-- a wanted level is told, if memory lasts
pub level-written : {A E : Type 0} (result : Result A E) (bytes : List ℕ) (wanted : Option ℕ) (number : ℕ) (listing : List Listed)
    (entry : BoardEntry) (found : Found) (places : List RowPlace) (rows : BoardRows) (old new : Page) → number ≡ suc (length listing) →
    is_wanted wanted number ≡ true → IsBoardEntry entry found → (here : IsBoardAt bytes found.first_line found.board places) →
    AreRowsOf here.lines found.first_line found.board rows →
    OnOk result ((remark : Remark) × IsRemarkOn entry.board (board_in rows) remark ×
    Tells wanted number (listed_of entry) (board_in rows) rows.places.items remark old new) →
    Explains bytes wanted listing old.text old.sound old.lost →
    OnOk result (Explains bytes wanted (listing ++ listed_of entry ∷ []) new.text new.sound new.lost)
level-written (Err e) bytes wanted number listing entry found places rows old new count is listed here has tells before = tt
level-written (Ok a) bytes wanted number listing entry found places rows old new count is listed here has tells before =
    let at_line = subst (λ n. IsBoardAt bytes n found.board places) (sym listed.first_line) here in
    let at_board = subst (λ (b : Board). IsBoardAt bytes entry.first_line b places) has.board_is at_line in
    level-told bytes wanted number listing (listed_of entry) (board_in rows) rows.places.items tells.0 old new count is
    (subst (λ (ps : List RowPlace). IsBoardAt bytes entry.first_line (board_in rows) ps) (here.places_are ∙ has.places_are) at_board)
    (subst (λ (b : Board). IsJudged b entry.board) has.board_is listed.board) tells.1 tells.2 before

-- a board that is too large is judged so
judged_large : (judged : Result Board LevelFault) (board : Board) (excess : Excess) → IsJudged board judged →
    cell_fault board ≡ Some (excess_fault excess) → judged ≡ Err (excess_fault excess)
judged_large (Ok level) board excess is over =
    absurd (let no : ◌≡◌ {A = Option LevelFault} None (Some (excess_fault excess)) = sym is.1.lawful.cells ∙ ap cell_fault is.0 ∙ over in cc)
judged_large (Err fault) board excess (inl is) over =
    let both : ◌≡◌ {A = Option LevelFault} (Some fault) (Some (excess_fault excess)) = sym is ∙ over in
    let same : fault ≡ excess_fault excess = cc in
    ap Err same
judged_large (Err fault) board excess (inr gap) over =
    absurd (let no : ◌≡◌ {A = Option LevelFault} None (Some (excess_fault excess)) = sym gap.0 ∙ over in cc)

-- or it is too large
pub level-large : {A E : Type 0} (result : Result A E) (bytes : List ℕ) (wanted : Option ℕ) (number : ℕ) (listing : List Listed)
    (entry : BoardEntry) (found : Found) (places : List RowPlace) (excess : Excess) (old new : Page) → number ≡ suc (length listing) →
    is_wanted wanted number ≡ true → IsBoardEntry entry found → (here : IsBoardAt bytes found.first_line found.board places) →
    HasRowsFor here.lines found.first_line found.board (Err excess) →
    OnOk result ((new.text ≡ old.text ++ check_line number (listed_of entry) ++ excess_words excess) × (new.sound ≡ false) × (new.lost ≡ old.lost)) →
    Explains bytes wanted listing old.text old.sound old.lost →
    OnOk result (Explains bytes wanted (listing ++ listed_of entry ∷ []) new.text new.sound new.lost)
level-large (Err e) bytes wanted number listing entry found places excess old new count is listed here past said before = tt
level-large (Ok a) bytes wanted number listing entry found places excess old new count is listed here past said before =
    let all = listing ++ listed_of entry ∷ [] in
    let P : ℕ → Type 0 = λ n. (board : IsBoardAt bytes n found.board places) × IsExcess board.lines n excess in
    let there = subst P (sym listed.first_line) (here, past.0) in
    subst (λ k. Explains bytes wanted all new.text new.sound k) (sym said.2)
    (subst (λ s. Explains bytes wanted all new.text s old.lost) (sym said.1)
    (subst (λ t. Explains bytes wanted all t false old.lost) (sym (said.0 ∙ ap (λ n. old.text ++ check_line n (listed_of entry) ++ excess_words excess) count))
    (large (listed_of entry) found.board places excess before (ap (is_wanted wanted) (sym count) ∙ is) there.0 listed.board
    (judged_large entry.board found.board excess listed.board past.1) there.1)))

-- the board of a source, as it is given
pub source-of : (bytes : List ℕ) (founds : List Found) (last : Collection) (source : BoardSource) →
    GivesSource bytes founds last (Some source) → (found : Found) × IsSourceOf source found
source-of bytes founds last source next = (next.0, (next.1.board, (next.4.1.lines, next.0.first_line, next.4.2)))

-- the gap and the level after it are written, if memory lasts
pub page-next : {A E : Type 0} (result : Result A E) (bytes : List ℕ) (wanted : Option ℕ) (listing : List Listed) (new : Page) (gaps : Broken) →
    HaveBroken bytes gaps.rows gaps.first → OnOk result (Explains bytes wanted listing new.text new.sound new.lost) →
    OnOk result (IsPage bytes wanted listing new gaps)
page-next (Err e) bytes wanted listing new gaps rest said = tt
page-next (Ok a) bytes wanted listing new gaps rest said = record { text = said; broken = rest }

-- the report of all levels
pub explained-report : {E : Type 0} (result : Result Report E) (bytes : List ℕ) (wanted : Option ℕ) (listing : List Listed) (page : Page) →
    IsLevelListing bytes listing → Explains bytes wanted listing page.text page.sound page.lost →
    IfOk result (λ report. report ≡ explained wanted listing page.text page.sound page.lost) →
    IfOk result (λ report. IsExplainReport wanted bytes report)
explained-report (Err e) bytes wanted listing page lists said made = tt
explained-report (Ok r) bytes wanted listing page lists said made = (listing, lists, page.text, page.sound, page.lost, said, made)

-- a line of other characters is named, if there is no level
pub strange-said : (bytes : List ℕ) (wanted : Option ℕ) (levels n : ℕ) (listing : List Listed) (row : List ℕ) (old : Page) → levels ≡ length listing →
    levels ≡ 0 → IsLevelListing bytes listing → IsLineOf bytes n row → looks_foreign row ≡ true →
    Explains bytes wanted listing old.text old.sound old.lost → Explains bytes wanted listing (old.text ++ foreign_line n) false old.lost
strange-said bytes wanted levels n [] row old count zero lists is_line looks before = foreign n row before lists is_line looks
strange-said bytes wanted levels n (x ∷ xs) row old count zero lists is_line looks before = absurd (omega (arith, count, zero))
