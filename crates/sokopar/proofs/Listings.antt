-- A collection, as its boards are judged one by one.
use Rattle.std.proofs.Common.{◌≡◌, ◌≢◌, ℕ, zero, suc, ◌+◌, ◌-◌, ◌<◌, ◌≤◌, Bool, true, false, cond, List, [], ◌∷◌, ◌++◌, length, Option, Some, None, Result}
use Rattle.std.proofs.Common.{option_map, slice_get, ◌==◌, if◌then◌else◌, codes, decimal, refl, sym, ap, ◌∙◌, subst, arith}
use Rattle.std.proofs.Common.{length-append, append_assoc}
use Rattle.std.specs.List.{AllZip, count_by}
use Rattle.std.proofs.lemmas.List.{append-nil}
use Rattle.std.proofs.lemmas.List.Sums.{fold-append}
use Rattle.grid.specs.Board.{Board}
use Rattle.grid.specs.declared.fault.LevelFault.{LevelFault}
use Rattle.xsb.specs.Collection.{Found}
use Rattle.xsb.specs.declared.entry.BoardEntry.{BoardEntry}
use Rattle.xsb.specs.declared.limits.TheConstants.{MAX_FILE}
use Rattle.xsb.specs.declared.reader.Collection.{Collection}
use Rattle.xsb.specs.inside.Progress.{HasRead, GivesNext, lines_left}
use Rattle.sokopar.specs.Entries.{listed_of}
use Rattle.sokopar.specs.Listing.{Listed, IsLevelAt, IsListed, IsLevelListing}
use Rattle.sokopar.specs.inside.Parts.{is_good}
use Rattle.sokopar.specs.Report.{Report, IsCheckReport, line, check_line, check_lines, check_report, good_count}

-- the boards so far, judged
pub record HasListed (bytes : List ℕ) (left : Collection) (listing : List Listed) : Type 0 where
  pub founds : List Found
  pub read : HasRead bytes left founds
  pub each : AllZip IsListed listing founds

-- what reading on from a board gives
abbrev pub Next : Collection → Collection → Option BoardEntry → Type 0
Next first last read = (bytes : List ℕ) (founds : List Found) → HasRead bytes first founds → GivesNext bytes founds last read

pub next_given : {bytes : List ℕ} {first : Collection} {listing : List Listed} (last : Collection) (read next : Option BoardEntry)
    (is : HasListed bytes first listing) → Next first last read → read ≡ next → GivesNext bytes is.founds last next
next_given {bytes} last read next is gives same = subst (λ n. GivesNext bytes is.founds last n) same (gives bytes is.founds is.read)

each-last : (listing : List Listed) (founds : List Found) (listed : Listed) (found : Found) → AllZip IsListed listing founds → IsListed listed found
    → AllZip IsListed (listing ++ listed ∷ []) (founds ++ found ∷ [])
each-last [] [] listed found each is = (is, tt)
each-last [] (f ∷ founds) listed found each is = absurd each
each-last (l ∷ listing) [] listed found each is = absurd each
each-last (l ∷ listing) (f ∷ founds) listed found each is = (each.0, each-last listing founds listed found each.1 is)

-- a board more
pub listed-more : {bytes : List ℕ} {first : Collection} {listing : List Listed} (last : Collection) (entry : BoardEntry) (is : HasListed bytes first listing)
    → GivesNext bytes is.founds last (Some entry) → HasListed bytes last (listing ++ listed_of entry ∷ [])
listed-more {bytes} {first} {listing} last entry is next = record {
  founds = is.founds ++ next.0 ∷ [];
  read = next.2;
  each = each-last listing is.founds (listed_of entry) next.0 is.each (record { name = next.1.name; first_line = next.1.first_line; board = next.1.board });
}

-- no board more
pub listed-all : {bytes : List ℕ} {first : Collection} {listing : List Listed} (last : Collection) (is : HasListed bytes first listing)
    → GivesNext bytes is.founds last None → IsLevelListing bytes listing
listed-all {bytes} {first} {listing} last is all = (is.founds, all, is.each)

-- how far a collection was checked: the lines of its boards so far, their number, and how many are lawful
pub record HasChecked (bytes : List ℕ) (left : Collection) (text : List ℕ) (levels good : ℕ) : Type 0 where
  pub listing : List Listed
  pub so_far : HasListed bytes left listing
  pub lines : text ≡ check_lines 1 listing
  pub count : levels ≡ length listing
  pub lawful : good ≡ good_count listing
  pub few : good ≤ levels
  pub room : levels + lines_left left ≤ MAX_FILE

abbrev pub checked-none : (bytes : List ℕ) (left : Collection) (text : List ℕ) → HasRead bytes left [] → text ≡ [] → lines_left left ≤ MAX_FILE →
    HasChecked bytes left text 0 0
checked-none bytes left text read none few = record {
  listing = [];
  so_far = record { founds = []; read = read; each = tt };
  lines = none;
  count = refl;
  lawful = refl;
  few = omega arith;
  room = omega arith;
}

pub lines-last : (n p : ℕ) (listing : List Listed) (listed : Listed) → p ≡ n + length listing →
    check_lines n (listing ++ listed ∷ []) ≡ check_lines n listing ++ check_line p listed
lines-last n p [] listed at =
    let same : n ≡ p = omega arith in append-nil (check_line n listed) ∙ ap (λ k. check_line k listed) same
lines-last n p (l ∷ listing) listed at =
    ap (λ t. check_line n l ++ t) (lines-last (suc n) p listing listed (omega arith)) ∙
    sym (append_assoc (check_line n l) (check_lines (suc n) listing) (check_line p listed))

one-more : (b : Bool) (n : ℕ) → n + cond b 1 0 ≡ cond b (n + 1) n
one-more true n = refl
one-more false n = omega arith

-- an item more passes a test or not
pub count-last : {X : Type 0} (test : X → Bool) (xs : List X) (x : X) → count_by test (xs ++ x ∷ []) ≡ cond (test x) (count_by test xs + 1) (count_by test xs)
count-last test xs x = fold-append (λ n y. n + cond (test y) 1 0) 0 xs (x ∷ []) ∙ one-more (test x) (count_by test xs)

pub good-bound : (t : Bool) (now good levels : ℕ) → now ≡ cond t (good + 1) good → good ≤ levels → now ≤ levels + 1
good-bound true now good levels e few = let f : now ≡ good + 1 = e in omega arith
good-bound false now good levels e few = let f : now ≡ good = e in omega arith

-- a board more is checked
abbrev pub checked-more : {bytes text : List ℕ} {first : Collection} {levels good : ℕ} (last : Collection) (entry : BoardEntry) (more : List ℕ) (now : ℕ)
    (is : HasChecked bytes first text levels good)
    → GivesNext bytes is.so_far.founds last (Some entry) → lines_left last < lines_left first → now ≡ cond (is_good (listed_of entry)) (good + 1) good
    → more ≡ text ++ check_line (levels + 1) (listed_of entry) → HasChecked bytes last more (levels + 1) now
checked-more {bytes} {text} {first} {levels} {good} last entry more now is next fewer grown line =
    let count = is.count in let long = length-append is.listing (listed_of entry ∷ []) in let room = is.room in
    record {
      listing = is.listing ++ listed_of entry ∷ [];
      so_far = listed-more last entry is.so_far next;
      lines = line ∙ ap (λ l. l ++ check_line (levels + 1) (listed_of entry)) is.lines ∙
          sym (lines-last 1 (levels + 1) is.listing (listed_of entry) (omega arith));
      count = omega arith;
      lawful = grown ∙ ap (λ (n : ℕ). cond (is_good (listed_of entry)) (n + 1) n) is.lawful ∙ sym (count-last is_good is.listing (listed_of entry));
      few = good-bound (is_good (listed_of entry)) now good levels grown is.few;
      room = omega arith;
    }

-- the report of some lines, by the numbers of levels and of lawful ones
abbrev pub report_with : List ℕ → ℕ → ℕ → Report
report_with text levels good = record {
  text = text ++ line (decimal levels ++ codes " levels, " ++ decimal good ++ codes " good");
  status = if good == levels then 0 else 1;
}

-- no board more: the collection is checked
pub checked-all : {bytes text : List ℕ} {left : Collection} {levels good : ℕ} (last : Collection) (is : HasChecked bytes left text levels good)
    → GivesNext bytes is.so_far.founds last None → (report : Report) → report ≡ report_with text levels good → IsCheckReport bytes report
checked-all {bytes} {text} {left} {levels} {good} last is all report made =
    let same : report_with text levels good ≡ check_report is.listing = λ i. report_with (is.lines i) (is.count i) (is.lawful i) in
    (is.listing, listed-all last is.so_far all, made ∙ same)

-- by what reading on gave
pub checked_next : {bytes text : List ℕ} {first : Collection} {levels good : ℕ} (last : Collection) (read : Option BoardEntry) (entry : BoardEntry)
    (more : List ℕ) (now : ℕ) → HasChecked bytes first text levels good → Next first last read → read ≡ Some entry → lines_left last < lines_left first →
    now ≡ cond (is_good (listed_of entry)) (good + 1) good → more ≡ text ++ check_line (levels + 1) (listed_of entry) →
    HasChecked bytes last more (levels + 1) now
checked_next last read entry more now is gives some fewer grown line =
    checked-more last entry more now is (next_given last read (Some entry) is.so_far gives some) fewer grown line

pub checked_end : {bytes text : List ℕ} {first : Collection} {levels good : ℕ} (last : Collection) (read : Option BoardEntry) (report : Report) →
    HasChecked bytes first text levels good → Next first last read → read ≡ None → report ≡ report_with text levels good → IsCheckReport bytes report
checked_end last read report is gives none made = checked-all last is (next_given last read None is.so_far gives none) report made

-- how far a level was looked for by its number
pub record HasLooked (bytes : List ℕ) (left : Collection) (number count : ℕ) (chosen : Option (Result Board LevelFault)) : Type 0 where
  pub listing : List Listed
  pub so_far : HasListed bytes left listing
  pub counted : count ≡ length listing
  pub is : chosen ≡ option_map (λ listed. listed.board) (slice_get listing (number - 1))
  pub room : count + lines_left left ≤ MAX_FILE

get-last : (listing : List Listed) (listed : Listed) (k : ℕ) → k ≡ length listing → slice_get (listing ++ listed ∷ []) k ≡ Some listed
get-last [] listed zero at = refl
get-last [] listed (suc k) at = absurd (let no : suc k ≡ 0 = at in omega (arith, no))
get-last (l ∷ listing) listed zero at = absurd (let no : 0 ≡ suc (length listing) = at in omega (arith, no))
get-last (l ∷ listing) listed (suc k) at = get-last listing listed k (omega arith)

get-other : (listing : List Listed) (listed : Listed) (k : ℕ) → k ≢ length listing → slice_get (listing ++ listed ∷ []) k ≡ slice_get listing k
get-other [] listed zero at = absurd (at refl)
get-other [] listed (suc k) at = refl
get-other (l ∷ listing) listed zero at = refl
get-other (l ∷ listing) listed (suc k) at = get-other listing listed k (λ e. at (ap suc e))

-- a board more, which is that of the number
pub looked_here : {bytes : List ℕ} {first : Collection} {number count : ℕ} {chosen : Option (Result Board LevelFault)} (last : Collection)
    (read : Option BoardEntry) (entry : BoardEntry) (board : Result Board LevelFault) → HasLooked bytes first number count chosen → Next first last read →
    read ≡ Some entry → lines_left last < lines_left first → count + 1 ≡ number → board ≡ entry.board →
    HasLooked bytes last number (count + 1) (Some board)
looked_here {bytes} {first} {number} {count} {chosen} last read entry board is gives some fewer here same =
    let counted = is.counted in let long = length-append is.listing (listed_of entry ∷ []) in let room = is.room in
    record {
      listing = is.listing ++ listed_of entry ∷ [];
      so_far = listed-more last entry is.so_far (next_given last read (Some entry) is.so_far gives some);
      counted = omega arith;
      is = ap Some same ∙ sym (ap (option_map (λ listed. listed.board)) (get-last is.listing (listed_of entry) (number - 1) (omega arith)));
      room = omega arith;
    }

-- or another one
pub looked_on : {bytes : List ℕ} {first : Collection} {number count : ℕ} {chosen : Option (Result Board LevelFault)} (last : Collection)
    (read : Option BoardEntry) (entry : BoardEntry) → HasLooked bytes first number count chosen → Next first last read → read ≡ Some entry →
    lines_left last < lines_left first → 1 ≤ number → count + 1 ≢ number → HasLooked bytes last number (count + 1) chosen
looked_on {bytes} {first} {number} {count} {chosen} last read entry is gives one fewer some other =
    let counted = is.counted in let long = length-append is.listing (listed_of entry ∷ []) in let room = is.room in
    record {
      listing = is.listing ++ listed_of entry ∷ [];
      so_far = listed-more last entry is.so_far (next_given last read (Some entry) is.so_far gives one);
      counted = omega arith;
      is = is.is ∙ sym (ap (option_map (λ listed. listed.board))
          (get-other is.listing (listed_of entry) (number - 1) (λ e. other (omega (arith, e, counted, some)))));
      room = omega arith;
    }

-- no board more
pub looked_all : {bytes : List ℕ} {first : Collection} {number count : ℕ} {chosen : Option (Result Board LevelFault)} (last : Collection)
    (read : Option BoardEntry) → HasLooked bytes first number count chosen → Next first last read → read ≡ None →
    IsLevelAt bytes number chosen
looked_all last read is gives none =
    record { listing = is.listing; lists = listed-all last is.so_far (next_given last read None is.so_far gives none); is = is.is }
