-- The levels of a range, as they are shown one by one.
use Rattle.std.proofs.Common.{◌≡◌, ℕ, suc, ◌+◌, ◌<◌, ◌≤◌, ◌&&◌, ◌||◌, Bool, true, false, cond, not, nat_le, nat_lt, if◌then◌else◌, List, [], ◌∷◌, ◌++◌, length}
use Rattle.std.proofs.Common.{Some, None, Result, Ok, Err, IfOk, is_ok, refl, sym, ap, ◌∙◌, arith, length-append, append_assoc, lt-ltb, le-ltb}
use Rattle.std.proofs.lemmas.List.{append-nil}
use Rattle.xsb.specs.declared.entry.BoardEntry.{BoardEntry}
use Rattle.xsb.specs.declared.limits.TheConstants.{MAX_FILE}
use Rattle.xsb.specs.declared.reader.Collection.{Collection}
use Rattle.xsb.specs.inside.Progress.{GivesNext, lines_left}
use Rattle.sokopar.specs.Entries.{listed_of}
use Rattle.sokopar.specs.Listing.{Listed}
use Rattle.sokopar.specs.Report.{Report, no_level}
use Rattle.sokopar.specs.Showing.{IsRangeReport, has_fault, shown_level, shown_levels}
use Rattle.sokopar.proofs.Listings.{HasListed, listed-all, listed-more}

-- how far the levels of a range were shown, and whether one of them is faulty
pub record HasShown (from to : ℕ) (bytes : List ℕ) (left : Collection) (text : List ℕ) (number : ℕ) (faulty : Bool) : Type 0 where
  pub listing : List Listed
  pub so_far : HasListed bytes left listing
  pub levels : text ≡ shown_levels from to 1 listing
  pub bad : faulty ≡ has_fault from to 1 listing
  pub count : number ≡ length listing
  pub room : number + lines_left left ≤ MAX_FILE

-- what is shown of level n, if it is in the range
abbrev pub if_shown : ℕ → ℕ → ℕ → Listed → List ℕ
if_shown from to n listed = cond (nat_le from n && nat_le n to) (shown_level listed.board n listed) []

-- level n is in the range and faulty
abbrev pub if_faulty : ℕ → ℕ → ℕ → Listed → Bool
if_faulty from to n listed = (nat_le from n && nat_le n to) && not (is_ok listed.board)

levels-last : (from to n p : ℕ) (listing : List Listed) (listed : Listed) → p ≡ n + length listing →
    shown_levels from to n (listing ++ listed ∷ []) ≡ shown_levels from to n listing ++ if_shown from to p listed
levels-last from to n p [] listed at =
    let same : n ≡ p = omega arith in append-nil (if_shown from to n listed) ∙ ap (λ k. if_shown from to k listed) same
levels-last from to n p (l ∷ listing) listed at =
    ap (λ t. if_shown from to n l ++ t) (levels-last from to (suc n) p listing listed (omega arith)) ∙
    sym (append_assoc (if_shown from to n l) (shown_levels from to (suc n) listing) (if_shown from to p listed))

or-false : (a : Bool) → (a || false) ≡ a
or-false true = refl
or-false false = refl

or-assoc : (a b c : Bool) → ((a || b) || c) ≡ (a || (b || c))
or-assoc true b c = refl
or-assoc false b c = refl

fault-last : (from to n p : ℕ) (listing : List Listed) (listed : Listed) → p ≡ n + length listing →
    has_fault from to n (listing ++ listed ∷ []) ≡ (has_fault from to n listing || if_faulty from to p listed)
fault-last from to n p [] listed at =
    let same : n ≡ p = omega arith in or-false (if_faulty from to n listed) ∙ ap (λ k. if_faulty from to k listed) same
fault-last from to n p (l ∷ listing) listed at =
    ap (λ t. if_faulty from to n l || t) (fault-last from to (suc n) p listing listed (omega arith)) ∙
    sym (or-assoc (if_faulty from to n l) (has_fault from to (suc n) listing) (if_faulty from to p listed))

-- a level more
pub shown-more : {from to : ℕ} {bytes text : List ℕ} {first : Collection} {number : ℕ} {faulty : Bool} (last : Collection) (entry : BoardEntry) (more : List ℕ) (bad : Bool)
    (is : HasShown from to bytes first text number faulty) → GivesNext bytes is.so_far.founds last (Some entry) → lines_left last < lines_left first →
    more ≡ text ++ if_shown from to (number + 1) (listed_of entry) → bad ≡ (faulty || if_faulty from to (number + 1) (listed_of entry)) →
    HasShown from to bytes last more (number + 1) bad
shown-more {from} {to} {bytes} {text} {first} {number} {faulty} last entry more bad is next fewer grown worse =
    let count = is.count in let long = length-append is.listing (listed_of entry ∷ []) in let room = is.room in
    record {
      listing = is.listing ++ listed_of entry ∷ [];
      so_far = listed-more last entry is.so_far next;
      levels = grown ∙ ap (λ t. t ++ if_shown from to (number + 1) (listed_of entry)) is.levels ∙
          sym (levels-last from to 1 (number + 1) is.listing (listed_of entry) (omega arith));
      bad = worse ∙ ap (λ t. t || if_faulty from to (number + 1) (listed_of entry)) is.bad ∙
          sym (fault-last from to 1 (number + 1) is.listing (listed_of entry) (omega arith));
      count = omega arith;
      room = omega arith;
    }

-- the report of what was shown
abbrev report_with : ℕ → ℕ → List ℕ → Bool → Report
report_with from number text faulty =
    if nat_lt number from then no_level from else record { text = text; status = cond faulty 1 0 }

shown-all : {from to : ℕ} {bytes text : List ℕ} {left : Collection} {number : ℕ} {faulty : Bool} (last : Collection)
    (is : HasShown from to bytes left text number faulty) → GivesNext bytes is.so_far.founds last None → (report : Report) →
    report ≡ report_with from number text faulty → IsRangeReport from to bytes report
shown-all {from} {to} last is all report made =
    let same : report_with from _ _ _ ≡ report_with from (length is.listing) (shown_levels from to 1 is.listing) (has_fault from to 1 is.listing) =
    λ i. report_with from (is.count i) (is.levels i) (is.bad i) in
    (is.listing, listed-all last is.so_far all, made ∙ same)

-- no level has the first number of the range, or some have
pub shown-beyond : {from to : ℕ} {bytes text : List ℕ} {left : Collection} {number : ℕ} {faulty : Bool} {E : Type 0} (last : Collection)
    (is : HasShown from to bytes left text number faulty) → GivesNext bytes is.so_far.founds last None → (result : Result Report E) → number < from →
    IfOk result (λ report. report ≡ no_level from) → IfOk result (λ report. IsRangeReport from to bytes report)
shown-beyond {from} {to} {bytes} {text} {left} {number} {faulty} last is all (Ok report) less made =
    shown-all last is all report
    (made ∙ sym (ap (λ t. if t then no_level from else record { text = text; status = cond faulty 1 0 }) (lt-ltb number from less)))
shown-beyond last is all (Err e) less made = tt

pub shown-within : {from to : ℕ} {bytes text : List ℕ} {left : Collection} {number : ℕ} {faulty : Bool} (last : Collection)
    (is : HasShown from to bytes left text number faulty) → GivesNext bytes is.so_far.founds last None → (report : Report) → from ≤ number →
    report ≡ record { text = text; status = cond faulty 1 0 } → IsRangeReport from to bytes report
shown-within {from} {to} {bytes} {text} {left} {number} {faulty} last is all report more made =
    shown-all last is all report
    (made ∙ sym (ap (λ t. if t then no_level from else record { text = text; status = cond faulty 1 0 }) (le-ltb number from more)))
