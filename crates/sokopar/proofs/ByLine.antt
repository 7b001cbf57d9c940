-- A collection, as its levels are judged and written one by one.
use Rattle.std.proofs.Common.{◌≡◌, ℕ, suc, ◌+◌, ◌<◌, ◌≤◌, Option, List, [], ◌∷◌, ◌++◌, length, Some, None, Result, Ok, Err}
use Rattle.std.proofs.Common.{IfErr, IfOk, refl, sym, ap, ◌∙◌, subst, arith, length-append}
use mathlib.Core.List.{map-append}
use Rattle.xsb.specs.declared.entry.BoardEntry.{BoardEntry}
use Rattle.xsb.specs.declared.limits.TheConstants.{MAX_FILE}
use Rattle.xsb.specs.declared.reader.Collection.{Collection}
use Rattle.xsb.specs.inside.Progress.{HasRead, lines_left}
use Rattle.sokopar.specs.Ends.{Seen}
use Rattle.grid.specs.Board.{Board}
use Rattle.grid.specs.declared.fault.LevelFault.{LevelFault}
use Rattle.judging.specs.Kinds.{kind_of}
use Rattle.judging.specs.Table.{head_of, level_line}
use Rattle.judging.specs.declared.judgement.Judgement.{Judgement}
use Rattle.judging.specs.declared.kind.Kind.{Kind}
use Rattle.sokopar.specs.Entries.{listed_of}
use Rattle.sokopar.specs.Levels.{AreReported, none, outside, inside, BeginsListing, IsBetween, IsLine, IsReport}
use Rattle.sokopar.specs.Levels.{EndsWith, beyond, within, Reported, kinds_of, last_line, last_status, lines_of}
use Rattle.sokopar.specs.Listing.{Listed}
use Rattle.sokopar.specs.Report.{Report, no_level}
use Rattle.sokopar.specs.Runs.{WritesByLine, WritesLines, WritesPart, WritesWhole}
use Rattle.sokopar.specs.Runs as runs
use Rattle.sokopar.specs.declared.fault.RunFault.{RunFault}
use Rattle.sokopar.specs.declared.fault.RunFault.TheVariants.{Write, OutOfMemory}
use Rattle.sokopar.specs.declared.proving.LevelsRequest.{LevelsRequest}
use Rattle.sokopar.specs.inside.Sending.{Begins, Sends, SendsLevels}
use Rattle.xsb.proofs.lemmas.Cutting.{rest_of}
use Rattle.sokopar.proofs.Listings.{HasListed, Next, listed-all, listed-more, next_given}

-- ---- lines

lines-last : (reported : List Reported) (one : Reported) → lines_of (reported ++ one ∷ []) ≡ lines_of reported ++ one.text ∷ []
lines-last reported one = map-append (λ (r : Reported). r.text) reported (one ∷ [])

kinds-last : (reported : List Reported) (one : Reported) → kinds_of (reported ++ one ∷ []) ≡ kinds_of reported ++ one.kind ∷ []
kinds-last reported one = map-append (λ (r : Reported). r.kind) reported (one ∷ [])

-- a level was judged, and its line made
pub line_judged : (IsRight : ℕ → Result Board LevelFault → Judgement → Type 0) (request : LevelsRequest) (n : ℕ) (listed shown : Listed)
    (judgement : Judgement) (text : List ℕ) (kind : Kind) → shown ≡ listed → IsRight n shown.board judgement →
    text ≡ level_line request.table request.settings n shown judgement → kind ≡ kind_of judgement →
    IsLine IsRight request n listed (record { text = text; kind = kind })
line_judged IsRight request n listed shown judgement text kind same is made counts =
    let line = made ∙ ap (λ (l : Listed). level_line request.table request.settings n l judgement) same in
    (judgement, subst (λ (l : Listed). IsRight n l.board judgement) same is, λ i. record { text = line i; kind = counts i })

-- a line more after the first line
line-more : (head : List ℕ) (old mid new : Seen) (reported : List Reported) (one : Reported) → WritesLines old mid (head ∷ lines_of reported) →
    WritesWhole mid new one.text → WritesLines old new (head ∷ lines_of (reported ++ one ∷ []))
line-more head old mid new reported one before last =
    subst (λ (ls : List (List ℕ)). WritesLines old new (head ∷ ls)) (sym (lines-last reported one)) (runs.more new one.text before last)

-- ---- levels

-- how far a collection was reported: the lines of its first levels
pub record HasReported (IsRight : ℕ → Listed → Reported → Type 0) (request : LevelsRequest) (bytes : List ℕ) (left : Collection)
    (number : ℕ) (kinds : List Kind) (old new : Seen) : Type 0 where
  pub listing : List Listed
  pub so_far : HasListed bytes left listing
  pub reported : List Reported
  pub right : AreReported IsRight request.from request.to listing reported
  pub counted_are : number ≡ length listing
  pub kinds_are : kinds ≡ kinds_of reported
  pub written : WritesLines old new (head_of request.table ∷ lines_of reported)
  pub room : number + lines_left left ≤ MAX_FILE

pub reported_none : (IsRight : ℕ → Listed → Reported → Type 0) (request : LevelsRequest) (bytes : List ℕ) (left : Collection) (kinds : List Kind)
    (text : List ℕ) (old new : Seen) → HasRead bytes left [] → lines_left left ≤ MAX_FILE → text ≡ head_of request.table → WritesWhole old new text →
    kinds ≡ [] → HasReported IsRight request bytes left 0 kinds old new
reported_none IsRight request bytes left kinds text old new read few same written is = record {
  listing = [];
  so_far = record { founds = []; read = read; each = tt };
  reported = [];
  right = none;
  counted_are = refl;
  kinds_are = is;
  written = runs.more new (head_of request.table) runs.none (subst (λ (l : List ℕ). WritesWhole old new l) same written);
  room = omega arith;
}

-- a level more, whose number is not in the range
pub reported_outside : {IsRight : ℕ → Listed → Reported → Type 0} {request : LevelsRequest} {bytes : List ℕ} {first : Collection} {number : ℕ}
    {kinds : List Kind} {old new : Seen} (last : Collection) (read : Option BoardEntry) (entry : BoardEntry) →
    HasReported IsRight request bytes first number kinds old new → Next first last read → read ≡ Some entry → lines_left last < lines_left first →
    ¬ (IsBetween request.from request.to (number + 1)) → HasReported IsRight request bytes last (number + 1) kinds old new
reported_outside {IsRight} {request} {bytes} {first} {number} {kinds} {old} {new} last read entry is gives some fewer not =
    let counted_are = is.counted_are in let long = length-append is.listing (listed_of entry ∷ []) in let room = is.room in
    let at : suc (length is.listing) ≡ number + 1 = omega (arith, counted_are) in
    record {
      listing = is.listing ++ listed_of entry ∷ [];
      so_far = listed-more last entry is.so_far (next_given last read (Some entry) is.so_far gives some);
      reported = is.reported;
      right = outside (listed_of entry) is.right (subst (λ (n : ℕ). ¬ (IsBetween request.from request.to n)) (sym at) not);
      counted_are = omega (arith, counted_are, long);
      kinds_are = is.kinds_are;
      written = is.written;
      room = omega (arith, room, fewer);
    }

-- the first levels of a collection
begins-of : (bytes : List ℕ) (left : Collection) (listing : List Listed) → HasListed bytes left listing → BeginsListing bytes listing
begins-of bytes left listing is =
    let rest = rest_of bytes left is.founds is.read in
    record { founds = is.founds; others = rest.0; all = rest.1; each = is.each }

-- what the levels have with one more
right-more : (IsRight : ℕ → Listed → Reported → Type 0) (from to n : ℕ) (listing : List Listed) (reported : List Reported) (listed : Listed) (one : Reported) →
    AreReported IsRight from to listing reported → n ≡ suc (length listing) → IsBetween from to n → IsRight n listed one →
    AreReported IsRight from to (listing ++ listed ∷ []) (reported ++ one ∷ [])
right-more IsRight from to n listing reported listed one right at in_range is =
    inside listed one right (subst (λ (k : ℕ). IsBetween from to k) at in_range) (subst (λ (k : ℕ). IsRight k listed one) at is)

-- a level more, whose line was written
pub reported_inside : {IsRight : ℕ → Listed → Reported → Type 0} {request : LevelsRequest} {bytes : List ℕ} {first : Collection} {number : ℕ}
    {kinds : List Kind} {old mid : Seen} (last : Collection) (read : Option BoardEntry) (entry : BoardEntry) (one : Reported) (more : List Kind)
    (sent : List ℕ) (new : Seen) → HasReported IsRight request bytes first number kinds old mid → Next first last read → read ≡ Some entry → lines_left last < lines_left first →
    IsBetween request.from request.to (number + 1) → IsRight (number + 1) (listed_of entry) one → more ≡ kinds ++ one.kind ∷ [] →
    sent ≡ one.text → WritesWhole mid new sent → HasReported IsRight request bytes last (number + 1) more old new
reported_inside {IsRight} {request} {bytes} {first} {number} {kinds} {old} {mid} last read entry one more sent new is gives some fewer in_range right grown same written =
    let counted_are = is.counted_are in let long = length-append is.listing (listed_of entry ∷ []) in let room = is.room in
    record {
      listing = is.listing ++ listed_of entry ∷ [];
      so_far = listed-more last entry is.so_far (next_given last read (Some entry) is.so_far gives some);
      reported = is.reported ++ one ∷ [];
      right = right-more IsRight request.from request.to (number + 1) is.listing is.reported (listed_of entry) one is.right
          (omega (arith, counted_are)) in_range right;
      counted_are = omega (arith, counted_are, long);
      kinds_are = grown ∙ ap (λ (ks : List Kind). ks ++ one.kind ∷ []) is.kinds_are ∙ sym (kinds-last is.reported one);
      written = line-more (head_of request.table) old mid new is.reported one is.written (subst (λ (l : List ℕ). WritesWhole mid new l) same written);
      room = omega (arith, room, fewer);
    }

-- the lines so far begin a report
begins-report : (IsRight : ℕ → Listed → Reported → Type 0) (request : LevelsRequest) (bytes : List ℕ) (left : Collection) (listing : List Listed)
    (reported : List Reported) → HasListed bytes left listing → AreReported IsRight request.from request.to listing reported →
    Begins IsRight request bytes (head_of request.table ∷ lines_of reported) None
begins-report IsRight request bytes left listing reported so_far right = (refl, (listing, begins-of bytes left listing so_far, reported, right, refl))

-- the first line was not written whole
pub stopped_first : {A : Type 0} (IsRight : ℕ → Listed → Reported → Type 0) (request : LevelsRequest) (bytes : List ℕ) (left : Collection) (text : List ℕ)
    (old new : Seen) (result : Result A RunFault) (fault : RunFault) → result ≡ Err fault → HasRead bytes left [] → text ≡ head_of request.table →
    (fault ≡ Write) × WritesPart old new text → IfErr result (λ f. WritesByLine (Begins IsRight request bytes) old new (Err f))
stopped_first IsRight request bytes left text old new result fault fails read same (write, part) =
    subst (λ r. IfErr r (λ f. WritesByLine (Begins IsRight request bytes) old new (Err f))) (sym (fails ∙ ap Err write)) (
      [],
      head_of request.table,
      None,
      begins-report IsRight request bytes left [] [] (record { founds = []; read = read; each = tt }) none,
      old,
      runs.none,
      subst (λ (l : List ℕ). WritesPart old new l) same part,
    )

-- memory was refused between two lines
pub stopped_between : {A : Type 0} (IsRight : ℕ → Listed → Reported → Type 0) (request : LevelsRequest) (bytes : List ℕ) (left : Collection)
    (number : ℕ) (kinds : List Kind) (old new : Seen) (result : Result A RunFault) → result ≡ Err OutOfMemory →
    HasReported IsRight request bytes left number kinds old new → IfErr result (λ f. WritesByLine (Begins IsRight request bytes) old new (Err f))
stopped_between IsRight request bytes left number kinds old new result fails is =
    subst (λ r. IfErr r (λ f. WritesByLine (Begins IsRight request bytes) old new (Err f))) (sym fails)
    (head_of request.table ∷ lines_of is.reported, begins-report IsRight request bytes left is.listing is.reported is.so_far is.right, is.written)

-- the line of a level was not written whole
pub stopped_within : {A : Type 0} {IsRight : ℕ → Listed → Reported → Type 0} {request : LevelsRequest} {bytes : List ℕ} {first : Collection} {number : ℕ}
    {kinds : List Kind} {old mid : Seen} (last : Collection) (read : Option BoardEntry) (entry : BoardEntry) (one : Reported) (sent : List ℕ)
    (new : Seen) (result : Result A RunFault) (fault : RunFault) → result ≡ Err fault → HasReported IsRight request bytes first number kinds old mid →
    Next first last read → read ≡ Some entry → IsBetween request.from request.to (number + 1) → IsRight (number + 1) (listed_of entry) one →
    sent ≡ one.text → (fault ≡ Write) × WritesPart mid new sent → IfErr result (λ f. WritesByLine (Begins IsRight request bytes) old new (Err f))
stopped_within {IsRight = IsRight} {request = request} {bytes = bytes} {number = number} {old = old} {mid = mid} last read entry one sent new result
    fault fails is gives some in_range right same (write, part) =
    let counted_are = is.counted_are in
    let so_far = listed-more last entry is.so_far (next_given last read (Some entry) is.so_far gives some) in
    let begun = right-more IsRight request.from request.to (number + 1) is.listing is.reported (listed_of entry) one is.right
    (omega (arith, counted_are)) in_range right in
    subst (λ r. IfErr r (λ f. WritesByLine (Begins IsRight request bytes) old new (Err f))) (sym (fails ∙ ap Err write)) (
      head_of request.table ∷ lines_of is.reported,
      one.text,
      None,
      subst (λ (ls : List (List ℕ)). Begins IsRight request bytes (head_of request.table ∷ ls) None) (lines-last is.reported one)
          (begins-report IsRight request bytes last (is.listing ++ listed_of entry ∷ []) (is.reported ++ one ∷ []) so_far begun),
      mid,
      is.written,
      subst (λ (l : List ℕ). WritesPart mid new l) same part,
    )

-- no board more: the lines of all levels are written
pub reported_all : {IsRight : ℕ → Listed → Reported → Type 0} {request : LevelsRequest} {bytes : List ℕ} {first : Collection} {number : ℕ} {kinds : List Kind}
    {old new : Seen} (last : Collection) (read : Option BoardEntry) → HasReported IsRight request bytes first number kinds old new →
    Next first last read → read ≡ None → SendsLevels IsRight request bytes number kinds old new
reported_all {bytes = bytes} {first = first} last read is gives no_more = record {
  listing = is.listing;
  lists = listed-all last is.so_far (next_given last read None is.so_far gives no_more);
  begins = begins-of bytes first is.listing is.so_far;
  reported = is.reported;
  right = is.right;
  count_is = is.counted_are;
  kinds_are = is.kinds_are;
  written = is.written;
}

-- ---- the end

-- there is no level of the first number
pub ends_beyond : {E : Type 0} (from count : ℕ) (last : List ℕ) (worst : ℕ) (result : Result Report E) → count < from →
    IfOk result (λ end. end ≡ no_level from) → IfOk result (λ end. EndsWith from count last worst end.text end.status)
ends_beyond from count last worst (Ok end) few is = subst (λ (e : Report). EndsWith from count last worst e.text e.status) (sym is) (beyond few)
ends_beyond from count last worst (Err e) few is = tt

-- there is one
pub ends_within : (from count : ℕ) (last text : List ℕ) (worst status : ℕ) → from ≤ count → text ≡ last → status ≡ worst →
    EndsWith from count last worst text status
ends_within from count last text worst status many is counts =
    subst (λ (t : List ℕ). EndsWith from count last worst t status) (sym is)
    (subst (λ (s : ℕ). EndsWith from count last worst last s) (sym counts) (within many))

-- writing stopped before the last line
pub stopped_levels : (IsRight : ℕ → Listed → Reported → Type 0) (folder : Option (List ℕ)) (request : LevelsRequest) (bytes : List ℕ) (old new : Seen)
    (fault : RunFault) → WritesByLine (Begins IsRight request bytes) old new (Err fault) → WritesByLine (IsReport IsRight folder request bytes) old new (Err fault)
stopped_levels IsRight folder request bytes old new Write (lines, next, status, (is, begins), between, each, part) =
    (lines, next, None, begins, between, each, part)
stopped_levels IsRight folder request bytes old new OutOfMemory (lines, (is, begins), each) = (lines, begins, each)
stopped_levels IsRight folder request bytes old new fault bad = absurd bad

-- the last line ends the report, or is not written whole, by the number of levels and by the kinds
pub sent_end : (IsRight : ℕ → Listed → Reported → Type 0) (folder : Option (List ℕ)) (request : LevelsRequest) (bytes : List ℕ) (count : ℕ)
    (kinds listed : List Kind) (old mid new : Seen) (end : Report) (result : Result ℕ RunFault) → SendsLevels IsRight request bytes count kinds old mid →
    listed ≡ kinds → EndsWith request.from count (last_line folder request listed) (last_status folder listed) end.text end.status →
    Sends end.text end.status mid new result → WritesByLine (IsReport IsRight folder request bytes) old new result
sent_end IsRight folder request bytes count kinds listed old mid new end result is same ends sends = by result sends
  where
    P : ℕ → List Kind → Type 0
    P = λ n ks. EndsWith request.from n (last_line folder request ks) (last_status folder ks) end.text end.status

    whole : IsReport IsRight folder request bytes ((head_of request.table ∷ lines_of is.reported) ++ end.text ∷ []) (Some end.status)
    whole = (
      is.listing,
      is.lists,
      is.reported,
      is.right,
      end.text,
      subst (P (length is.listing)) (same ∙ is.kinds_are) (subst (λ n. P n listed) is.count_is ends),
      refl,
    )

    lines : List (List ℕ)
    lines = head_of request.table ∷ lines_of is.reported

    by : (result : Result ℕ RunFault) → Sends end.text end.status mid new result → WritesByLine (IsReport IsRight folder request bytes) old new result
    by (Ok status) sends = (
      lines ++ end.text ∷ [],
      subst (λ (s : ℕ). IsReport IsRight folder request bytes (lines ++ end.text ∷ []) (Some s)) (sym sends.1) whole,
      runs.more new end.text is.written sends.0,
    )
    by (Err Write) sends = (lines, end.text, Some end.status, whole, mid, is.written, sends)
    by (Err fault) sends = absurd sends
