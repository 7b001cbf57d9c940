-- What writing a report does.
use Rattle.std.specs.Prelude.{◌≡◌, ℕ, List, [], ◌∷◌, length, Option, None, Result, Ok, Err}
use Rattle.sokopar.specs.Ends.{Seen}
use Rattle.judging.specs.Table.{head_of}
use Rattle.judging.specs.declared.kind.Kind.{Kind}
use Rattle.sokopar.specs.Levels.{AreReported, BeginsListing, IsReport, Reported, kinds_of, lines_of}
use Rattle.sokopar.specs.Listing.{Listed, IsLevelListing}
use Rattle.sokopar.specs.Runs.{WritesLines, WritesPart, WritesWhole}
use Rattle.sokopar.specs.declared.fault.RunFault.{RunFault}
use Rattle.sokopar.specs.declared.fault.RunFault.TheVariants.{Write}
use Rattle.sokopar.specs.declared.proving.LevelsRequest.{LevelsRequest}

-- what writing a text does: the sink takes it and the answer is this status, or a write fails
abbrev pub Sends : List ℕ → ℕ → Seen → Seen → Result ℕ RunFault → Type 0
Sends text status old new (Ok answer) = WritesWhole old new text × (answer ≡ status)
Sends text status old new (Err Write) = WritesPart old new text
Sends text status old new (Err fault) = ⊥

-- the lines begin a report on levels
abbrev pub Begins : (ℕ → Listed → Reported → Type 0) → LevelsRequest → List ℕ → List (List ℕ) → Option ℕ → Type 0
Begins IsRight request bytes lines status = (status ≡ None) × IsReport IsRight None request bytes lines None

-- the head line and the lines of all levels of these bytes with numbers in a range were written; the collection has
-- this number of levels, and those in the range are of these kinds
pub record SendsLevels (IsRight : ℕ → Listed → Reported → Type 0) (request : LevelsRequest) (bytes : List ℕ)
    (count : ℕ) (kinds : List Kind) (old new : Seen) : Type 0 where
  pub listing : List Listed
  pub lists : IsLevelListing bytes listing
  pub begins : BeginsListing bytes listing
  pub reported : List Reported
  pub right : AreReported IsRight request.from request.to listing reported
  pub count_is : count ≡ length listing
  pub kinds_are : kinds ≡ kinds_of reported
  pub written : WritesLines old new (head_of request.table ∷ lines_of reported)
