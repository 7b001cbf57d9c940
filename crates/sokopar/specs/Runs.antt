-- What reading a source whole and writing a text do.
use Rattle.std.specs.Prelude.{◌≡◌, ℕ, Bool, suc, ◌≤◌, List, [], ◌∷◌, ◌++◌, length, Result, Ok, Err, Option, Some}
use Rattle.std.specs.Prelude.{None, ◌⊎◌}
use Rattle.std.specs.Io.KnownBytes.{Consumes, Appends}
use Rattle.grid.specs.Board.{Board}
use Rattle.sokopar.specs.declared.fault.RunFault.{RunFault}
use Rattle.sokopar.specs.declared.fault.RunFault.TheVariants.{Read, Write, TooLong, OutOfMemory}
use Rattle.xsb.specs.declared.limits.TheConstants.{MAX_FILE}
use Rattle.sokopar.specs.Ends.{Act, moved, failed, Seen, Pass, WereAll}
use Rattle.sokopar.specs.Listing.{IsLevelAt}
use Rattle.sokopar.specs.Report.{Report, written_of}

-- the source was read to its end: reads gave these bytes, no more than a file may have, then one gave none, and no
-- other was asked for; where it is known which bytes were left, they were these
pub record ReadsWhole (old new : Seen) (bytes : List ℕ) : Type 0 where
  pub acts : List Act
  pub given : Pass old.acts acts bytes
  pub last : new.acts ≡ acts ++ moved [] ∷ []
  pub bound : length bytes ≤ MAX_FILE
  pub all : WereAll old.known new.known bytes

-- why the reading of a source stopped before a report was made, where it gave these bytes: a read failed, and no other
-- was asked for; or it gave one byte more than a file may have, and was asked for no more; or memory was refused, before
-- its end or after
abbrev pub StopsFor : Seen → Seen → List ℕ → RunFault → Type 0
StopsFor old new bytes Read =
    (acts : List Act) × Pass old.acts acts bytes × (new.acts ≡ acts ++ failed ∷ []) × (length bytes ≤ MAX_FILE)
StopsFor old new bytes Write = ⊥
StopsFor old new bytes TooLong = Pass old.acts new.acts bytes × (length bytes ≡ suc MAX_FILE)
StopsFor old new bytes OutOfMemory =
    (Pass old.acts new.acts bytes × (length bytes ≤ suc MAX_FILE)) ⊎ ReadsWhole old new bytes

-- the reading of a source stopped before a report was made; known bytes that were left began with those that it gave
pub record Stops (old new : Seen) (fault : RunFault) : Type 0 where
  pub bytes : List ℕ
  pub cause : StopsFor old new bytes fault
  pub first : Consumes old.known new.known bytes

-- what reading a collection did: all its bytes were read, or the reading stopped
abbrev pub Reads : Seen → Seen → Result (List ℕ) RunFault → Type 0
Reads old new (Ok bytes) = ReadsWhole old new bytes
Reads old new (Err fault) = Stops old new fault

-- a second source was read to its end, or left alone
abbrev pub ReadsIfSome : Seen → Seen → Option (List ℕ) → Type 0
ReadsIfSome old new None = new ≡ old
ReadsIfSome old new (Some bytes) = ReadsWhole old new bytes

-- what reading a collection did beside a solution, which is read only where level n of the collection is lawful: it was
-- read to its end; or it stopped, and the solution is left alone; or the reading of the solution stopped
abbrev pub ReadsBeside : ℕ → Seen → Seen → Seen → Seen → Result (List ℕ) RunFault → Type 0
ReadsBeside n source read second second_read (Ok bytes) = ReadsWhole source read bytes
ReadsBeside n source read second second_read (Err fault) =
    (Stops source read fault × (second_read ≡ second)) ⊎
    ((bytes : List ℕ) × (board : Board) × ReadsWhole source read bytes × IsLevelAt bytes n (Some (Ok board)) ×
    Stops second second_read fault)

-- the report on a collection and a solution, which was read to its end or left alone
abbrev pub WithSolution : (List ℕ → Option (List ℕ) → Report → Type 0) → Seen → Seen → List ℕ → Report → Type 0
WithSolution IsReport second second_read bytes report =
    (solution : Option (List ℕ)) × ReadsIfSome second second_read solution × IsReport bytes solution report

-- the sink took the whole text, no write failed, and no other was asked for; what it holds, if known, has grown by
-- the text
pub record WritesWhole (old new : Seen) (text : List ℕ) : Type 0 where
  pub taken : Pass old.acts new.acts text
  pub holds : Appends old.known new.known text

-- the sink took a beginning of the text, then a write failed, and no other was asked for; what it holds, if known,
-- has grown by it
pub record WritesPart (old new : Seen) (text : List ℕ) : Type 0 where
  pub part : List ℕ
  pub rest : List ℕ
  pub acts : List Act
  pub begins : text ≡ part ++ rest
  pub taken : Pass old.acts acts part
  pub last : new.acts ≡ acts ++ failed ∷ []
  pub holds : Appends old.known new.known part

-- what a run does, by its answer, if its report is one text.  It reads, writes the report of what it read, with the flag
-- without its first line, and answers its status; or a write fails after a beginning of the report; or the reading stops,
-- and nothing is written. `DidRead` states what the reading did, which gave these bytes or stopped for this fault
abbrev pub Runs : (Result (List ℕ) RunFault → Type 0) → Bool → (List ℕ → Report → Type 0) → Seen → Seen →
    Result ℕ RunFault → Type 0
Runs DidRead lurd IsReport sink written (Ok status) =
    (bytes : List ℕ) × (report : Report) × DidRead (Ok bytes) × IsReport bytes report ×
    WritesWhole sink written (written_of lurd report) × (status ≡ report.status)
Runs DidRead lurd IsReport sink written (Err Write) =
    (bytes : List ℕ) × (report : Report) × DidRead (Ok bytes) × IsReport bytes report ×
    WritesPart sink written (written_of lurd report)
Runs DidRead lurd IsReport sink written (Err fault) = DidRead (Err fault) × (written ≡ sink)

-- the sink took these lines, one after the other: no write took bytes of two of them
pub data WritesLines (old : Seen) : Seen → List (List ℕ) → Type 0 where
  none : WritesLines old old []
  more : {between : Seen} {lines : List (List ℕ)} (new : Seen) (next : List ℕ) → WritesLines old between lines →
      WritesWhole between new next → WritesLines old new (lines ++ next ∷ [])

-- what writing a report line by line does, by its answer.  `IsReport` states which lines are a report with a status and,
-- without one, which begin a report.  All lines are taken, and the answer is the status; or a write fails within a line,
-- after the lines before it; or memory is refused, after whole lines
abbrev pub WritesByLine : (List (List ℕ) → Option ℕ → Type 0) → Seen → Seen → Result ℕ RunFault → Type 0
WritesByLine IsReport old new (Ok status) =
    (lines : List (List ℕ)) × IsReport lines (Some status) × WritesLines old new lines
WritesByLine IsReport old new (Err Write) =
    (lines : List (List ℕ)) × (next : List ℕ) × (status : Option ℕ) × IsReport (lines ++ next ∷ []) status ×
    (between : Seen) × WritesLines old between lines × WritesPart between new next
WritesByLine IsReport old new (Err OutOfMemory) =
    (lines : List (List ℕ)) × IsReport lines None × WritesLines old new lines
WritesByLine IsReport old new (Err fault) = ⊥

-- what a run does that writes its report line by line: it reads the source to its end, and then writes a report of what
-- was read; or the reading stops, and nothing is written
abbrev pub RunsByLine : (List ℕ → List (List ℕ) → Option ℕ → Type 0) → Seen → Seen → Seen → Seen → Result ℕ RunFault →
    Type 0
RunsByLine IsReport source read sink written result =
    ((bytes : List ℕ) × ReadsWhole source read bytes × WritesByLine (IsReport bytes) sink written result) ⊎
    ((fault : RunFault) × (result ≡ Err fault) × Stops source read fault × (written ≡ sink))
