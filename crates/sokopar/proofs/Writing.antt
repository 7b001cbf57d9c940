-- How a text is written, one part after the other.
use Rattle.std.proofs.Common.{◌≡◌, ◌≤◌, List, [], ◌∷◌, ℕ, ◌++◌, length, take, drop, refl, sym, ap, ◌∙◌, subst, append_assoc, append-nil, take-append-drop}
use Rattle.std.proofs.KnownBytes.{Appends-kept, Appends-nil, Appends-trans}
use Rattle.std.specs.Io.KnownBytes.{Appends, Keeps}
use Rattle.sokopar.specs.Ends.{moved, failed, Seen, Pass, none}
use Rattle.sokopar.specs.Runs.{WritesWhole, WritesPart}
use Rattle.sokopar.proofs.Acts.{pass_more}

-- a sink took the part of the text before what is left, in writes that each took some
pub record Taken (old new : Seen) (text rest : List ℕ) : Type 0 where
  pub part : List ℕ
  pub begins : text ≡ part ++ rest
  pub taken : Pass old.acts new.acts part
  pub holds : Appends old.known new.known part

-- nothing is written yet
pub taken_none : (old : Seen) (text : List ℕ) → Taken old old text text
taken_none old text = record { part = []; begins = refl; taken = none; holds = Appends-nil old.known }

-- a write more took the first bytes of what was left
pub taken_more : (old mid new : Seen) (text rest left : List ℕ) (n : ℕ) → Taken old mid text rest → new.acts ≡ mid.acts ++ moved (take n rest) ∷ []
    → Appends mid.known new.known (take n rest) → 1 ≤ n → n ≤ length rest → left ≡ drop n rest → Taken old new text left
taken_more old mid new text rest left n before act holds some few is =
    let cut : rest ≡ take n rest ++ left = sym (take-append-drop n rest) ∙ ap (λ (l : List ℕ). take n rest ++ l) (sym is) in
    record {
      part = before.part ++ take n rest;
      begins = before.begins ∙ ap (λ (l : List ℕ). before.part ++ l) cut ∙ sym (append_assoc before.part (take n rest) left);
      taken = pass_more old.acts mid.acts new.acts before.part (before.part ++ take n rest) rest n before.taken act refl some few;
      holds = Appends-trans old.known mid.known new.known before.part (take n rest) before.holds holds;
    }

-- nothing is left to write
pub taken_all : (old new : Seen) (text rest : List ℕ) → Taken old new text rest → rest ≡ [] → WritesWhole old new text
taken_all old new text rest taken is =
    let whole : text ≡ taken.part = taken.begins ∙ ap (λ (l : List ℕ). taken.part ++ l) is ∙ append-nil taken.part in
    let P : List ℕ → Type 0 = λ bs. WritesWhole old new bs in
    subst P (sym whole) (record { taken = taken.taken; holds = taken.holds })

-- a write failed
pub taken_part : (old mid new : Seen) (text rest : List ℕ) → Taken old mid text rest → new.acts ≡ mid.acts ++ failed ∷ [] → Keeps mid.known new.known →
    WritesPart old new text
taken_part old mid new text rest before act kept = record {
  part = before.part;
  rest = rest;
  acts = mid.acts;
  begins = before.begins;
  taken = before.taken;
  last = act;
  holds = Appends-kept old.known mid.known new.known before.part before.holds kept;
}
