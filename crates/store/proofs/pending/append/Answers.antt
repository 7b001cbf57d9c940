use Rattle.std.proofs.Common.{◌≡◌, ℕ, ◌%◌, ◌++◌, ◌∷◌, [], List, sym, ap, ◌∙◌, if◌then◌else◌}
use Rattle.grid.specs.declared.square.Push.{Push}
use Rattle.grid.specs.Board.{Scene}
use Rattle.store.specs.Entries.{OpenEntry}
use Rattle.successors.specs.Shares.{share_of}
use Rattle.successors.specs.declared.parcel.Successor.{Successor}
use Rattle.store.proofs.Tails.{same_number, other_number}
use Rattle.std.proofs.lemmas.List.{append-nil}
use Rattle.store.proofs.pending.append.Goals as goal

pub returns-then-share_by-share-clause-items : goal.returns-then-share_by-share-clause-items
returns-then-share_by-share-clause-items g c =
    let s : Successor = c.args.successor.now in
    let told : c.share_by.result ≡ share_of c.args.shares s.position = c.share_by.ensures ∙ ap (λ (n : ℕ). n % c.args.shares) c.requires.sum in
    let before = c.args.pending.now.items in
    let e = other_number (share_of c.args.shares s.position) c.args.share (λ h. c.if-share_by-share.true (told ∙ h)) in
    sym (append-nil before) ∙ (λ i. before ++ (if sym e i then (s.position, (c.args.rank, s.push)) ∷ [] else []))

pub returns-clause-items : goal.returns-clause-items
returns-clause-items g c =
    let s : Successor = c.args.successor.now in
    let told : c.share_by.result ≡ share_of c.args.shares s.position = c.share_by.ensures ∙ ap (λ (n : ℕ). n % c.args.shares) c.requires.sum in
    let before : List (OpenEntry Scene Push) = c.args.pending.now.items in
    let e = same_number (share_of c.args.shares s.position) c.args.share (sym told ∙ c.if-share_by-share.false) in
    ◌∙◌ {A = List (OpenEntry Scene Push)} c.append_offer.ensures.items (λ i. before ++ (if sym e i then (s.position, (c.args.rank, s.push)) ∷ [] else []))
