use Rattle.std.proofs.Common.{true, false, is_some, not, ap, sym, ◌∙◌}
use Rattle.std.specs.List.{list_any}
use Rattle.std.specs.Map.{lookup}
use Rattle.successors.specs.declared.parcel.Successor.{Successor}
use Rattle.store.specs.Entries.{same_scene}
use Rattle.successors.specs.Shares.{share_of}
use Rattle.store.proofs.Tails.{new_is, same_number}
use Rattle.store.proofs.entering.is_new.Goals as goal

pub returns-then-contains_key : goal.returns-then-contains_key
returns-then-contains_key g c =
    let es = c.args.table.now.entries in let m = c.args.position.now in
    let among = list_any (λ (s : Successor). same_scene s.position m) c.args.before.now in
    let mine = same_number (share_of c.args.shares m) c.args.share (sym c.share_of.ensures ∙ c.if-share_of-share.false) in
    new_is m c.args.start c.args.shares c.args.share es c.requires.found mine true among (c.if-contains_key.ensures ∙
    ap (λ n. is_some (lookup (same_scene n) es)) c.of-key.ensures)

pub returns : goal.returns
returns g c =
    let es = c.args.table.now.entries in let m = c.args.position.now in
    let among = list_any (λ (s : Successor). same_scene s.position m) c.args.before.now in
    let mine = same_number (share_of c.args.shares m) c.args.share (sym c.share_of.ensures ∙ c.if-share_of-share.false) in
    ap not c.is_among.ensures
    ∙ new_is m c.args.start c.args.shares c.args.share es c.requires.found mine false among (c.if-contains_key.ensures ∙
    ap (λ n. is_some (lookup (same_scene n) es)) c.of-key.ensures)
