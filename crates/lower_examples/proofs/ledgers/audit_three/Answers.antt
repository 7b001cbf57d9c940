use Rattle.std.proofs.Common.{◌≡◌, [], ◌∷◌}
use Rattle.std.proofs.lemmas.List.Elements.{All-nil, All-cons, All-same}
use Rattle.claims.specs.Hands.{DrawerView}
use Rattle.lower_examples.proofs.ledgers.audit_three.Goals as goal

pub audit-requires : goal.audit-requires
audit-requires g c =
    let P : DrawerView → Type 0 = λ d. d.ledger ≡ c.args.ledger.now in
    let first = c.args.drawers.0 in
    let second = c.args.drawers.1 in
    let third = c.args.drawers.2 in
    All-same P _ (first ∷ second ∷ third ∷ []) c.listed-all.ensures
    (All-cons P first (second ∷ third ∷ []) c.requires.first
    (All-cons P second (third ∷ []) c.requires.second (All-cons P third [] c.requires.third (All-nil P))))
