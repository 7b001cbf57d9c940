use Rattle.std.proofs.Common.{ap, ◌∙◌}
use Rattle.std.specs.Hash.FoldHasher as folding
use Rattle.store.proofs.Digests.{low_digest, both_digest}
use Rattle.store.proofs.key.Key.digest.Goals as goal

pub returns-then-this-eq0 : goal.returns-then-this-eq0
returns-then-this-eq0 g c =
    c.finish.ensures ∙ ap folding.finish (c.write.ensures ∙ ap (λ h. folding.write h c.self.inside.low) c.default-hasher.ensures)
    ∙ low_digest g.row.N g.row.M c.self.inside.boxes c.self.inside.low c.self.inside.high c.args.self.now c.self.invariant.1 c.self.view_is
    c.if-this-eq0.true

pub returns : goal.returns
returns g c =
    c.finish-2.ensures ∙ ap folding.finish (c.write-2.ensures ∙ ap (λ h. folding.write h c.self.inside.high) (c.write.ensures ∙
    ap (λ h. folding.write h c.self.inside.low) c.default-hasher.ensures))
    ∙ both_digest g.row.N g.row.M c.self.inside.boxes c.self.inside.low c.self.inside.high c.args.self.now c.self.invariant.1 c.self.view_is c.if-this-eq0.false
