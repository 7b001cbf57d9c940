use Rattle.std.proofs.Common.{ℕ, ◌++◌, List, length, take, drop, refl, ap, ◌∙◌, rules}
use Rattle.area.specs.inside.Written.{written_over}
use Rattle.area.proofs.set.SquareSet.as_words_mut.Goals as goal

pub returns : goal.returns
returns c = (
  (
    refl,
    λ w. ap (λ (n : ℕ). take n (w ++ drop (length w) c.self.inside.words.items)) c.self.inside.words.ok.0 ∙
        ap (λ (old : List ℕ). written_over old w) c.self.view_is,
  ),
  search rules,
)
