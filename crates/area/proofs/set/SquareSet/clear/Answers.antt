use Rattle.std.proofs.Common.{◌≡◌, ℕ, List, length, rules, ap, ◌∙◌}
use Rattle.grid.specs.Masks.{has_bit}
use Rattle.area.proofs.Seams.{over}
use Rattle.area.proofs.lemmas.WordSets.{none_set}
use Rattle.area.proofs.set.SquareSet.clear.Goals as goal

pub returns-clause-none : goal.returns-clause-none
returns-clause-none c = λ q.
    let size : length c.fill.new.self ≡ length c.args.self.now = c.fill.ensures.len ∙ ap length c.as_words_mut.ensures.words in
    ap (λ (ws : List ℕ). has_bit ws q) (over c.args.self.now c.fill.new.self size) ∙ none_set c.fill.new.self _ q (c.fill.ensures.after (search rules))
