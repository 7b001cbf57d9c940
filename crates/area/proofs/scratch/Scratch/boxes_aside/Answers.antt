use Rattle.std.proofs.Common.{length, ap, ◌∙◌}
use Rattle.grid.specs.Masks.{word_count}
use Rattle.area.specs.Reach.{Reach}
use Rattle.area.proofs.lemmas.Flooding.{words_enough}
use Rattle.area.proofs.scratch.Scratch.boxes_aside.Goals as goal

pub put_all-requires : goal.put_all-requires
put_all-requires c = λ q there.
    words_enough c.args.self.now.size (length c.self.inside.spare) q (c.self.invariant.spare_words ∙
    ap word_count (ap (λ (r : Reach). r.size) c.self.view_is)) (c.requires.inside q there)
