use Rattle.std.proofs.Common.{not, eqb, length, refl, sym, ap, ◌∙◌}
use Rattle.std.proofs.lemmas.Bool.{and_parts, eq-eqb, true≢false}
use Rattle.area.proofs.lemmas.Flooding.{words_enough, words_few, area_seen, norm_of_least}
use Rattle.area.proofs.lemmas.Norms.{area_here}
use Rattle.grid.specs.Board.{is_wall}
use Rattle.grid.specs.Masks.{has_bit, word_count}
use Rattle.grid.specs.Squares.{contains}
use Rattle.area.specs.Reach.{Reach}
use Rattle.area.proofs.lemmas.WordSets.{listed}
use Rattle.area.proofs.lemmas.Moving.{moved_boxes}
use Rattle.area.proofs.after.least_again.Goals as goal

pub move_box-requires-clause-inside : goal.move_box-requires-clause-inside
move_box-requires-clause-inside c = words_enough (length c.args.level.now.cells) (length c.scratch.inside.boxes) c.args.square
    (c.scratch.invariant.boxes_words ∙ ap word_count (ap (λ (r : Reach). r.size) c.scratch.view_is ∙ c.requires.room)) c.requires.moved.inside

pub move_box-requires-clause-ahead : goal.move_box-requires-clause-ahead
move_box-requires-clause-ahead c = words_enough (length c.args.level.now.cells) (length c.scratch.inside.boxes) c.args.ahead (c.scratch.invariant.boxes_words ∙
    ap word_count (ap (λ (r : Reach). r.size) c.scratch.view_is ∙ c.requires.room)) c.requires.moved.within

pub copy_if-requires-clause-inside : goal.copy_if-requires-clause-inside
copy_if-requires-clause-inside c = words_enough (length c.args.level.now.cells) (length c.scratch.inside.reached) c.args.ahead
    (c.scratch.invariant.reached_words ∙ ap word_count (ap (λ (r : Reach). r.size) c.scratch.view_is ∙ c.requires.room)) c.requires.moved.within

pub flood_from-requires-clause-floor : goal.flood_from-requires-clause-floor
flood_from-requires-clause-floor c = ap (is_wall c.args.level.now) c.player.ensures ∙ c.requires.fits.scene.player.0

pub flood_from-requires-clause-free : goal.flood_from-requires-clause-free
flood_from-requires-clause-free c =
    moved_boxes c.scratch.inside.boxes c.move_box.new.moved c.args.scratch.now.boxes c.args.position.now.boxes c.args.square c.args.ahead
    (ap (λ (r : Reach). r.boxes) c.scratch.view_is) c.requires.moved.moved c.move_box.ensures.moved c.player.result ∙
    (ap (contains c.args.position.now.boxes) c.player.ensures ∙ c.requires.fits.scene.player.1)

pub flood_from-requires-clause-places : goal.flood_from-requires-clause-places
flood_from-requires-clause-places c =
    c.move_box.ensures.size ∙ (c.scratch.invariant.spare_boxes_words ∙ ap word_count (ap (λ (r : Reach). r.size) c.scratch.view_is ∙ c.requires.room))

pub flood_from-requires-clause-room : goal.flood_from-requires-clause-room
flood_from-requires-clause-room c =
    c.copy_if.ensures.size ∙ (c.scratch.invariant.spare_words ∙ ap word_count (ap (λ (r : Reach). r.size) c.scratch.view_is ∙ c.requires.room))

pub least_of-requires-clause-some : goal.least_of-requires-clause-some
least_of-requires-clause-some c = (
  c.args.position.now.player,
  (area_seen c.args.level.now c.args.position.now c.flood_from.new.reached c.as_words.result.now (c.flood_from.ensures.reached c.args.position.now (record {
    scene = c.requires.fits.scene;
    player = sym c.player.ensures;
    boxes = λ q floor. moved_boxes c.scratch.inside.boxes c.move_box.new.moved c.args.scratch.now.boxes c.args.position.now.boxes c.args.square c.args.ahead
        (ap (λ (r : Reach). r.boxes) c.scratch.view_is) c.requires.moved.moved c.move_box.ensures.moved q;
    within = λ q there.
        (let k = c.copy_if.ensures.kept q there in
        let p = and_parts (has_bit c.scratch.inside.reached q) (not (eqb c.args.ahead q)) k.1 in
        c.requires.known k.0 q (listed c.scratch.inside.reached c.scratch.inside.reached c.args.scratch.now.reached q
        (ap (λ (r : Reach). r.reached) c.scratch.view_is) refl ∙ p.0) (λ e. true≢false (sym p.1 ∙ ap not (eq-eqb c.args.ahead q (sym e)))));
  }))
      c.as_words.ensures c.args.position.now.player).1 (area_here c.args.level.now c.args.position.now),
)

pub least_of-requires-clause-small : goal.least_of-requires-clause-small
least_of-requires-clause-small c =
    words_few c.scratch.inside.squares (length c.as_words.result.now) (ap length c.as_words.ensures ∙
    (c.flood_from.ensures.room ∙ (c.copy_if.ensures.size ∙ c.scratch.invariant.spare_words))) c.scratch.invariant.small

pub returns-clause-norm : goal.returns-clause-norm
returns-clause-norm c =
    norm_of_least c.args.level.now c.args.position.now c.as_words.result.now c.least_of.result
    (area_seen c.args.level.now c.args.position.now c.flood_from.new.reached c.as_words.result.now
    (c.flood_from.ensures.reached c.args.position.now (record {
      scene = c.requires.fits.scene;
      player = sym c.player.ensures;
      boxes = λ q floor. moved_boxes c.scratch.inside.boxes c.move_box.new.moved c.args.scratch.now.boxes c.args.position.now.boxes c.args.square c.args.ahead
          (ap (λ (r : Reach). r.boxes) c.scratch.view_is) c.requires.moved.moved c.move_box.ensures.moved q;
      within = λ q there.
          (let k = c.copy_if.ensures.kept q there in
          let p = and_parts (has_bit c.scratch.inside.reached q) (not (eqb c.args.ahead q)) k.1 in
          c.requires.known k.0 q (listed c.scratch.inside.reached c.scratch.inside.reached c.args.scratch.now.reached q
          (ap (λ (r : Reach). r.reached) c.scratch.view_is) refl ∙ p.0) (λ e. true≢false (sym p.1 ∙ ap not (eq-eqb c.args.ahead q (sym e)))));
    }))
    c.as_words.ensures) c.least_of.ensures.reached c.least_of.ensures.least
