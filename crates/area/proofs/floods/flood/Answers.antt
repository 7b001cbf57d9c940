use Rattle.std.proofs.Common.{◌≡◌, ℕ, true, List, length, refl, sym, ap, subst, ◌∙◌}
use Rattle.std.proofs.lemmas.Bool.{true≢false}
use Rattle.grid.specs.Board.{is_wall}
use Rattle.grid.specs.Masks.{has_bit, word_count}
use Rattle.grid.specs.Squares.{Squares, contains}
use Rattle.grid.proofs.lemmas.Steps.{inside_grid}
use Rattle.area.specs.Reach.{Reach}
use Rattle.area.proofs.lemmas.Flooding.{words_enough, listed_area, listed_boxes}
use Rattle.area.proofs.floods.flood.Goals as goal

pub put_all-requires : goal.put_all-requires
put_all-requires c = λ q h. words_enough (length c.args.level.now.cells) (length c.scratch.inside.boxes) q
    (c.scratch.invariant.boxes_words ∙ ap word_count (ap (λ (r : Reach). r.size) c.scratch.view_is ∙ c.requires.room))
    (inside_grid c.args.level.now q (c.requires.fits.scene.boxes q (subst (λ (b : Squares). contains b q ≡ true) c.boxes.ensures.squares h)))

pub copy_from-requires : goal.copy_from-requires
copy_from-requires c = c.scratch.invariant.spare_boxes_words ∙ sym (c.put_all.ensures.size ∙ c.scratch.invariant.boxes_words)

pub flood_from-requires-clause-places : goal.flood_from-requires-clause-places
flood_from-requires-clause-places c = ap length c.copy_from.ensures ∙ (c.put_all.ensures.size ∙
    (c.scratch.invariant.boxes_words ∙ ap word_count (ap (λ (r : Reach). r.size) c.scratch.view_is ∙ c.requires.room)))

pub flood_from-requires-clause-room : goal.flood_from-requires-clause-room
flood_from-requires-clause-room c =
    c.clear.ensures.size ∙ (c.scratch.invariant.reached_words ∙ ap word_count (ap (λ (r : Reach). r.size) c.scratch.view_is ∙ c.requires.room))

pub flood_from-requires-clause-floor : goal.flood_from-requires-clause-floor
flood_from-requires-clause-floor c = ap (is_wall c.args.level.now) c.player.ensures ∙ c.requires.fits.scene.player.0

pub flood_from-requires-clause-free : goal.flood_from-requires-clause-free
flood_from-requires-clause-free c = ap (λ (ws : List ℕ). has_bit ws c.player.result) c.copy_from.ensures ∙
    (c.put_all.ensures.put c.player.result ∙ (ap (λ (b : Squares). contains b c.player.result) c.boxes.ensures.squares ∙
    (ap (contains c.args.position.now.boxes) c.player.ensures ∙ c.requires.fits.scene.player.1)))

pub returns-clause-reached : goal.returns-clause-reached
returns-clause-reached c = listed_area c.args.level.now c.args.position.now c.flood_from.new.reached _
    (c.flood_from.ensures.reached c.args.position.now (record {
      scene = c.requires.fits.scene;
      player = sym c.player.ensures;
      boxes = λ q floor. ap (λ (ws : List ℕ). has_bit ws q) c.copy_from.ensures ∙
          (c.put_all.ensures.put q ∙ ap (λ (b : Squares). contains b q) c.boxes.ensures.squares);
      within = λ q h. absurd (true≢false (sym h ∙ c.clear.ensures.none q));
    })) refl

pub returns-clause-boxes : goal.returns-clause-boxes
returns-clause-boxes c = listed_boxes c.args.position.now.boxes c.put_all.new.self _ c.requires.fits.scene.rising
    (λ q. c.put_all.ensures.put q ∙ ap (λ (b : Squares). contains b q) c.boxes.ensures.squares) refl
