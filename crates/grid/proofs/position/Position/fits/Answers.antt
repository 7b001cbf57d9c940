use Rattle.std.proofs.Common.{◌≡◌, ℕ, true, false, length, sym, ap, subst, ◌∙◌, arith}
use Rattle.std.proofs.lemmas.Bool.{not-true, not_from_false, false≢true}
use Rattle.std.specs.List.{list_any}
use Rattle.grid.specs.Board.{Scene, is_wall}
use Rattle.grid.specs.Lawful.{box_count}
use Rattle.grid.specs.Squares.{Squares, contains}
use Rattle.grid.specs.Rising.{is_rising}
use Rattle.grid.proofs.lemmas.Places.{no_wall, all_clear}
use Rattle.grid.proofs.position.Position.fits.Goals as goal

pub returns-then-meets_wall : goal.returns-then-meets_wall
returns-then-meets_wall c =
    let level = c.args.level.now in
    let same : c.as_slice.result.now ≡ c.args.self.now.boxes = c.as_slice.ensures.value ∙ ap (λ (s : Scene). s.boxes) c.self.view_is in
    let wall : list_any (is_wall level) c.args.self.now.boxes ≡ true =
    subst (λ (xs : Squares). list_any (is_wall level) xs ≡ true) same (sym c.meets_wall.ensures ∙ c.if-meets_wall.true) in
    (λ e. absurd (false≢true e), λ fits. absurd (false≢true (sym (all_clear level c.args.self.now.boxes fits.scene.boxes) ∙ wall)))

pub returns : goal.returns
returns c =
    let level = c.args.level.now in
    let s = c.args.self.now in
    let boxes : c.self.inside.boxes.items ≡ s.boxes = ap (λ (t : Scene). t.boxes) c.self.view_is in
    let player : c.self.inside.player ≡ s.player = ap (λ (t : Scene). t.player) c.self.view_is in
    let rising = subst (λ (t : Scene). is_rising t.boxes ≡ true) c.self.view_is c.self.invariant in
    let same : c.as_slice.result.now ≡ s.boxes = c.as_slice.ensures.value ∙ boxes in
    let clear : list_any (is_wall level) s.boxes ≡ false = subst (λ (xs : Squares). list_any (is_wall level) xs ≡ false) same (sym c.meets_wall.ensures ∙
    c.if-meets_wall.false) in
    let floor : is_wall level s.player ≡ false = subst (λ (p : ℕ). is_wall level p ≡ false) player (sym c.is_wall.ensures ∙ c.if-is_wall.false) in
    let alone : c.contains.result ≡ contains s.boxes s.player = c.contains.ensures ∙ ap (contains s.boxes) player in
    let count : length s.boxes ≡ box_count level = sym (ap length boxes) ∙
    (sym c.len.ensures.value ∙ (let e : c.len.result ≡ c.boxes.result = omega arith in e ∙ c.boxes.ensures)) in (
      λ e. record {
        scene = record {
          rising = rising;
          boxes = λ q h. no_wall level s.boxes q clear h;
          player = (floor, sym alone ∙ not-true c.contains.result e);
        };
        boxes = count;
      },
      λ fits. not_from_false c.contains.result (alone ∙ fits.scene.player.1),
    )
