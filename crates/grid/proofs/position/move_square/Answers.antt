use Rattle.std.proofs.Common.{◌≡◌, ℕ, ltb, true, false, sym, ap, subst, ◌∙◌, arith}
use Rattle.std.specs.List.{prefix_len, remove as remove_at}
use Rattle.grid.specs.Squares.{Squares, contains, insert, remove}
use Rattle.grid.specs.Rising.{is_rising}
use Rattle.grid.proofs.lemmas.Squares.{contains-remove_out, is_rising-remove}
use Rattle.grid.proofs.lemmas.Places.{place_inside, remove_place}
use Rattle.grid.proofs.position.move_square.Goals as goal

-- the squares without the one at a member's place
left_out : (xs : Squares) (from place : ℕ) → is_rising xs ≡ true → contains xs from ≡ true → place ≡ prefix_len (λ x. ltb x from) xs →
    remove_at xs place ≡ remove xs from
left_out xs from place rising there is = ap (remove_at xs) is ∙ remove_place xs from rising there

pub settle-requires-clause-inside : goal.settle-requires-clause-inside
settle-requires-clause-inside c = omega (arith, place_inside c.args.squares.now c.args.from c.requires.there, c.place_by-left.ensures)

pub settle-requires-clause-rising : goal.settle-requires-clause-rising
settle-requires-clause-rising c =
    subst (λ (xs : Squares). is_rising xs ≡ true) (sym (left_out c.args.squares.now c.args.from _ c.requires.rising c.requires.there c.place_by-left.ensures))
    (is_rising-remove c.args.squares.now c.args.from c.requires.rising)

pub settle-requires-clause-free : goal.settle-requires-clause-free
settle-requires-clause-free c =
    subst (λ (xs : Squares). contains xs c.args.to ≡ false)
    (sym (left_out c.args.squares.now c.args.from _ c.requires.rising c.requires.there c.place_by-left.ensures))
    (contains-remove_out c.args.squares.now c.args.from c.args.to c.requires.free)

pub returns : goal.returns
returns c = c.settle.ensures ∙
    ap (λ (xs : Squares). insert xs c.args.to) (left_out c.args.squares.now c.args.from _ c.requires.rising c.requires.there c.place_by-left.ensures)
