use Rattle.std.proofs.Common.{◌≡◌, false, true, sym, ap, subst, ◌∙◌}
use Rattle.std.specs.List.{remove as remove_at}
use Rattle.grid.specs.Squares.{Squares, contains, insert}
use Rattle.grid.specs.Rising.{is_rising}
use Rattle.grid.proofs.Settle.{settled}
use Rattle.grid.proofs.position.settle.Goals as goal

pub returns : goal.returns
returns c =
    let q = c.args.square in
    let xs = c.greater_up-hole.new.squares in
    let others : remove_at xs c.greater_up-hole.result ≡ remove_at c.args.squares.now c.args.place = c.greater_up-hole.ensures.others ∙
    c.lesser_down-hole.ensures.others in
    let rising = subst (λ (ys : Squares). is_rising ys ≡ true) (sym others) c.requires.rising in
    let free = subst (λ (ys : Squares). contains ys q ≡ false) (sym others) c.requires.free in
    settled xs c.greater_up-hole.result q c.greater_up-hole.ensures.inside rising free c.greater_up-hole.ensures.before c.greater_up-hole.ensures.after
    ∙ ap (λ (ys : Squares). insert ys q) others
