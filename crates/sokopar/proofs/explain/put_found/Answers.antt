-- The line of the level, the sentences, the further faults and the board are added.
use Rattle.std.proofs.Common.{Bool, ◌++◌, ◌&&◌, is_some, refl, sym, ap, ◌∙◌}
use Rattle.sokopar.specs.inside.Explaining.{board_in}
use Rattle.sokopar.proofs.Explanations.{tells-drawn, tells-nothing, tells-plain}
use Rattle.sokopar.proofs.Behind.{quiet_lawful}
use Rattle.sokopar.proofs.explain.put_found.Goals as goal

pub returns-then-is_quiet : goal.returns-then-is_quiet
returns-then-is_quiet c = λ n listed is same.
    let board = board_in c.args.rows.now in
    let quiet = sym c.is_quiet.ensures ∙ c.if-is_quiet.true in
    tells-nothing c.args.wanted n listed board c.args.rows.now.places.items c.args.remark.now c.args.exit.now c.args.page.now
    (quiet_lawful c.args.board.now board c.args.remark.now c.args.wanted c.requires.judged c.requires.remark quiet) c.requires.exit quiet

pub returns-then-is_drawn : goal.returns-then-is_drawn
returns-then-is_drawn c = λ n listed is same.
    let old = c.args.page.now in
    tells-drawn c.args.wanted n listed (board_in c.args.rows.now) c.args.rows.now.places.items c.args.remark.now (is_some c.args.exit.now) old
    (record { text = c.put_drawn.new.text; sound = old.sound && c.is_sound.result; lost = c.in_ok-lost.lost }) c.put.new.self c.put_remark.new.text
    c.put_further.new.text (sym c.is_quiet.ensures ∙ c.if-is_quiet.false) (c.in_ok-put.ensures.ok ∙ ap (λ h. old.text ++ h) (c.as_slice.ensures ∙ is))
    c.in_ok-put_remark.ensures c.in_ok-put_further.ensures (ap (λ (b : Bool). old.sound && b) c.is_sound.ensures) c.in_ok-lost.ensures
    c.put_drawn.result c.args.board.now (sym c.is_drawn.ensures ∙ c.if-is_drawn.true) same c.put_drawn.ensures

pub returns : goal.returns
returns c = λ n listed is same.
    let old = c.args.page.now in
    tells-plain c.args.wanted n listed (board_in c.args.rows.now) c.args.rows.now.places.items c.args.remark.now (is_some c.args.exit.now) old
    (record { text = c.put_further.new.text; sound = old.sound && c.is_sound.result; lost = c.in_ok-lost.lost }) c.put.new.self c.put_remark.new.text
    c.put_further.new.text (sym c.is_quiet.ensures ∙ c.if-is_quiet.false) (c.in_ok-put.ensures.ok ∙ ap (λ h. old.text ++ h) (c.as_slice.ensures ∙ is))
    c.in_ok-put_remark.ensures c.in_ok-put_further.ensures (ap (λ (b : Bool). old.sound && b) c.is_sound.ensures) c.in_ok-lost.ensures
    (sym c.is_drawn.ensures ∙ c.if-is_drawn.false) refl
