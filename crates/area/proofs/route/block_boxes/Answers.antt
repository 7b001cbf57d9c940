use Rattle.std.proofs.Common.{rules, arith}
use Rattle.area.proofs.UnderWay.{cleared}
use Rattle.area.proofs.route.block_boxes.Goals as goal

pub loop-i-init : goal.loop-i-init
loop-i-init c = λ q. (
  λ there lt. absurd (omega (arith, lt)),
  λ out. (let none = cleared c.fill.new.self _ q (c.fill.ensures.after (search rules)) in omega (arith, none)),
)
