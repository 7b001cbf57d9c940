use Rattle.std.proofs.Common.{length-append, arith}
use Rattle.xsb.proofs.RowLines.{cols_of-append}
use Rattle.xsb.proofs.sizes.Size.with.Goals as goal

pub returns : goal.returns
returns c = λ rows others is more.
    let a = is.row_count in let b = is.col_count in let d = more.row_count in let e = more.col_count in
    let long = length-append rows others in let wide = cols_of-append rows others in
    let f = c.saturating_add.ensures in let g = c.max.ensures in
    record { row_count = omega arith; col_count = omega arith }
