use Rattle.std.proofs.Common.{◌∙◌, ◌++◌, sym, ap}
use Rattle.xsb.proofs.FirstItem.{begins-with_item, cut-at_digits, no-item_empty, no-item_cell, no-item_count}
use Rattle.xsb.proofs.items.first_item.Goals as goal

pub times-requires : goal.times-requires
times-requires c = (cut-at_digits _ _ _ _ c.digit_count.ensures.count c.split_at.ensures.front c.split_at.ensures.back).decimal

pub returns-in_err-byte : goal.returns-in_err-byte
returns-in_err-byte c = rw c.from_residual.ensures
    (no-item_empty (cut-at_digits _ _ _ _ c.digit_count.ensures.count c.split_at.ensures.front c.split_at.ensures.back) c.in_err-byte.ensures.cases)

pub returns-in_err-cell : goal.returns-in_err-cell
returns-in_err-cell c = rw c.from_residual-in_err-cell.ensures
    (no-item_cell c.in_ok-byte.byte.now c.in_ok-byte.rest.now
    (cut-at_digits _ _ _ _ c.digit_count.ensures.count c.split_at.ensures.front c.split_at.ensures.back) c.in_ok-byte.ensures.cases.0 (sym c.cell_of.ensures ∙
    c.in_err-cell.was))

pub returns-in_err-count : goal.returns-in_err-count
returns-in_err-count c = rw c.from_residual-in_err-count.ensures
    (no-item_count (cut-at_digits _ _ _ _ c.digit_count.ensures.count c.split_at.ensures.front c.split_at.ensures.back) c.in_err-count.ensures.none)

pub returns : goal.returns
returns c =
    let is = cut-at_digits _ _ _ _ c.digit_count.ensures.count c.split_at.ensures.front c.split_at.ensures.back in
    begins-with_item _ _ _ c.in_ok-byte.byte.now c.in_ok-count.count c.in_ok-cell.cell (is.whole ∙
    ap (λ r. c.split_at.result.0.now ++ r) c.in_ok-byte.ensures.cases.0) c.in_ok-count.ensures.some (sym c.cell_of.ensures ∙ c.in_ok-cell.was)
