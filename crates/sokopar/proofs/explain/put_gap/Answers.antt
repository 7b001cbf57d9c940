-- The line of the next broken row is added, or it is passed over.
use Rattle.std.proofs.Common.{false, refl}
use Rattle.sokopar.proofs.Explanations.{page-broken, page-passed}
use Rattle.sokopar.proofs.explain.put_gap.Goals as goal

pub rows-preserved-then-shown : goal.rows-preserved-then-shown
rows-preserved-then-shown c = λ bytes wanted listing before.
    let is = c.rows.invariant bytes wanted listing before in
    page-broken _ _ c.in-Some.row is c.in-Some.is (record {
      rest = c.next_row-broken.ensures.on bytes is.broken.rest;
      first = c.next_row-broken.ensures.row bytes is.broken.rest;
    }) (λ i. record { text = c.in_ok-put_broken.ensures i; sound = false; lost = c.rows.page.lost })

pub rows-preserved : goal.rows-preserved
rows-preserved c = λ bytes wanted listing before.
    let is = c.rows.invariant bytes wanted listing before in
    page-passed _ _ is (record {
      rest = c.next_row-broken.ensures.on bytes is.broken.rest;
      first = c.next_row-broken.ensures.row bytes is.broken.rest;
    }) refl
