use Rattle.std.proofs.Common.{subst}
use Rattle.xsb.specs.inside.Sources.{Takes}
use Rattle.xsb.proofs.RowPlaces.{HasSource-taken}
use Rattle.xsb.proofs.BoardByBoard.{HasRows-read}
use Rattle.xsb.proofs.reader.Collection.next_source.Goals as goal

pub returns-in_default-clause-next : goal.returns-in_default-clause-next
returns-in_default-clause-next c = λ bytes founds has here.
    subst (λ n. Takes bytes founds c.args.self.now n) c.in_default.is (c.in_ok-entry.ensures.next bytes founds has)

pub returns-clause-next : goal.returns-clause-next
returns-clause-next c = λ bytes founds has here.
    let taken = subst (λ n. Takes bytes founds c.args.self.now n) c.in-Some.is (c.in_ok-entry.ensures.next bytes founds has) in
    let is = taken.3 in (
      taken.0,
      taken.1,
      taken.2,
      is.onward bytes here,
      HasSource-taken bytes here is c.in_ok-rows.rows (c.in_ok-rows.ensures is.read.rows (HasRows-read is.read)),
    )
