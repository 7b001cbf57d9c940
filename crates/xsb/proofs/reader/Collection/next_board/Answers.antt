use Rattle.std.proofs.Common.{subst}
use Rattle.xsb.specs.inside.Sources.{Takes}
use Rattle.xsb.proofs.reader.Collection.next_board.Goals as goal

pub returns-in_default-clause-next : goal.returns-in_default-clause-next
returns-in_default-clause-next c = λ bytes founds has.
    subst (λ n. Takes bytes founds c.args.self.now n) c.in_default.is (c.in_ok-entry.ensures.next bytes founds has)

pub returns-clause-next : goal.returns-clause-next
returns-clause-next c = λ bytes founds has.
    let taken = subst (λ n. Takes bytes founds c.args.self.now n) c.in-Some.is (c.in_ok-entry.ensures.next bytes founds has) in
    (taken.0, taken.1, taken.2)
