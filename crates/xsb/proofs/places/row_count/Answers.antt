use Rattle.std.proofs.Common.{◌==◌, length, nat_lt, rules, tests}
use Rattle.std.proofs.lemmas.Iterator.Consumers.{YieldsList-from_filter, count_from_yields_List}
use Rattle.std.proofs.lemmas.Iterator.Splits.{YieldsList-from_slice_split}
use Rattle.xsb.specs.inside.Bytes.{bar}
use Rattle.xsb.proofs.places.row_count.Goals as goal

pub returns : goal.returns
returns c =
    count_from_yields_List _ c.count.result c.count.ensures.ran
    (YieldsList-from_filter _ (λ piece. nat_lt 0 (length piece))
    (YieldsList-from_slice_split _ (λ b. b == bar) c.args.line.now (cc) (cc) (cc) (λ x b q k. search rules))
    (cc) (λ x b q k. search (rules, tests)))
