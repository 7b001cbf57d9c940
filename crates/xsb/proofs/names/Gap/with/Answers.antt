use Rattle.xsb.proofs.GapNames.{IsGap-more}
use Rattle.xsb.proofs.names.Gap.with.Goals as goal

pub returns : goal.returns
returns c = IsGap-more c.args.self _ _ _ _ _ c.after_prefix.ensures c.after_prefix-2.ensures c.or.ensures c.or-2.ensures
