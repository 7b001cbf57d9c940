use Rattle.claims.proofs.Opening.{opens}
use Rattle.claims.proofs.ledger.Ledger.new.Goals as goal

pub of_words-requires : goal.of_words-requires
of_words-requires c = opens c.args.len c.ranges.len.fits
