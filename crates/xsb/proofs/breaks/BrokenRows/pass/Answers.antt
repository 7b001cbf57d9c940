use Rattle.xsb.proofs.Breaking.{IsPastLine-next}
use Rattle.xsb.proofs.breaks.BrokenRows.pass.Goals as goal

pub returns-clause-past : goal.returns-clause-past
returns-clause-past c = λ bytes here.
    IsPastLine-next (record { lines = c.skip.new.self; after_row = c.is_row-self.result }) c.args.line.now here c.requires c.skip.ensures.rest c.skip.ensures.number
    c.is_row-self.ensures
