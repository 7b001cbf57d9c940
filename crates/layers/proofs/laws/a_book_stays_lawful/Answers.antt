use Rattle.layers.proofs.Histories.{history_lawful, history_made, history_closed}
use Rattle.layers.proofs.laws.a_book_stays_lawful.Goals as goal

pub returns-clause-lawful : goal.returns-clause-lawful
returns-clause-lawful c = history_lawful

pub returns-clause-made : goal.returns-clause-made
returns-clause-made c = history_made

pub returns-clause-closed : goal.returns-clause-closed
returns-clause-closed c = history_closed
