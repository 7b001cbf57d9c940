use Rattle.layers.proofs.Histories.{closed_alike}
use Rattle.layers.proofs.laws.the_order_of_events_leaves_no_trace.Goals as goal

pub returns : goal.returns
returns c = closed_alike
