use Rattle.layers.proofs.Joined.{few_last}
use Rattle.layers.proofs.join.join_all.Goals as goal

pub merged_rows-requires-clause-few : goal.merged_rows-requires-clause-few
merged_rows-requires-clause-few c = few_last c.args.books.now c.requires.all c.tell_all.ensures
