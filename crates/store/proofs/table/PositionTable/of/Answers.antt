use Rattle.std.proofs.Common.{rules}
use Rattle.store.proofs.Bytes.{suits}
use Rattle.store.proofs.table.PositionTable.of.Goals as goal

pub of-requires : goal.of-requires
of-requires g c = (search rules, (c.requires.width, suits g.row.N g.row.M c.args.boxes c.args.squares c.in-Some.position c.requires.suits (search rules)))
