use Rattle.grid.proofs.Words.{four_written}
use Rattle.grid.proofs.hashing.hash_squares.Goals as goal

pub loop-boxes-preserved : goal.loop-boxes-preserved
loop-boxes-preserved g c =
    four_written g.H.Hasher.write c.loop-boxes.state c.write_u64.new.self _ c.loop-boxes.boxes.now c.args.player c.a-item.result c.b-item.result c.c-item.result
    c.d-item.result c.word_of.result c.in-len4-up.len_at_least c.a-item.is c.b-item.is c.c-item.is c.d-item.is c.word_of.ensures c.write_u64.ensures
    c.loop-boxes.invariant
