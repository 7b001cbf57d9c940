use Rattle.std.proofs.Common.{length, refl}
use Rattle.store.proofs.Bytes.{made}
use Rattle.store.proofs.key.Key.of.Goals as goal

pub invariant_of-result : goal.invariant_of-result
invariant_of-result g c = (
  c.requires.width,
  (made g.row.N g.row.M
      (length c.boxes-boxes.result.now) c.player-player.result c.write_rows.new.low c.write_rows.new.high c.boxes-boxes.result.now c.args.position.now
      c.requires.suits c.boxes-boxes.ensures.squares c.player-player.ensures c.boxes-boxes.ensures.rising refl c.write_rows.ensures.low
      c.write_rows.ensures.high).0,
)

pub returns : goal.returns
returns g c =
    (made g.row.N g.row.M (length c.boxes-boxes.result.now) c.player-player.result c.write_rows.new.low c.write_rows.new.high c.boxes-boxes.result.now
    c.args.position.now c.requires.suits c.boxes-boxes.ensures.squares c.player-player.ensures c.boxes-boxes.ensures.rising refl c.write_rows.ensures.low
    c.write_rows.ensures.high).1
