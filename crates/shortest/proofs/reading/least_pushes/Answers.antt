use Rattle.std.proofs.Common.{◌≡◌, ◌≤◌, suc, ◌++◌, ◌∷◌, [], List, length, rules, Option, sym, ap, subst, arith}
use Rattle.std.proofs.lemmas.Option.{slice_get_within}
use Rattle.std.proofs.lemmas.List.{length-append}
use Rattle.grid.specs.declared.square.Push.{Push}
use Rattle.shortest.specs.declared.ways.Way.{Way}
use Rattle.shortest.specs.inside.Resting.{IsReading, IsRestOf, moves_of}
use Rattle.shortest.proofs.Ends.{reading_begun, reading_count, reading_onward, reading_more, reading_done, way_exists}
use Rattle.shortest.proofs.reading.least_pushes.Goals as goal

pub loop-from-init : goal.loop-from-init
loop-from-init c =
    let v = c.args.states.now in
    let items : [] ≡ c.new-pushes.result.items = search rules in
    let (total, first, reading) = reading_begun v c.args.rests.now c.tell.ensures c.requires.some c.requires.rests in
    record {
      reading = (total, first, subst (λ (ps : List Push). IsReading v.board v.entries c.args.rests.now total 0 ps) items reading);
      few = (let none = ap length items in omega (arith, none));
      size = c.requires.size;
      room = c.requires.room;
    }

pub at-from-requires : goal.at-from-requires
at-from-requires c =
    let (total, first, reading) = c.loop-from.invariant.reading in
    slice_get_within c.args.states.now.entries c.loop-from.place reading.entry reading.at

pub best_way-requires-clause-onward : goal.best_way-requires-clause-onward
best_way-requires-clause-onward c =
    let v = c.args.states.now in
    let from = c.at-from.result in
    let (total, first, reading) = c.loop-from.invariant.reading in
    let count = reading_count v from.pushes from.state c.requires.rests reading c.at-from.ensures in
    let long : c.len.result ≡ length c.loop-from.pushes.items = search rules in
    reading_onward v from.pushes from.state c.requires.rests reading c.at-from.ensures (omega (arith, count, long))

pub unreachable-requires : goal.unreachable-requires
unreachable-requires c =
    let v = c.args.states.now in
    let from = c.at-from.result in
    let (total, first, reading) = c.loop-from.invariant.reading in
    let count = reading_count v from.pushes from.state c.requires.rests reading c.at-from.ensures in
    let long : c.len.result ≡ length c.loop-from.pushes.items = search rules in
    way_exists v from.pushes from.state c.requires.rests reading c.at-from.ensures (omega (arith, count, long))
    (λ m sum. subst (λ (o : Option Way). IsRestOf v.board (suc m) from.state (moves_of o)) c.in_default.is
    (c.best_way.ensures.rest m sum))

pub loop-from-preserved : goal.loop-from-preserved
loop-from-preserved c =
    let v = c.args.states.now in
    let from = c.at-from.result in
    let way = c.in-Some.way in
    let read = c.loop-from.pushes.items in
    let (total, first, reading) = c.loop-from.invariant.reading in
    let count = reading_count v from.pushes from.state c.requires.rests reading c.at-from.ensures in
    let long : c.len.result ≡ length read = search rules in
    let items : c.push.new.self.items ≡ read ++ way.push ∷ [] = search rules in
    let more = reading_more v from.pushes from.state c.requires.rests reading c.at-from.ensures way c.tell.ensures
    (omega (arith, count, long)) c.in-Some.ensures.way
    (λ m sum. subst (λ (o : Option Way). IsRestOf v.board (suc m) from.state (moves_of o)) c.in-Some.is
    (c.best_way.ensures.rest m sum)) in
    record {
      reading = (
        total,
        first,
        subst (λ (ps : List Push). IsReading v.board v.entries c.args.rests.now total way.place ps) (sym items) more,
      );
      few = (let long = ap length items in let one = length-append read (way.push ∷ []) in omega (arith, long, one));
      size = search rules;
      room = search rules;
    }

pub returns-clause-pushes : goal.returns-clause-pushes
returns-clause-pushes c =
    let v = c.args.states.now in
    let read = c.loop-from.pushes.items in
    let (total, first, reading) = c.loop-from.invariant.reading in
    let count : c.len.result ≡ length read = search rules in
    let enough : v.most ≤ length read = omega (arith, count) in
    let (all, finishes) = reading_done v c.args.rests.now total c.loop-from.place read c.tell.ensures c.requires.rests reading enough in
    (total, first, all, finishes)
