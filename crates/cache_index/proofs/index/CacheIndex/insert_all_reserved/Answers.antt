use Rattle.std.proofs.Common.{◌+◌, ◌-◌, ◌≤◌, length, arith}
use Rattle.cache_index.specs.Index.{HasRoom}
use Rattle.cache_index.proofs.Indexing.{index_next}
use Rattle.cache_index.proofs.Rooms.{room-fewer}
use Rattle.cache_index.proofs.index.CacheIndex.insert_all_reserved.Goals as goal

pub insert_reserved-requires : goal.insert_reserved-requires
insert_reserved-requires c =
    let l = c.loop-entry in
    let left = length c.args.entries.now - l.entry-index in
    let some : 1 ≤ left = omega (arith, c.loop-entry-test.true) in
    let has : HasRoom left l.self = l.invariant.room left (omega (arith, c.loop-entry-test.true)) in
    (room-fewer 1 left l.self.programs some has.0, room-fewer 1 left l.self.keys some has.1)

pub loop-entry-preserved : goal.loop-entry-preserved
loop-entry-preserved c =
    let l = c.loop-entry in
    record {
      room = λ more many. c.insert_reserved.ensures.room more (l.invariant.room (more + 1) (omega (arith, many)));
      index = λ before is. index_next before c.args.entries.now l.entry-index c.entry-item.result l.self c.insert_reserved.new.self c.loop-entry-test.true c.entry-item.is (l.invariant.index before is) c.insert_reserved.ensures.programs c.insert_reserved.ensures.keys;
    }
