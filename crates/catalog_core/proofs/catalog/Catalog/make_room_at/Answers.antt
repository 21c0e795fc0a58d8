use Rattle.std.proofs.Common.{◌<◌, length, ◌∙◌, sym, ap, subst, List, arith}
use Rattle.catalog_types.specs.declared.snapshot.StreamState.{StreamState}
use Rattle.entry_table.specs.Tables.{kept_of}
use Rattle.catalog_core.specs.IsTable.{IsTable}
use Rattle.catalog_core.specs.Programs.{kinds_of_streams}
use Rattle.catalog_core.specs.Table.{table_with, extent_count}
use Rattle.catalog_core.proofs.Growth.{as-many-states, states-kept, names-kept, room-kept}
use Rattle.catalog_core.proofs.catalog.Catalog.make_room_at.Goals as goal

pub invariant_of-self : goal.invariant_of-self
invariant_of-self c =
    let t = c.args.self.now in
    let many = as-many-states t.streams.items in
    let low : c.args.place < length t.streams.items = omega (arith, many, c.requires) in
    let states = states-kept t.streams.items c.args.place c.index_mut.result.now c.make_room.new.self low c.index_mut.ensures.value c.make_room.ensures.same in
    record {
      named = t.named ∙ sym (names-kept t.streams.items c.args.place c.index_mut.result.now c.make_room.new.self low c.index_mut.ensures.value (ap (λ (s : StreamState). s.name) c.make_room.ensures.same));
      kinds = t.kinds ∙ sym (ap kinds_of_streams states);
      counted = t.counted ∙ sym (ap extent_count states);
      sound = subst (λ (streams : List StreamState). IsTable (table_with t.tick t.next_file (kept_of t.kept).next_id streams t.programs.items (kept_of t.kept).entries)) (sym states) t.sound;
    }

pub returns-clause-same : goal.returns-clause-same
returns-clause-same c =
    let t = c.args.self.now in
    let many = as-many-states t.streams.items in
    let low : c.args.place < length t.streams.items = omega (arith, many, c.requires) in
    ap (λ (streams : List StreamState). table_with t.tick t.next_file (kept_of t.kept).next_id streams t.programs.items (kept_of t.kept).entries)
    (states-kept t.streams.items c.args.place c.index_mut.result.now c.make_room.new.self low c.index_mut.ensures.value c.make_room.ensures.same)

pub returns-clause-room : goal.returns-clause-room
returns-clause-room c =
    let t = c.args.self.now in
    let many = as-many-states t.streams.items in
    let low : c.args.place < length t.streams.items = omega (arith, many, c.requires) in
    room-kept t.streams.items c.args.place c.make_room.new.self c.make_room.result low c.make_room.ensures.room
