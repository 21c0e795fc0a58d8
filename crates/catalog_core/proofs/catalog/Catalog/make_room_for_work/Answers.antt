use Rattle.std.proofs.Common.{◌∙◌, sym, ap, subst, List}
use Rattle.catalog_types.specs.declared.program.Program.{Program}
use Rattle.entry_table.specs.Tables.{kept_of}
use Rattle.catalog_core.specs.IsTable.{IsTable}
use Rattle.catalog_core.specs.Programs.{kinds_of_streams}
use Rattle.catalog_core.specs.Streams.{states_of}
use Rattle.catalog_core.specs.Table.{table_with, extent_count}
use Rattle.catalog_core.proofs.Growth.{names-stay}
use Rattle.catalog_core.proofs.Nested.{all-three}
use Rattle.catalog_core.proofs.catalog.Catalog.make_room_for_work.Goals as goal

pub invariant_of-self : goal.invariant_of-self
invariant_of-self c =
    let t = c.args.self.now in
    record {
      named = t.named;
      kinds = t.kinds;
      counted = t.counted;
      sound = subst (λ (programs : List Program). IsTable (table_with t.tick t.next_file (kept_of t.kept).next_id (states_of t.streams.items) programs (kept_of t.kept).entries)) (sym c.make_room_to_store.ensures.same) t.sound;
    }

pub invariant_of-self-2 : goal.invariant_of-self-2
invariant_of-self-2 c =
    let t = c.args.self.now in
    let made = c.make_room_for_results in
    record {
      named = t.named ∙ names-stay t.streams.items made.new.streams.items made.ensures.streams;
      kinds = t.kinds ∙ sym (ap kinds_of_streams made.ensures.streams);
      counted = t.counted ∙ sym (ap extent_count made.ensures.streams);
      sound = subst IsTable
          (sym (λ i. table_with t.tick t.next_file (made.ensures.same i).next_id (made.ensures.streams i) (c.make_room_to_store.ensures.same i) (made.ensures.same i).entries))
          t.sound;
    }

pub returns-clause-same : goal.returns-clause-same
returns-clause-same c =
    let t = c.args.self.now in
    let made = c.make_room_for_results.ensures in
    λ i. table_with t.tick t.next_file (made.same i).next_id (made.streams i) (c.make_room_to_store.ensures.same i) (made.same i).entries

pub returns-clause-room : goal.returns-clause-room
returns-clause-room c =
    let made = c.make_room_for_results in
    all-three _ _ _ made.result c.in_ok-make_room_to_store.ensures.room made.ensures.room made.ensures.keys
