use Rattle.std.proofs.Common.{◌≡◌, ◌+◌, sym, ap, subst, length}
use Rattle.entry_table.specs.Tables.{kept_of}
use Rattle.entry_table.proofs.Files.{files-fit}
use Rattle.catalog_core.specs.Catalogs.{table_of}
use Rattle.catalog_core.specs.IsTable.{IsTable}
use Rattle.catalog_core.specs.Results.{digests_of}
use Rattle.catalog_core.specs.Streams.{states_of}
use Rattle.catalog_core.specs.Table.{table_with}
use Rattle.catalog_core.proofs.Kept.{work-keeps}
use Rattle.catalog_core.proofs.catalog.Catalog.add_work.Goals as goal

pub apply_work-requires-clause-ids : goal.apply_work-requires-clause-ids
apply_work-requires-clause-ids c =
    let t = c.args.self.now in
    files-fit (kept_of t.kept).next_id t.next_file c.args.kept t.sound.ids t.sound.last_file c.requires.fits.results.results.kept.files

pub invariant_of-self : goal.invariant_of-self
invariant_of-self c =
    let t = c.args.self.now in
    let states = states_of t.streams.items in
    let count : length c.items.result.now ≡ length c.args.kept = ap length c.items.ensures in
    let worked = c.apply_work.ensures (digests_of states) c.requires.room.1.1 in
    record {
      named = t.named;
      kinds = t.kinds;
      counted = t.counted;
      sound = subst IsTable (sym (λ i. table_with (t.tick + 1) (t.next_file + count i) (worked i).next_id states (c.store_any.ensures i) (worked i).entries))
          (work-keeps c.args.program c.args.reads.now c.args.dropped.now c.args.kept (table_of t) c.requires.fits t.sound);
    }

pub returns : goal.returns
returns c =
    let t = c.args.self.now in
    let states = states_of t.streams.items in
    let count : length c.items.result.now ≡ length c.args.kept = ap length c.items.ensures in
    let worked = c.apply_work.ensures (digests_of states) c.requires.room.1.1 in
    λ i. table_with (t.tick + 1) (t.next_file + count i) (worked i).next_id states (c.store_any.ensures i) (worked i).entries
