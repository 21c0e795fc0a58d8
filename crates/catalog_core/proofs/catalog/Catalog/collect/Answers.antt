use Rattle.std.proofs.Common.{◌+◌, sym, subst}
use Rattle.catalog_core.specs.Catalogs.{table_of}
use Rattle.catalog_core.specs.IsTable.{IsTable}
use Rattle.catalog_core.specs.Streams.{states_of}
use Rattle.catalog_core.specs.Table.{table_with}
use Rattle.catalog_core.proofs.Kept.{collection-keeps}
use Rattle.catalog_core.proofs.catalog.Catalog.collect.Goals as goal

pub invariant_of-self : goal.invariant_of-self
invariant_of-self c =
    let t = c.args.self.now in
    let gone = c.apply_collection.ensures in
    record {
      named = t.named;
      kinds = t.kinds;
      counted = t.counted;
      sound = subst IsTable (sym (λ i. table_with (t.tick + 1) t.next_file (gone i).next_id (states_of t.streams.items) t.programs.items (gone i).entries))
          (collection-keeps c.args.ids.now (table_of t) c.requires t.sound);
    }

pub returns : goal.returns
returns c =
    let t = c.args.self.now in
    let gone = c.apply_collection.ensures in
    λ i. table_with (t.tick + 1) t.next_file (gone i).next_id (states_of t.streams.items) t.programs.items (gone i).entries
