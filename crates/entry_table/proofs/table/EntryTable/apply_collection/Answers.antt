use Rattle.std.proofs.Common.{sym, subst, List}
use Rattle.catalog_types.specs.PlainEntry.{PlainEntry}
use Rattle.cache_index.specs.Index.{IsIndexOf}
use Rattle.entry_table.specs.AreKept.{AreKept}
use Rattle.entry_table.specs.Tables.{kept_of}
use Rattle.entry_table.proofs.Growth.{collection-keeps}
use Rattle.entry_table.proofs.table.EntryTable.apply_collection.Goals as goal

pub invariant_of-self : goal.invariant_of-self
invariant_of-self c =
    let t = c.args.self.now in
    record {
      sound = subst (λ (es : List PlainEntry). AreKept (record { next_id = t.next_id; entries = es })) (sym c.drop_entries.ensures.entries) (collection-keeps c.args.ids.now (kept_of t) t.sound);
      indexed = subst (λ (es : List PlainEntry). IsIndexOf es c.remove_all.new.self) (sym c.drop_entries.ensures.entries) (c.remove_all.ensures.index t.entries.items t.indexed);
    }
