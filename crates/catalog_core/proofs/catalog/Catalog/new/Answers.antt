use Rattle.std.proofs.Common.{◌∙◌, sym, ap, map}
use Rattle.entry_table.specs.Tables.{kept_of}
use Rattle.catalog_core.specs.Programs.{kinds_of_streams}
use Rattle.catalog_core.specs.Streams.{name_of, states_of}
use Rattle.catalog_core.specs.Table.{table_with, extent_count}
use Rattle.catalog_core.proofs.Places.{first-table}
use Rattle.catalog_core.proofs.catalog.Catalog.new.Goals as goal

pub invariant_of-result : goal.invariant_of-result
invariant_of-result c = record {
  named = c.new-2.ensures.empty ∙ sym (ap (λ streams. map name_of streams) c.new.ensures.items);
  kinds = c.new-4.ensures ∙ c.new-3.ensures.items ∙ sym (ap (λ streams. kinds_of_streams (states_of streams)) c.new.ensures.items);
  counted = sym (ap (λ streams. extent_count (states_of streams)) c.new.ensures.items);
  sound = first-table c.new.result.items c.new-5.result.items (kept_of c.new-6.result) c.new.ensures.items c.new-5.ensures.items c.new-6.ensures;
}

pub returns : goal.returns
returns c = λ i. table_with 0 1 (c.new-6.ensures i).next_id (states_of (c.new.ensures.items i)) (c.new-5.ensures.items i) (c.new-6.ensures i).entries
