-- The entries so far, and then those of the results that are left, with as many keys and ids, and room for them.
use Rattle.std.proofs.Common.{◌≡◌, ◌+◌, ◌≤◌, ◌++◌, length, vec_capacity}
use Rattle.std.specs.Vec.Iter.{into_iter_items, into_iter_len}
use Rattle.entry_table.specs.Keying.{keyed_entries}
use Rattle.entry_table.proofs.uses.add_entries.Given as goal

abbrev pub invariant-loop-new : goal.invariant-loop-new
invariant-loop-new l = record {
  left : into_iter_len l.new-iterator ≡ length (into_iter_items l.new-iterator);
  many : length l.next_keys ≡ length (into_iter_items l.new-iterator);
  ids : l.id + length (into_iter_items l.new-iterator) ≤ 4294967296;
  room : length l.entries.items + length (into_iter_items l.new-iterator) ≤ vec_capacity l.entries;
  made :
      l.entries.items ++ keyed_entries l.tick l.id l.next_keys (into_iter_items l.new-iterator)
      ≡ l.initial.entries.items ++ keyed_entries l.tick l.first_id l.fn.keys l.fn.kept.items;
}
