-- The entries and the files so far, and then those of the others.
use Rattle.std.proofs.Common.{◌≡◌, ◌++◌, length}
use Rattle.std.specs.List.{AllByRecursion}
use Rattle.std.specs.Vec.Iter.{into_iter_items, into_iter_len}
use Rattle.catalog_types.specs.PlainEntry.{PlainNewEntry}
use Rattle.admission.specs.Admitting.{entries_of}
use Rattle.record_codec.specs.Spelling.{IsNumber}
use Rattle.work_plan.specs.Planning.{files_of}
use Rattle.work_plan.proofs.parting.taken_apart.Given as goal

abbrev pub invariant-loop-new : goal.invariant-loop-new
invariant-loop-new l = record {
  left : into_iter_len l.new-iterator ≡ length (into_iter_items l.new-iterator);
  entries : entries_of l.fn.admitted.items ≡ l.entries.items ++ entries_of (into_iter_items l.new-iterator);
  files : files_of l.fn.admitted.items ≡ l.files.items ++ files_of (into_iter_items l.new-iterator);
  numbers : AllByRecursion (λ (new : PlainNewEntry). IsNumber new.machine) l.entries.items;
}
