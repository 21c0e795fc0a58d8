-- The values so far are those of the fields so far, without a long text.
use Rattle.std.proofs.Common.{◌≡◌, ◌++◌, length}
use Rattle.std.specs.List.{AllByRecursion}
use Rattle.std.specs.Vec.Iter.{into_iter_items, into_iter_len}
use Rattle.row_text.specs.RowSpelling.{IsShort}
use Rattle.row_text.specs.Fields.{values_of}
use Rattle.row_text.proofs.read.row_of.Given as goal

abbrev pub invariant-loop-field : goal.invariant-loop-field
invariant-loop-field l = record {
  whole : l.yielded ++ into_iter_items l.field-iterator ≡ l.fn.fields.items;
  left : into_iter_len l.field-iterator ≡ length (into_iter_items l.field-iterator);
  values : l.values.items ≡ values_of l.yielded;
  short : AllByRecursion IsShort l.values.items;
}
