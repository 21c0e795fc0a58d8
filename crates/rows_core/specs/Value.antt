-- Kinds, equality and order of values.
use Rattle.std.specs.Prelude.{Bool, false, List, bytes_eq}
use Rattle.std.specs.Bool.{beq}
use Rattle.std.specs.Ordering.{nat_cmp, int_cmp, int_eq, bool_cmp}
use Rattle.std.specs.declared.cmp.Ordering.{Ordering}
use Rattle.std.specs.declared.cmp.Ordering.TheVariants.{Less, Greater}
use Rattle.std.specs.Cmp.Lexicographic.{pointwise, slice_cmp}
use Rattle.rows_core.specs.declared.kind.Kind as kind
use Rattle.rows_core.specs.declared.kind.Kind.TheVariants as the_kind
use Rattle.rows_core.specs.declared.value.Value.{Value}
use Rattle.rows_core.specs.declared.value.Value.TheVariants as value

abbrev pub kind_of : Value → kind.Kind
kind_of (value.Int _) = the_kind.Int
kind_of (value.Text _) = the_kind.Text
kind_of (value.Bool _) = the_kind.Bool

-- whether two values are equal, a test that computes
abbrev pub value_eq : Value → Value → Bool
value_eq (value.Int a) (value.Int b) = int_eq a b
value_eq (value.Text s) (value.Text t) = bytes_eq s t
value_eq (value.Bool a) (value.Bool b) = beq a b
value_eq _ _ = false

-- whether two rows are equal
abbrev pub row_eq : List Value → List Value → Bool
row_eq = pointwise value_eq

-- numbers by value, texts by bytes, `false` before `true`; a number before a text, and a text before a truth value
abbrev pub value_cmp : Value → Value → Ordering
value_cmp (value.Int a) (value.Int b) = int_cmp a b
value_cmp (value.Text s) (value.Text t) = slice_cmp nat_cmp s t
value_cmp (value.Bool a) (value.Bool b) = bool_cmp a b
value_cmp (value.Int a) _ = Less
value_cmp _ (value.Int b) = Greater
value_cmp (value.Text s) (value.Bool b) = Less
value_cmp (value.Bool a) (value.Text t) = Greater
