-- Values, rows and lists of rows that a program holds and a file keeps: numbers in i64 and texts of at most 1,000 bytes.
use Rattle.std.specs.Prelude.{List, length, ◌<◌, ◌^◌, FitsSigned}
use Rattle.std.specs.Int.{w64}
use Rattle.std.specs.List.{AllByRecursion}
use Rattle.rows_core.specs.declared.value.Value.{Value}
use Rattle.rows_core.specs.declared.value.Value.TheVariants.{Int, Text, Bool}
use Rattle.rows_core.specs.Txt.{IsTxt}
use Rattle.plan_core.specs.Columns.{Row, Rows}

abbrev pub IsValid : Value → Type 0
IsValid (Int n) = FitsSigned w64 n
IsValid (Text t) = IsTxt t
IsValid (Bool b) = Unit {0}

abbrev pub IsValidRow : Row → Type 0
IsValidRow = AllByRecursion IsValid

abbrev pub AreValidRows : Rows → Type 0
AreValidRows = AllByRecursion IsValidRow

abbrev pub AreValidLists : List Rows → Type 0
AreValidLists = AllByRecursion AreValidRows

-- lists that memory can hold
abbrev pub AreShortLists : List Rows → Type 0
AreShortLists = AllByRecursion (λ rows. length rows < 2 ^ 64)
