-- The steps in which groups are finished.
use Rattle.std.specs.Prelude.{◌<◌, ◌≤◌, ◌^◌, pos, List, ◌++◌, Result, Ok, FitsSigned}
use Rattle.std.specs.Int.{w64}
use Rattle.rows_core.specs.declared.overflow.Overflow.{Overflow}
use Rattle.scalar_ops.specs.Division.{floor_div}
use Rattle.row_blob.specs.declared.kept.Acc.{Acc}
use Rattle.row_blob.specs.declared.kept.Acc.TheVariants as acc
use Rattle.row_blob.specs.Kept.{IsSum}
use Rattle.plan_core.specs.ExpressionValue.{◌>>=◌}

-- what stands so far, and then the others
abbrev pub onto : {A : Type 0} → List A → Result (List A) Overflow → Result (List A) Overflow
onto sofar others = do
  rest ← others
  Ok (sofar ++ rest)

-- its count, and its average, are numbers of a row
abbrev pub HasValue : Acc → Type 0
HasValue (acc.Count n) = n < 2 ^ 63
HasValue (acc.Avg s n) = (1 ≤ n) × (n < 2 ^ 63) × IsSum s × FitsSigned w64 (floor_div s (pos n))
HasValue _ = Unit {0}
