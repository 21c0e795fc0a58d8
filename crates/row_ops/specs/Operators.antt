-- What an operator's answer says of a list of rows, and the value of a test.
use Rattle.std.specs.Prelude.{◌≡◌, Bool, Result, Ok, Err, Vec}
use Rattle.rows_core.specs.declared.overflow.Overflow.{Overflow}
use Rattle.scalar_ops.specs.Meaning.{overflow}
use Rattle.plan_core.specs.declared.refusal.EvRefusal.{EvRefusal}
use Rattle.plan_core.specs.declared.refusal.EvRefusal.TheVariants as refusal
use Rattle.plan_core.specs.Columns.{Row, Rows}
use Rattle.plan_core.specs.ExpressionValue.{◌>>=◌, expression_value, is_true}
use Rattle.plan_core.specs.PlainExpr.{PlainExpr}

-- the rows are the meaning, or it is the overflow; want of memory may be answered in place of any answer
abbrev pub Gives : {Z : Type 0} → Result (Vec Row Z) EvRefusal → Result Rows Overflow → Type 0
Gives (Ok given) meaning = meaning ≡ Ok given.items
Gives (Err refusal.Overflow) meaning = meaning ≡ Err overflow
Gives (Err refusal.Memory) meaning = Unit {0}

-- the value of a test
abbrev pub test_value : PlainExpr → Row → Result Bool Overflow
test_value test row = do
  cell ← expression_value test row
  Ok (is_true cell)
