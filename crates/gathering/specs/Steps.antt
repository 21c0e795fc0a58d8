-- What comes of the rows of one extent.
use Rattle.std.specs.Prelude.{◌≡◌, ℕ, ◌-◌, ◌^◌, min, Result, Ok, Err}
use Rattle.rows_core.specs.declared.overflow.Overflow.{Overflow}
use Rattle.scalar_ops.specs.Meaning.{overflow}
use Rattle.plan_core.specs.declared.refusal.EvRefusal.{EvRefusal}
use Rattle.plan_core.specs.declared.refusal.EvRefusal.TheVariants as refusal
use Rattle.plan_core.specs.Columns.{Rows}
use Rattle.result_ops.specs.declared.made.Input.{Input}

-- a count of rows stands still at the greatest number of 64 bits
abbrev pub counted : ℕ → ℕ
counted n = min n (2 ^ 64 - 1)

-- the rows are these, and so many were taken in; or it is the overflow; want of memory may be answered in place of any answer
abbrev pub Passes : Result Rows Overflow → ℕ → Result Input EvRefusal → Type 0
Passes meaning taken_in (Ok input) = (meaning ≡ Ok input.rows.items) × (input.taken_in ≡ counted taken_in)
Passes meaning taken_in (Err refusal.Overflow) = meaning ≡ Err overflow
Passes meaning taken_in (Err refusal.Memory) = Unit {0}
