-- What a plan over one stream has made of the extents that have come.
use Rattle.std.specs.Prelude.{◌≡◌, refl, ℕ, ◌<◌, ◌≤◌, List, [], ◌∷◌, length, IsSome, Result, Ok, Err}
use Rattle.std.specs.Coded.{Coded, code_by, coded×, coded_ℕ, coded_result}
use Rattle.rows_core.specs.declared.overflow.Overflow.{Overflow}
use Rattle.scalar_ops.specs.Meaning.{overflow}
use Rattle.row_blob.specs.contracts.kept.Kept as a_kept
use Rattle.row_blob.specs.declared.kept.Kept.{Kept}
use Rattle.row_blob.specs.declared.kept.Kept.TheVariants as kept
use Rattle.plan_core.specs.Columns.{Rows}
use Rattle.plan_core.specs.PlainPlan.{PlainPlan, leaves}
use Rattle.plan_core.specs.PlanCode.{plan_code}
use Rattle.plan_core.specs.PlanTyping.{Kinds, plan_kinds}
use Rattle.plan_core.specs.TypedRows.{AreOfStreams}
use Rattle.growth_laws.specs.Growth.{Made, whole_made}
use Rattle.result_ops.specs.declared.made.Made as code
use Rattle.result_ops.specs.Bounds.{limit}
use Rattle.result_ops.specs.Fitting.{IsFit}
use Rattle.result_ops.specs.Steps.{made_of}
use Rattle.result_ops.specs.contracts.stop.Stop as a_stop
use Rattle.result_ops.specs.declared.stop.Stop.{Stop}
use Rattle.result_ops.specs.declared.stop.Stop.TheVariants as stop

-- the plan, and what has come of the rows so far: what is made of them, or why that has stopped
pub record Gathered : Type 0 where
  pub plan : PlainPlan
  pub came : Result Made Stop

-- what is given of all rows is this, with a machine time within the limit and of the form that the plan's result has; or
-- it is so many rows that the machine time is above the limit; or it is the overflow
abbrev pub ComesTo : List Kinds → PlainPlan → Result Made Overflow → Result Made Stop → Type 0
ComesTo schemas plan given (Ok made) = (given ≡ Ok made) × (made.taken_in < limit) × IsFit schemas plan made.kept
ComesTo schemas plan given (Err stop.Machine) = (made : Made) × (given ≡ Ok made) × (limit ≤ made.taken_in)
ComesTo schemas plan given (Err stop.Overflow) = given ≡ Err overflow

-- over streams of these kinds, these rows of its stream were fed
pub record Gathers (schemas : List Kinds) (fed : Rows) (gathering : Gathered) : Type 0 where
  pub typed : IsSome (plan_kinds schemas gathering.plan)
  pub of_stream : AreOfStreams schemas (leaves gathering.plan) (fed ∷ [])
  pub comes : ComesTo schemas gathering.plan (whole_made gathering.plan (fed ∷ [])) gathering.came

-- how many rows or groups it keeps; none once it has stopped
abbrev pub kept_length : Kept → ℕ
kept_length (kept.Rows rows) = length rows
kept_length (kept.Groups groups) = length groups
kept_length (kept.Tagged lefts rows) = length rows

abbrev pub held_by : Result Made Stop → ℕ
held_by (Ok made) = kept_length made.kept
held_by (Err s) = 0

-- as the laws of growth see it
abbrev pub came_as : Result code.Made Stop → Result Made Stop
came_as (Ok made) = Ok (made_of made)
came_as (Err s) = Err s

-- ---- the values may be told apart, being pairs of what may

abbrev pub made_code : Coded Made
made_code = code_by (Kept × ℕ) (coded× a_kept.the_row.coded coded_ℕ) (λ m. (m.kept, m.taken_in)) (λ p. record { kept = p.0; taken_in = p.1 }) (λ _. refl)

abbrev pub gathered_code : Coded Gathered
gathered_code =
    code_by (PlainPlan × Result Made Stop) (coded× plan_code (coded_result made_code a_stop.the_row.coded)) (λ g. (g.plan, g.came))
    (λ p. record { plan = p.0; came = p.1 }) (λ _. refl)
