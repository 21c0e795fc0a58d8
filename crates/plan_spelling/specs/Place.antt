-- What a refusal says, and what reading gives.
use Rattle.std.specs.Prelude.{◌≡◌, ℕ, ◌+◌, ◌-◌, ◌<◌, ◌≤◌, List, ◌++◌, length, take, Result, Ok, Err}
use Rattle.plan_core.specs.declared.plan.Plan as code
use Rattle.plan_core.specs.PlainPlan.{PlainPlan, plan_of}
use Rattle.plan_core.specs.Nesting.{nesting}
use Rattle.byte_formats.specs.Format.{StopsAt}
use Rattle.plan_spelling.specs.declared.refusal.SpellRefusal.{SpellRefusal}
use Rattle.plan_spelling.specs.declared.refusal.SpellRefusal.TheVariants as refusal
use Rattle.plan_spelling.specs.Spelling.{plan_spelling, HasPlanSpelling}
use Rattle.plan_spelling.specs.Formats.{plan_format}

abbrev pub IsPlace : List ℕ → SpellRefusal → Type 0
IsPlace bytes refusal.Memory = Unit {0}
IsPlace bytes (refusal.NotPlan at) = StopsAt (plan_format 1024) bytes at

-- the spelling of some plan of a nesting up to 1,024 begins with these bytes
abbrev pub GoesOn : List ℕ → Type 0
GoesOn front = (plan : PlainPlan) × (HasPlanSpelling plan × (nesting plan ≤ 1024)) × ((more : List ℕ) × (plan_spelling plan ≡ front ++ more))

-- the first byte with which no spelling goes on: some begins with the bytes up to the place, and none with the byte there too
abbrev pub IsLast : List ℕ → SpellRefusal → Type 0
IsLast bytes refusal.Memory = Unit {0}
IsLast bytes (refusal.NotPlan at) = (at ≤ length bytes) × GoesOn (take at bytes) × (at < length bytes → GoesOn (take (at + 1) bytes) → ⊥)

abbrev pub Reads : Result code.Plan SpellRefusal → Result PlainPlan ℕ → ℕ → Type 0
Reads (Ok plan) read len = read ≡ Ok (plan_of plan)
Reads (Err refusal.Memory) read len = Unit {0}
Reads (Err (refusal.NotPlan at)) read len = (left : ℕ) × (read ≡ Err left) × (at ≡ len - left)
