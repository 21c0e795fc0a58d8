-- A plan with its typing.
use Rattle.std.specs.Prelude.{◌≡◌, ℕ, List, Result, Ok, Err}
use Rattle.plan_core.specs.declared.refusal.PlanRefusal.{PlanRefusal}
use Rattle.plan_core.specs.declared.refusal.PlanRefusal.TheVariants as refusal
use Rattle.plan_core.specs.PlainPlan.{PlainPlan, leaves}
use Rattle.plan_core.specs.Literals.{HasValidLiterals}
use Rattle.plan_core.specs.PlanTyping.{Kinds, plan_typing}

-- the plan, the kinds of its columns, and the streams of its leaves
pub record TypedPlan : Type 0 where
  pub plan : PlainPlan
  pub kinds : Kinds
  pub leaves : List ℕ

-- over streams of these kinds the plan has the typing
abbrev pub IsTypedOver : List Kinds → TypedPlan → Type 0
IsTypedOver schemas typed = plan_typing schemas typed.plan ≡ Ok typed.kinds

-- the plan has the typing over some streams, these are its leaves, and its literals are numbers in i64, texts of at most
-- 1,000 bytes and truth values
abbrev pub IsTypedPlan : TypedPlan → Type 0
IsTypedPlan typed =
    ((schemas : List Kinds) × IsTypedOver schemas typed) × (typed.leaves ≡ leaves typed.plan) × HasValidLiterals typed.plan

-- the kinds are those of the typing, or the refusal is the one that the typing gives; want of memory may be answered in
-- place of any answer
abbrev pub MeansTyping : {A : Type 0} → (A → Kinds) → Result A PlanRefusal → Result Kinds PlanRefusal → Type 0
MeansTyping kinds_of (Ok x) typing = typing ≡ Ok (kinds_of x)
MeansTyping kinds_of (Err refusal.Memory) typing = Unit {0}
MeansTyping kinds_of (Err (refusal.Unknown stream)) typing = typing ≡ Err (refusal.Unknown stream)
MeansTyping kinds_of (Err refusal.IllTyped) typing = typing ≡ Err refusal.IllTyped
MeansTyping kinds_of (Err refusal.TooMany) typing = typing ≡ Err refusal.TooMany
