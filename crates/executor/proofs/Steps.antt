-- What a node answers, of what its parts and its step have answered.
use Rattle.std.proofs.Common.{◌≡◌, refl, IfOk, OnOk, Result, Ok, Err}
use Rattle.rows_core.specs.declared.overflow.Overflow.{Overflow}
use Rattle.scalar_ops.specs.Meaning.{overflow}
use Rattle.plan_core.specs.PlainPlan.{PlainPlan}
use Rattle.growth_laws.specs.Growth as laws
use Rattle.growth_laws.proofs.AddedRows.{ok_is}
use Rattle.result_ops.specs.declared.made.Made.{Made}
use Rattle.result_ops.specs.declared.made.Added.{Added}
use Rattle.result_ops.specs.declared.refusal.MakeRefusal.{MakeRefusal}
use Rattle.result_ops.specs.declared.refusal.MakeRefusal.TheVariants as refusal
use Rattle.result_ops.specs.Bounds.{IsBounded}
use Rattle.result_ops.specs.Steps.{Makes, Adds}
use Rattle.executor.specs.Loading.{Took, IsAbove}

-- ---- a refusal of a part is one of the node

module _ (p q : Type 0) (f : p → q) where
  pub makes_more : (plan : PlainPlan) (given : Result laws.Made Overflow) (result : Result Made MakeRefusal) → Makes p plan given result → Makes q plan given result
  makes_more plan given (Ok made) is = is
  makes_more plan given (Err refusal.Overflow) is = is
  makes_more plan given (Err refusal.Machine) is = f is
  makes_more plan given (Err refusal.Memory) is = tt

  pub adds_more : (given : Result laws.Added Overflow) (result : Result Added MakeRefusal) → Adds p given result → Adds q given result
  adds_more given (Ok made) is = is
  adds_more given (Err refusal.Overflow) is = is
  adds_more given (Err refusal.Machine) is = f is
  adds_more given (Err refusal.Memory) is = tt

  module _ (e : MakeRefusal) (plan : PlainPlan) (given : Result laws.Made Overflow) where
    pub made_stops : (input : PlainPlan) (part : Result laws.Made Overflow) → (part ≡ Err overflow → given ≡ Err overflow) → Makes p input part (Err e) → Makes q plan given (Err e)
    made_stops input part g is = by e is
      where
        by : (e : MakeRefusal) → Makes p input part (Err e) → Makes q plan given (Err e)
        by refusal.Overflow is = g is
        by refusal.Machine is = f is
        by refusal.Memory is = tt

    pub added_stops : (part : Result laws.Added Overflow) → (part ≡ Err overflow → given ≡ Err overflow) → Adds p part (Err e) → Makes q plan given (Err e)
    added_stops part g is = by e is
      where
        by : (e : MakeRefusal) → Adds p part (Err e) → Makes q plan given (Err e)
        by refusal.Overflow is = g is
        by refusal.Machine is = f is
        by refusal.Memory is = tt

  module _ (e : MakeRefusal) (given : Result laws.Added Overflow) where
    pub made_stops_added : (input : PlainPlan) (part : Result laws.Made Overflow) → (part ≡ Err overflow → given ≡ Err overflow) → Makes p input part (Err e) → Adds q given (Err e)
    made_stops_added input part g is = by e is
      where
        by : (e : MakeRefusal) → Makes p input part (Err e) → Adds q given (Err e)
        by refusal.Overflow is = g is
        by refusal.Machine is = f is
        by refusal.Memory is = tt

    pub added_stops_added : (part : Result laws.Added Overflow) → (part ≡ Err overflow → given ≡ Err overflow) → Adds p part (Err e) → Adds q given (Err e)
    added_stops_added part g is = by e is
      where
        by : (e : MakeRefusal) → Adds p part (Err e) → Adds q given (Err e)
        by refusal.Overflow is = g is
        by refusal.Machine is = f is
        by refusal.Memory is = tt

-- what was taken is what is made
pub took_makes : (q : Type 0) (plan : PlainPlan) (given : Result laws.Made Overflow) (result : Result Made MakeRefusal) → (IsAbove plan given → q) → Took plan given result → IfOk result (λ made. IsBounded plan made.kept)
    → Makes q plan given result
took_makes q plan given (Ok made) f is bounded = (is.0, is.1, bounded)
took_makes q plan given (Err refusal.Overflow) f is bounded = is
took_makes q plan given (Err refusal.Machine) f is bounded = f is
took_makes q plan given (Err refusal.Memory) f is bounded = tt

pub took_stops : (q : Type 0) (input plan : PlainPlan) (part given : Result laws.Made Overflow) (e : MakeRefusal) → (IsAbove input part → q) → (part ≡ Err overflow → given ≡ Err overflow) → Took input part (Err e) → Makes q plan given (Err e)
took_stops q input plan part given refusal.Overflow f g is = g is
took_stops q input plan part given refusal.Machine f g is = f is
took_stops q input plan part given refusal.Memory f g is = tt

pub took_stops_added : (q : Type 0) (input : PlainPlan) (part : Result laws.Made Overflow) (given : Result laws.Added Overflow) (e : MakeRefusal) → (IsAbove input part → q) → (part ≡ Err overflow → given ≡ Err overflow)
    → Took input part (Err e) → Adds q given (Err e)
took_stops_added q input part given refusal.Overflow f g is = g is
took_stops_added q input part given refusal.Machine f g is = f is
took_stops_added q input part given refusal.Memory f g is = tt

-- ---- the pieces that are left

pub on_ok : {X E : Type 0} (B : Type 0) (result : Result X E) → B → OnOk result B
on_ok B (Ok x) is = is
on_ok B (Err e) is = tt

pub from_ok : {X : Type 0} (x y : X) → ◌≡◌ {A = Result X Overflow} (Ok x) (Ok y) → x ≡ y
from_ok x y e = ok_is (Ok x) x y refl e
