-- Why no job is opened with a plan that is refused.
use Rattle.std.proofs.Common.{◌≡◌, ◌∙◌, ◌⊎◌, ℕ, Bool, List, Some, Result, Ok, Err, sym, ap, inl, inr}
use Rattle.plan_core.specs.declared.refusal.PlanRefusal.{PlanRefusal}
use Rattle.plan_core.specs.PlainPlan.{PlainPlan}
use Rattle.plan_core.specs.PlanTyping.{Kinds}
use Rattle.plan_text.specs.PlainNamed.{PlainTree}
use Rattle.plan_binder.specs.declared.refusal.BindRefusal.{BindRefusal}
use Rattle.catalog_core.specs.Table.{Table}
use Rattle.script_text.specs.declared.answer.Refusal.{Refusal}
use Rattle.script_text.specs.declared.answer.Refusal.TheVariants.{Memory}
use Rattle.planning.specs.Opening.{opening, opening_bound, opening_typed, refused_job}
use Rattle.planning.specs.Running.{Run, bound_plan, typing_of, unbound, untyped, typed_refusal, bound_refusal, plan_refusal, run_of}

module _ (t : Table) (exists : Bool) (count : ℕ) (job name : List ℕ) (tree : PlainTree) where
  typed-refused : (run : Run) (typed : Result Kinds PlanRefusal) (why : Refusal) → typed_refusal typed ≡ Some why → opening_typed exists count job run typed ≡ Err (refused_job exists job why)
  typed-refused run (Ok kinds) why e = absurd (cc)
  typed-refused run (Err refused) why e = let same : untyped refused ≡ why = cc in ap (λ w. Err (refused_job exists job w)) same

  bound-refused : (bound : Result PlainPlan BindRefusal) (why : Refusal) → bound_refusal t.streams bound ≡ Some why → opening_bound t exists count job name tree bound ≡ Err (refused_job exists job why)
  bound-refused (Ok plan) why e = typed-refused (run_of t.streams name tree plan) (typing_of t.streams plan) why e
  bound-refused (Err refused) why e = let same : unbound refused ≡ why = cc in ap (λ w. Err (refused_job exists job w)) same

  pub opening-refused : (why given : Refusal) → given ≡ refused_job exists job why → (plan_refusal t.streams tree ≡ Some why) ⊎ (why ≡ Memory) → (opening t exists count job name tree ≡ Err given) ⊎ (given ≡ Memory)
  opening-refused why given is h =
      elim h [
        | inl refused ↦ inl (bound-refused (bound_plan t.streams tree) why refused ∙ ap Err (sym is))
        | inr none ↦ inr (is ∙ ap (refused_job exists job) none)
      ]
