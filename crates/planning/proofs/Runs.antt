-- A run of a plan that has a typing.
use Rattle.std.proofs.Common.{◌≡◌, ◌∙◌, ◌⊎◌, ℕ, List, Result, Ok, Err, IfOk, IfErr, inl, inr}
use Rattle.plan_core.specs.TypedPlan.{TypedPlan, IsTypedOver}
use Rattle.plan_text.specs.PlainNamed.{PlainTree}
use Rattle.catalog_core.specs.Programs.{kinds_of_streams}
use Rattle.catalog_core.specs.Table.{Table}
use Rattle.script_text.specs.declared.answer.Refusal.{Refusal}
use Rattle.script_text.specs.declared.answer.Refusal.TheVariants.{Memory}
use Rattle.planning.specs.declared.running.RunPlan.{RunPlan}
use Rattle.planning.specs.Running.{Run, bound_plan, running, storing, run_of, IsRunPlan}
use Rattle.planning.proofs.RunLemmas.{running-stored}

module _ (t : Table) (name : List ℕ) (tree : PlainTree) (typed : TypedPlan) (bound : bound_plan t.streams tree ≡ Ok typed.plan) (over : IsTypedOver (kinds_of_streams t.streams) typed) where
  abbrev the_run : Run
  the_run = run_of t.streams name tree typed.plan

  pub is_run : (r : Result RunPlan Refusal) → IfOk r (λ _. storing t the_run ≡ Ok the_run) → IfOk r (λ p. IsRunPlan t the_run p.typed p.program)
      → IfOk r (λ p. (x : Run) × (running t name tree ≡ Ok x) × IsRunPlan t x p.typed p.program)
  is_run (Ok p) ok planned = (the_run, running-stored t name tree typed.plan typed.kinds bound over ∙ ok, planned)
  is_run (Err why) ok planned = tt

  pub is_not_run : (r : Result RunPlan Refusal) → IfErr r (λ why. (storing t the_run ≡ Err why) ⊎ (why ≡ Memory)) → IfErr r (λ why. (running t name tree ≡ Err why) ⊎ (why ≡ Memory))
  is_not_run (Ok p) h = tt
  is_not_run (Err why) h = elim h [ inl is ↦ inl (running-stored t name tree typed.plan typed.kinds bound over ∙ is) | inr none ↦ inr none ]
