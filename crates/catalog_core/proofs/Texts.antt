-- The plan of a canonical text over streams: there is one at most.
use Rattle.std.proofs.Common.{◌≡◌, ◌∙◌, ◌≤◌, ◌↔◌, sym, ap, subst, ℕ, Bool, false, IsTrue, List, length, Result, Ok, arith}
use Rattle.plan_core.specs.PlainPlan.{PlainPlan, leaves}
use Rattle.plan_core.specs.TypedPlan.{TypedPlan}
use Rattle.catalog_types.specs.declared.program.Program.{Program}
use Rattle.plan_core.specs.PlanTyping.{Kinds, plan_typing}
use Rattle.plan_text.specs.declared.limit.PlanLimit.{PlanLimit}
use Rattle.plan_text.specs.declared.limit.PlanLimit.TheVariants as limit
use Rattle.plan_text.specs.Counts.{IsFirstPassed, IsWithinLimits}
use Rattle.plan_text.specs.PlainNamed.{PlainTree}
use Rattle.plan_text.specs.Spelled.{SpellsText}
use Rattle.plan_text.specs.Canonical.{canonical_text}
use Rattle.plan_binder.specs.Binding.{binding}
use Rattle.catalog_types.specs.declared.snapshot.StreamState.{StreamState}
use Rattle.catalog_core.specs.Programs.{names_of, columns_of, kinds_of_streams, IsCanonical, IsPlanOf, AreCuts, IsProgram}

-- a text of one plan with names is of the plan that this is bound to
pub one-bound : (streams : List StreamState) (text : List ℕ) (tree : PlainTree) (plan other : PlainPlan) → ((t : PlainTree) → IsCanonical t text → t ≡ tree)
    → binding (names_of streams) (columns_of streams) tree ≡ Ok plan → IsPlanOf streams text other → other ≡ plan
one-bound streams text tree plan other only bound is =
    let same : binding (names_of streams) (columns_of streams) tree ≡ Ok other = ap (λ t. binding (names_of streams) (columns_of streams) t) (sym (only is.tree is.canonical)) ∙ is.bound in
    cc

pub none-bound : (streams : List StreamState) (text : List ℕ) (tree : PlainTree) → ((t : PlainTree) → IsCanonical t text → t ≡ tree)
    → ((bound : PlainPlan) (kinds : Kinds) → binding (names_of streams) (columns_of streams) tree ≡ Ok bound → plan_typing (kinds_of_streams streams) bound ≡ Ok kinds → ⊥)
    → (plan : PlainPlan) → IsPlanOf streams text plan → ⊥
none-bound streams text tree only none plan is =
    none plan is.kinds (ap (λ t. binding (names_of streams) (columns_of streams) t) (sym (only is.tree is.canonical)) ∙ is.bound) is.typed

-- a plan that passes a limit isn't within the limits
pub passed-is-not-within : (what : PlanLimit) (plan : PlainTree) → IsFirstPassed what plan → IsWithinLimits plan → ⊥
passed-is-not-within limit.Nodes plan passed within = absurd (omega (arith, passed, within.0))
passed-is-not-within limit.Wide plan passed within = absurd (omega (arith, passed.1, within.1))
passed-is-not-within limit.Exprs plan passed within = absurd (omega (arith, passed.2, within.2))

abbrev pub OnePlan : Type 0
OnePlan = (p q : PlainTree) (text : List ℕ) → SpellsText p text → SpellsText q text → p ≡ q

-- of a text that is too large there is no plan
pub too-large : OnePlan → (text : List ℕ) (what : PlanLimit) → ((plan : PlainTree) × SpellsText plan text × IsFirstPassed what plan) → (tree : PlainTree) → IsCanonical tree text → ⊥
too-large one text what large tree is = passed-is-not-within what large.0 large.2 (subst IsWithinLimits (one tree large.0 text is.0 large.1) is.1)

-- the plan that is read is the only one of which the text may be the canonical text
pub canonical-found : (text : List ℕ) (plan same : PlainTree) → SpellsText plan text → IsWithinLimits plan → (same ≡ plan) × (text ≡ canonical_text plan) → IsCanonical same text
canonical-found text plan same spelled within is = subst (λ t. IsCanonical t text) (sym is.0) (spelled, within, is.1)

pub canonical-only : OnePlan → (text : List ℕ) (plan same : PlainTree) → SpellsText plan text → (same ≡ plan) × (text ≡ canonical_text plan) → (tree : PlainTree) → IsCanonical tree text → tree ≡ same
canonical-only one text plan same spelled is tree canonical = one tree plan text canonical.0 spelled ∙ sym is.0

pub canonical-none : OnePlan → (text : List ℕ) (plan : PlainTree) → SpellsText plan text → (text ≡ canonical_text plan → ⊥) → (tree : PlainTree) → IsCanonical tree text → ⊥
canonical-none one text plan spelled differs tree canonical = differs (canonical.2 ∙ ap canonical_text (one tree plan text canonical.0 spelled))

-- a program of the plan that was found, and of no other
pub program-is : (streams : List StreamState) (program : Program) (typed : TypedPlan) (are : Bool) → length program.text ≤ 65536 → IsPlanOf streams program.text typed.plan → typed.leaves ≡ leaves typed.plan
    → ((plan : PlainPlan) → IsPlanOf streams program.text plan → plan ≡ typed.plan) → IsTrue are ↔ AreCuts streams typed.leaves program.cuts → IsTrue are ↔ IsProgram streams program
program-is streams program typed are short is at only cuts = (
  λ e. record { plan = typed.plan; is_plan = is; are_cuts = subst (λ (ns : List ℕ). AreCuts streams ns program.cuts) at (cuts.0 e); short = short },
  λ given. cuts.1 (subst (λ (ns : List ℕ). AreCuts streams ns program.cuts) (ap leaves (only given.plan given.is_plan) ∙ sym at) given.are_cuts),
)

pub no-program : (streams : List StreamState) (program : Program) → ((plan : PlainPlan) → IsPlanOf streams program.text plan → ⊥) → IsTrue false ↔ IsProgram streams program
no-program streams program none = (λ e. absurd (cc), λ given. absurd (none given.plan given.is_plan))

-- a plan with names is bound to one plan
pub same-plan : {E : Type 0} {r : Result PlainPlan E} {plan other : PlainPlan} → r ≡ Ok plan → r ≡ Ok other → plan ≡ other
same-plan e f = cc
