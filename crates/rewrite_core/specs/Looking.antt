-- What look-ups in a list ask of a result.
use Rattle.std.specs.Prelude.{◌≡◌, ◌≢◌, ◌<◌, ◌⊎◌, Option, Some, None}
use Rattle.plan_core.specs.PlainPlan.{PlainPlan}
use Rattle.estimator.specs.Cuts.{Cuts, AreAtOrBefore, reach}
use Rattle.rewrite_core.specs.declared.rewriting.Hit.{Hit}
use Rattle.rewrite_core.specs.Entries.{Entry, Entries, IsBefore, IsEarlier}

-- it is of this plan and cut
abbrev pub IsAt : Entry → PlainPlan → Cuts → Type 0
IsAt e plan cuts = (e.plan ≡ plan) × (e.cuts ≡ cuts)

-- it is of this plan and another cut, which is at or before this one
abbrev pub ComesBefore : Entry → PlainPlan → Cuts → Type 0
ComesBefore e plan cuts = (e.plan ≡ plan) × (e.cuts ≢ cuts) × AreAtOrBefore e.cuts cuts

-- it reaches further than the best one, or as far with a smaller id
abbrev pub IsFurther : Entry → Option Hit → Type 0
IsFurther e None = Unit {0}
IsFurther e (Some best) = (reach best.cuts < reach e.cuts) ⊎ ((reach best.cuts ≡ reach e.cuts) × (e.id < best.id))

-- of the entries before this cut it is the one that is chosen over each other one; or there is none before it
abbrev pub IsBestOf : Entries → PlainPlan → Cuts → Option Hit → Type 0
IsBestOf entries plan cuts None = (hit : Hit) → IsBefore entries plan cuts hit → ⊥
IsBestOf entries plan cuts (Some hit) = IsEarlier entries plan cuts hit
