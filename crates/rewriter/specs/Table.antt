-- What was found.
use Rattle.std.specs.Prelude.{ℕ, nat_eq, IfSome}
use Rattle.indexmap.specs.IndexMap.{get}
use Rattle.plan_core.specs.PlainPlan.{plan_of}
use Rattle.estimator.specs.Bytes.{Lengths}
use Rattle.rewrite_core.specs.Entries.{Entries}
use Rattle.rewriter.specs.declared.table.Found.{Found}
use Rattle.rewriter.specs.declared.table.KnownChoice.{KnownChoice}
use Rattle.rewriter.specs.declared.table.KnownDelta.{KnownDelta}
use Rattle.rewriter.specs.Search.{IsChoice, IsDeltaPriceIfAny}

-- it is the choice for its plan and cut
abbrev pub IsKnownChoice : Entries → Lengths → KnownChoice → Type 0
IsKnownChoice entries lengths known = IsChoice entries lengths (plan_of known.plan.now) known.cuts known.choice

-- it is the price for its plan and cuts
abbrev pub IsKnownDelta : Entries → Lengths → KnownDelta → Type 0
IsKnownDelta entries lengths known = IsDeltaPriceIfAny entries lengths (plan_of known.plan.now) known.old known.new known.price

pub record AreFound (entries : Entries) (lengths : Lengths) (found : Found) : Type 0 where
  pub choices : (key : ℕ) → IfSome (get nat_eq found.choices key) (IsKnownChoice entries lengths)
  pub deltas : (key : ℕ) → IfSome (get nat_eq found.deltas key) (IsKnownDelta entries lengths)
