-- The three forms of a rewriting, and the least one of a form.
use Rattle.std.specs.Prelude.{◌≤◌}
use Rattle.plan_core.specs.PlainPlan.{PlainPlan}
use Rattle.estimator.specs.Cuts.{Cuts}
use Rattle.estimator.specs.Bytes.{Lengths}
use Rattle.rewrite_core.specs.Entries.{Entries}
use Rattle.rewrite_core.specs.PlainRewriting.{PlainRewriting, Node, PlainWay, Scan, One, Two, Read, PlainDelta}
use Rattle.rewrite_core.specs.IsRewriting.{IsRewriting, IsDelta, among}
use Rattle.rewrite_core.specs.Estimate.{estimate_of}

abbrev pub way_in : PlainRewriting → PlainWay
way_in (Node p c way) = way

abbrev pub IsComputed : PlainWay → Type 0
IsComputed Scan = Unit {0}
IsComputed (One r) = Unit {0}
IsComputed (Two l r) = Unit {0}
IsComputed _ = ⊥

abbrev pub IsRead : PlainWay → Type 0
IsRead (Read hit) = Unit {0}
IsRead _ = ⊥

abbrev pub IsGrown : PlainWay → Type 0
IsGrown Scan = ⊥
IsGrown (One r) = ⊥
IsGrown (Two l r) = ⊥
IsGrown (Read hit) = ⊥
IsGrown _ = Unit {0}

-- It is a rewriting of this form, and no other one of it has a smaller estimate.
pub record IsLeastOf (Form : PlainWay → Type 0) (entries : Entries) (lengths : Lengths) (q : PlainPlan) (c : Cuts) (r : PlainRewriting) : Type 0 where
  pub is : IsRewriting (among entries) q c r
  pub form : Form (way_in r)
  pub least : (other : PlainRewriting) → IsRewriting (among entries) q c other → Form (way_in other) → estimate_of lengths r ≤ estimate_of lengths other

-- there is no rewriting of this form
abbrev pub HasNone : (PlainWay → Type 0) → Entries → PlainPlan → Cuts → Type 0
HasNone Form entries q c = (other : PlainRewriting) → IsRewriting (among entries) q c other → Form (way_in other) → ⊥

abbrev pub HasNoDelta : Entries → PlainPlan → Cuts → Cuts → Type 0
HasNoDelta entries q old new = (other : PlainDelta) → IsDelta (among entries) q old new other → ⊥
