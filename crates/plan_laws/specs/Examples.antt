-- Worked kept forms and shapes: the definitions compute them.
use Rattle.std.specs.Prelude.{◌≡◌, refl, ℕ, pos, List, [], ◌∷◌, Ok, codes}
use Rattle.rows_core.specs.declared.value.Value.TheVariants.{Int, Text}
use Rattle.rows_core.specs.declared.kind.Kind.TheVariants as kind
use Rattle.row_blob.specs.declared.kept.Acc.TheVariants as acc
use Rattle.row_blob.specs.declared.kept.Kept.TheVariants as kept
use Rattle.row_blob.specs.declared.shape.AccKind.TheVariants as acc_kind
use Rattle.row_blob.specs.declared.shape.Shape.TheVariants as shape
use Rattle.row_blob.specs.declared.kept.GroupRow.{GroupRow}
use Rattle.plan_core.specs.declared.agg.Agg.{Agg}
use Rattle.plan_core.specs.declared.agg.Agg.TheVariants.{Count, Sum, Max, Last, Avg}
use Rattle.plan_core.specs.Columns.{Rows}
use Rattle.plan_core.specs.ExpressionValue.{◌>>=◌}
use Rattle.plan_core.specs.PlainPlan.{PlainPlan, Scan, Distinct, Group, Join}
use Rattle.plan_core.specs.PlanMeaning.{plan_meaning}
use Rattle.plan_core.specs.PlanTyping.{Kinds}
use Rattle.plan_laws.specs.GrowthOfRows.{new_rows}
use Rattle.plan_laws.specs.GrowthOfGroups.{groups_of, merged_groups}
use Rattle.plan_laws.specs.KeptForm.{kept_form}
use Rattle.plan_laws.specs.PlanShape.{plan_shape}

abbrev pub orders : Rows
orders =
    (Text (codes "tea") ∷ Int (pos 2) ∷ []) ∷ (Text (codes "cup") ∷ Int (pos 5) ∷ [])
    ∷ (Text (codes "tea") ∷ Int (pos 9223372036854775807) ∷ []) ∷ []

-- a sum is kept whole, also where it is outside of i64
pub kept_groups :
    kept_form (Group (Scan 0) (0 ∷ []) (Count ∷ Sum 1 ∷ Max 1 ∷ Avg 1 ∷ [])) (orders ∷ [])
    ≡ Ok (kept.Groups
    (record { key = Text (codes "tea") ∷ []; accs = acc.Count 2 ∷ acc.Sum (pos 9223372036854775809) ∷ acc.Pick (Int (pos 9223372036854775807)) ∷ acc.Avg (pos 9223372036854775809) 2 ∷ [] }
    ∷ record { key = Text (codes "cup") ∷ []; accs = acc.Count 1 ∷ acc.Sum (pos 5) ∷ acc.Pick (Int (pos 5)) ∷ acc.Avg (pos 5) 1 ∷ [] } ∷ []))
kept_groups = refl

abbrev pub lefts : Rows
lefts = (Int (pos 1) ∷ []) ∷ (Int (pos 3) ∷ []) ∷ (Int (pos 2) ∷ []) ∷ []

abbrev pub rights : Rows
rights = (Int (pos 2) ∷ Int (pos 20) ∷ []) ∷ (Int (pos 1) ∷ Int (pos 10) ∷ []) ∷ (Int (pos 1) ∷ Int (pos 11) ∷ []) ∷ []

-- the second left row has no right one: its position, counted from 0, is passed over, and it counts in the left length
pub kept_join :
    kept_form (Join (Scan 0) (Scan 1) ((0, 0) ∷ [])) (lefts ∷ rights ∷ [])
    ≡ Ok (kept.Tagged 3
    (record { left = 0; row = Int (pos 1) ∷ Int (pos 1) ∷ Int (pos 10) ∷ [] }
    ∷ record { left = 0; row = Int (pos 1) ∷ Int (pos 1) ∷ Int (pos 11) ∷ [] }
    ∷ record { left = 2; row = Int (pos 2) ∷ Int (pos 2) ∷ Int (pos 20) ∷ [] } ∷ []))
kept_join = refl

-- ---- rows behind others

abbrev column : List ℕ → Rows
column [] = []
column (n ∷ ns) = (Int (pos n) ∷ []) ∷ column ns

-- 2 was there, and 3 stands twice
pub only_new : new_rows (column (1 ∷ 2 ∷ [])) (column (2 ∷ 3 ∷ 4 ∷ 3 ∷ [])) ≡ column (3 ∷ 4 ∷ [])
only_new = refl

-- ---- shapes

abbrev streams : List Kinds
streams = (kind.Text ∷ kind.Int ∷ []) ∷ (kind.Int ∷ []) ∷ []

pub groups_shape :
    plan_shape streams (Group (Scan 0) (0 ∷ []) (Count ∷ Sum 1 ∷ Max 0 ∷ Avg 1 ∷ []))
    ≡ shape.Groups (kind.Text ∷ []) (acc_kind.Count ∷ acc_kind.Sum ∷ acc_kind.Pick kind.Text ∷ acc_kind.Avg ∷ [])
groups_shape = refl

pub join_shape : plan_shape streams (Join (Scan 0) (Scan 1) ((1, 0) ∷ [])) ≡ shape.Tagged (kind.Text ∷ kind.Int ∷ kind.Int ∷ [])
join_shape = refl

pub rows_shape : plan_shape streams (Distinct (Scan 0)) ≡ shape.Rows (kind.Text ∷ kind.Int ∷ [])
rows_shape = refl

-- ---- growth of groups

abbrev pub further : Rows
further = (Text (codes "pot") ∷ Int (pos 7) ∷ []) ∷ (Text (codes "tea") ∷ Int (pos 3) ∷ []) ∷ []

abbrev counts : Rows → List GroupRow
counts rows = groups_of (0 ∷ []) (Count ∷ Max 1 ∷ Last 1 ∷ []) rows

-- tea stays first with what both lists have of it, and the pot comes behind the cup
pub grown_groups :
    merged_groups (Count ∷ Max 1 ∷ Last 1 ∷ []) (counts orders) (counts further)
    ≡ record { key = Text (codes "tea") ∷ []; accs = acc.Count 3 ∷ acc.Pick (Int (pos 9223372036854775807)) ∷ acc.Pick (Int (pos 3)) ∷ [] }
    ∷ record { key = Text (codes "cup") ∷ []; accs = acc.Count 1 ∷ acc.Pick (Int (pos 5)) ∷ acc.Pick (Int (pos 5)) ∷ [] }
    ∷ record { key = Text (codes "pot") ∷ []; accs = acc.Count 1 ∷ acc.Pick (Int (pos 7)) ∷ acc.Pick (Int (pos 7)) ∷ [] } ∷ []
grown_groups = refl

-- the form that is kept of a grouping has these groups
pub kept_are_groups_of :
    (child : PlainPlan) (keys : List ℕ) (aggs : List Agg) (lists : List Rows)
    → (kept_form (Group child keys aggs) lists) ≡ (plan_meaning child lists >>= λ rows. Ok (kept.Groups (groups_of keys aggs rows)))
kept_are_groups_of child keys aggs lists = refl
