-- What a plan's operator takes in.
use Rattle.std.specs.Prelude.{◌≡◌, ◌<◌}
use Rattle.plan_core.specs.OperatorCount.{operator_count}
use Rattle.plan_core.specs.PlainPlan.{PlainPlan, Filter, Project, Distinct, Group, Join, Concat, Order}

-- the plan has this only child
abbrev pub HasChild : PlainPlan → PlainPlan → Type 0
HasChild (Filter child test) x = child ≡ x
HasChild (Project child columns) x = child ≡ x
HasChild (Distinct child) x = child ≡ x
HasChild (Group child keys aggs) x = child ≡ x
HasChild (Order child keys) x = child ≡ x
HasChild _ x = ⊥

-- its operator works on each row by itself
abbrev pub IsByRow : PlainPlan → Type 0
IsByRow (Filter child test) = Unit {0}
IsByRow (Project child columns) = Unit {0}
IsByRow _ = ⊥

abbrev pub IsDistinct : PlainPlan → Type 0
IsDistinct (Distinct child) = Unit {0}
IsDistinct _ = ⊥

-- it has no delta unless it is unchanged
abbrev pub IsWholeOnly : PlainPlan → Type 0
IsWholeOnly (Group child keys aggs) = Unit {0}
IsWholeOnly (Order child keys) = Unit {0}
IsWholeOnly _ = ⊥

abbrev pub IsJoin : PlainPlan → PlainPlan → PlainPlan → Type 0
IsJoin (Join left right on) x y = (left ≡ x) × (right ≡ y)
IsJoin _ x y = ⊥

abbrev pub IsConcat : PlainPlan → PlainPlan → PlainPlan → Type 0
IsConcat (Concat left right) x y = (left ≡ x) × (right ≡ y)
IsConcat _ x y = ⊥

-- the plan has these two children
abbrev pub HasTwo : PlainPlan → PlainPlan → PlainPlan → Type 0
HasTwo (Join left right on) x y = (left ≡ x) × (right ≡ y)
HasTwo (Concat left right) x y = (left ≡ x) × (right ≡ y)
HasTwo _ x y = ⊥

-- a child, which has fewer operators
abbrev pub IsLower : PlainPlan → PlainPlan → Type 0
IsLower x q = operator_count x < operator_count q
