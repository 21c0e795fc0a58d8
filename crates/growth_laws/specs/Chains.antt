-- Plans that pass each row on by itself, or none: so they may be evaluated one extent at a time.
use Rattle.plan_core.specs.PlainPlan.{PlainPlan, Scan, Filter, Project, Distinct, Group}

-- filters and projections, or none, over one scan
abbrev pub IsChain : PlainPlan → Type 0
IsChain (Scan stream) = Unit {0}
IsChain (Filter child test) = IsChain child
IsChain (Project child columns) = IsChain child
IsChain _ = ⊥

-- such a one, or a grouping or a distinct over such
abbrev pub IsOneStream : PlainPlan → Type 0
IsOneStream (Distinct child) = IsChain child
IsOneStream (Group child keys aggs) = IsChain child
IsOneStream plan = IsChain plan
