-- What is kept of a part of a plan while it is read: its counts, each up to one above the most, and the part itself where no
-- count is above. So nothing large is built, and a text of any length is read to its end.
use Prim.Native.Nat.{suc}
use Rattle.std.specs.Prelude.{ℕ, ◌+◌, Bool, ◌&&◌, nat_le, nat_lt, if◌then◌else◌, Option, None, Some, Box}
use Rattle.std.specs.declared.alloc.Global.{Global}
use Rattle.std.specs.Option.{option_map, option_zip}
use Rattle.plan_text.specs.declared.expr.NamedExpr as code
use Rattle.plan_text.specs.declared.limit.PlanLimit.{PlanLimit}
use Rattle.plan_text.specs.declared.limit.PlanLimit.TheVariants.{Nodes, Wide, Exprs}
use Rattle.plan_text.specs.PlainNamed.{PlainExpr, expr_of}
use Rattle.plan_text.specs.Counts.{expr_nodes}
use Rattle.plan_text.specs.declared.counts.Counts.{Counts}
use Rattle.plan_text.specs.declared.draft.Draft.{Draft}

-- so many operators and leaves, wide operators and expression nodes
abbrev pub counts : ℕ → ℕ → ℕ → Counts
counts a b c = record { nodes = a; wide = b; exprs = c }

-- as many as a plan may have
abbrev pub limits : Counts
limits = counts 40 8 512

-- the number, or one above the most where it is greater
abbrev pub up_to : ℕ → ℕ → ℕ
up_to most n = if nat_le n most then n else suc most

abbrev pub capped : Counts → Counts → Counts
capped most c = counts (up_to most.nodes c.nodes) (up_to most.wide c.wide) (up_to most.exprs c.exprs)

abbrev pub plus : Counts → Counts → Counts
plus a b = counts (a.nodes + b.nodes) (a.wide + b.wide) (a.exprs + b.exprs)

abbrev pub are_within : Counts → Counts → Bool
are_within most c = nat_le c.nodes most.nodes && (nat_le c.wide most.wide && nat_le c.exprs most.exprs)

-- the first limit that is passed, of counts that aren't all within
abbrev pub first_above : Counts → PlanLimit
first_above c = if nat_lt limits.nodes c.nodes then Nodes else if nat_lt limits.wide c.wide then Wide else Exprs

-- the part where its counts are within
abbrev pub kept : {A : Type 0} → Counts → Option A → Counts → Draft A
kept most part c = record { part = if are_within most c then part else None; counts = c }

-- what is kept of a part with these counts
abbrev pub drafted : {A : Type 0} → Counts → A → Counts → Draft A
drafted most x c = kept most (Some x) (capped most c)

-- two parts as one
abbrev pub paired : {A B : Type 0} → Counts → Draft A → Draft B → Draft (A × B)
paired most a b = kept most (option_zip a.part b.part) (capped most (plus a.counts b.counts))

-- the part with more that counts
abbrev pub counted : {A : Type 0} → Counts → Counts → Draft A → Draft A
counted most more d = kept most d.part (capped most (plus more d.counts))

abbrev pub mapped : {A B : Type 0} → (A → B) → Draft A → Draft B
mapped make d = record { part = option_map make d.part; counts = d.counts }

-- what is made of the part, with more that counts
abbrev pub stepped : {A B : Type 0} → Counts → Counts → (A → B) → Draft A → Draft B
stepped most more make d = mapped make (counted most more d)

abbrev pub PlainDraft : Type 0
PlainDraft = Draft PlainExpr

-- what a draft of the code says
abbrev pub seen : Draft (Box code.NamedExpr Global) → PlainDraft
seen d = mapped (λ e. expr_of e.value) d

-- an expression's node
abbrev pub a_node : Counts
a_node = counts 0 0 1

abbrev pub kept_one : Counts → PlainExpr → PlainDraft
kept_one most e = drafted most e a_node

-- what is kept of an expression
abbrev pub draft_of : Counts → PlainExpr → PlainDraft
draft_of most e = drafted most e (counts 0 0 (expr_nodes e))

abbrev pub with1 : Counts → (PlainExpr → PlainExpr) → PlainDraft → PlainDraft
with1 most make a = stepped most a_node make a

abbrev pub with2 : Counts → (PlainExpr → PlainExpr → PlainExpr) → PlainDraft → PlainDraft → PlainDraft
with2 most make a b = stepped most a_node (λ p. make p.0 p.1) (paired most a b)

abbrev pub with3 : Counts → (PlainExpr → PlainExpr → PlainExpr → PlainExpr) → PlainDraft → PlainDraft → PlainDraft → PlainDraft
with3 most make a b c = stepped most a_node (λ p. make p.0 p.1.0 p.1.1) (paired most a (paired most b c))
