-- The scan of a typed plan over one stream, and the rows of its extents.
use Rattle.std.proofs.Common.{◌≡◌, sym, subst, ℕ, List, [], ◌∷◌, Option, None, Some, unwrap_or, slice_get}
use Rattle.std.specs.Option.{IfSome}
use Rattle.row_blob.specs.Kept.{IsKept}
use Rattle.row_blob.specs.declared.kept.Kept.TheVariants as kept
use Rattle.plan_core.specs.Columns.{Rows}
use Rattle.plan_core.specs.PlainPlan.{PlainPlan, Scan, Filter, Project, Distinct, Group, Join, Concat, Order, leaves}
use Rattle.plan_core.specs.PlanTyping.{Kinds}
use Rattle.plan_core.specs.TypedRows.{HaveKinds, AreOfStreams}
use Rattle.plan_laws.specs.PlanShape.{kinds_given, plan_shape}
use Rattle.plan_laws.specs.TypedOn.{IsTypedOn}
use Rattle.growth_laws.specs.Chains.{IsChain, IsOneStream}
use Rattle.executor.specs.Pieces.{HasTyping}
use Rattle.executor.proofs.FileForms.{rows_kinds}
use Rattle.executor.proofs.Typings.{of_filter, of_project, of_distinct, of_group, kinds_there}

module _ (schemas : List Kinds) (stream : ℕ) where
  of_chain : (plan : PlainPlan) → IsChain plan → HasTyping schemas plan → leaves plan ≡ stream ∷ [] → HasTyping schemas (Scan stream)
  of_chain (Scan s) is typed leaf = let same : s ≡ stream = cc in subst (λ n. HasTyping schemas (Scan n)) same typed
  of_chain (Filter child test) is typed leaf = of_chain child is (of_filter schemas child test typed) leaf
  of_chain (Project child columns) is typed leaf = of_chain child is (of_project schemas child columns typed) leaf
  of_chain _ is typed leaf = absurd is

  pub scan_typed : (plan : PlainPlan) → IsOneStream plan → HasTyping schemas plan → leaves plan ≡ stream ∷ [] → HasTyping schemas (Scan stream)
  scan_typed (Scan s) is typed leaf = of_chain (Scan s) is typed leaf
  scan_typed (Filter child test) is typed leaf = of_chain (Filter child test) is typed leaf
  scan_typed (Project child columns) is typed leaf = of_chain (Project child columns) is typed leaf
  scan_typed (Distinct child) is typed leaf = of_chain child is (of_distinct schemas child typed) leaf
  scan_typed (Group child keys aggs) is typed leaf = of_chain child is (of_group schemas child keys aggs typed) leaf
  scan_typed (Join left right on) is typed leaf = absurd is
  scan_typed (Concat left right) is typed leaf = absurd is
  scan_typed (Order child keys) is typed leaf = absurd is

  rows_of_stream : (o : Option Kinds) (rows : Rows) → HaveKinds (unwrap_or o []) rows → IfSome o (λ kinds. HaveKinds kinds rows)
  rows_of_stream None rows has = tt
  rows_of_stream (Some kinds) rows has = has

  -- the rows of an extent's file are of the stream
  pub extent_of_stream : (plan : PlainPlan) (rows : Rows) → leaves plan ≡ stream ∷ [] → IsKept (plan_shape schemas (Scan stream)) (kept.Rows rows) → AreOfStreams schemas (leaves plan) (rows ∷ [])
  extent_of_stream plan rows leaf is =
      subst (λ (l : List ℕ). AreOfStreams schemas l (rows ∷ [])) (sym leaf) (rows_of_stream (slice_get schemas stream) rows (rows_kinds (kinds_given schemas (Scan stream)) rows is), tt)

  pub extent_typed : (plan : PlainPlan) (rows : Rows) → HasTyping schemas plan → leaves plan ≡ stream ∷ [] → IsKept (plan_shape schemas (Scan stream)) (kept.Rows rows) → IsTypedOn plan (rows ∷ [])
  extent_typed plan rows typed leaf is = (schemas, kinds_there schemas plan typed, extent_of_stream plan rows leaf is)
