-- What is made of typed rows is fit.
use Rattle.std.proofs.Common.{◌≡◌, refl, sym, ap, ◌∙◌, subst, ℕ, ◌+◌, ◌<◌, ◌≤◌, List, [], ◌∷◌, ◌++◌, length, map, IsSome, IfSome, IfOk, Option, None, Some, Result, Ok, Err, arith}
use Rattle.std.specs.Prelude.{slice_get}
use Rattle.std.proofs.lemmas.List.Elements.{All-append, All-from_recursion}
use Rattle.rows_core.specs.declared.overflow.Overflow.{Overflow}
use Rattle.rows_core.specs.Value.{kind_of}
use Rattle.row_blob.specs.declared.kept.Kept.TheVariants as kept
use Rattle.plan_core.specs.Columns.{Rows}
use Rattle.plan_core.specs.Distinct.{distinct_rows}
use Rattle.plan_core.specs.ExpressionValue.{◌>>=◌}
use Rattle.plan_core.specs.Filter.{filter_rows}
use Rattle.plan_core.specs.MachineTime.{row_count, rows_taken_in}
use Rattle.plan_core.specs.PlainPlan.{PlainPlan, Scan, Filter, Project, Distinct, Group, Join, Concat, Order, leaves}
use Rattle.plan_core.specs.PlanMeaning.{plan_meaning}
use Rattle.plan_core.specs.PlanTyping.{Kinds, plan_kinds, group_kinds}
use Rattle.plan_core.specs.Project.{project_rows}
use Rattle.plan_core.specs.TypedRows.{HaveKinds, AreOfStreams}
use Rattle.plan_laws.specs.GrowthOfGroups.{groups_of}
use Rattle.plan_laws.proofs.Answers.{both_ok}
use Rattle.plan_laws.proofs.GroupBounds.{are_groups, have_averages}
use Rattle.plan_laws.proofs.TypedParts.{GivesTypedRows, there, some_of}
use Rattle.plan_laws.proofs.TypedPlans.{and_then}
use Rattle.plan_laws.proofs.KeptBounds.{given_as}
use Rattle.growth_laws.specs.Chains.{IsChain, IsOneStream}
use Rattle.growth_laws.specs.Growth.{Made, whole_made}
use Rattle.growth_laws.specs.Making.{IsFormOf}
use Rattle.result_ops.specs.Bounds.{limit, IsBounded}
use Rattle.result_ops.specs.Fitting.{IsFit}
use Rattle.result_ops.proofs.FitLaws.{one_fit}
use Rattle.gathering.specs.declared.held.Held.{Held}
use Rattle.gathering.specs.declared.progress.Going.{Going}
use Rattle.result_ops.specs.declared.stop.Stop.{Stop}
use Rattle.result_ops.specs.declared.stop.Stop.TheVariants as stop
use Rattle.gathering.specs.Gathered.{ComesTo}
use Rattle.gathering.specs.Holding.{chain_of, kept_of_chain, kept_in, made_of_chain, came_of, IsHeld, IsSound, Follows}
use Rattle.gathering.proofs.Extents.{given, made_from, whole_of, chain_is}

-- ---- the bounds

pub held_bounded : (plan : PlainPlan) (held : Held) (taken_in : ℕ) → IsOneStream plan → IsHeld plan taken_in held → taken_in < limit → IsBounded plan (kept_in held)
held_bounded (Scan stream) held taken_in is holds few = tt
held_bounded (Filter child test) held taken_in is holds few = tt
held_bounded (Project child columns) held taken_in is holds few = tt
held_bounded (Distinct child) held taken_in is holds few = tt
held_bounded (Group child keys aggs) held taken_in is (rows, same, (numbers, within)) few =
    let at_most : length rows ≤ 4294967295 = omega arith in
    subst (IsBounded (Group child keys aggs)) (sym same) (are_groups keys aggs rows numbers at_most, have_averages keys aggs rows numbers at_most)
held_bounded (Join left right on) held taken_in is holds few = absurd is
held_bounded (Concat left right) held taken_in is holds few = absurd is
held_bounded (Order child keys) held taken_in is holds few = absurd is

made_same : (a b : Made) (given : Result Made Overflow) → given ≡ Ok a → given ≡ Ok b → a.kept ≡ b.kept
made_same a b given first second = let same : a ≡ b = cc in ap (λ made. made.kept) same

-- ---- the kinds

module _ (law : GivesTypedRows) (schemas : List Kinds) where
  rows_fit : (plan : PlainPlan) (lists : List Rows) (rows : Rows) → IsFormOf plan (kept.Rows rows) → IsBounded plan (kept.Rows rows) → IsSome (plan_kinds schemas plan) → AreOfStreams schemas (leaves plan) lists
      → plan_meaning plan lists ≡ Ok rows → IsFit schemas plan (kept.Rows rows)
  rows_fit plan lists rows formed bounded typed of is =
      let kinds = there (plan_kinds schemas plan) typed in
      let have : HaveKinds kinds.0 rows = subst (λ r. IfOk r (HaveKinds kinds.0)) is (law schemas plan kinds.0 lists kinds.1 of) in
      record { form_is = formed; kinds_are = subst (λ k. HaveKinds k rows) (sym (given_as schemas plan kinds.0 kinds.1)) have; bounded = bounded }

  chain_fit : (plan : PlainPlan) (lists : List Rows) (rows : Rows) → IsChain plan → IsSome (plan_kinds schemas plan) → AreOfStreams schemas (leaves plan) lists → plan_meaning plan lists ≡ Ok rows → IsFit schemas plan (kept.Rows rows)
  chain_fit (Scan stream) lists rows is typed of gave = rows_fit (Scan stream) lists rows tt tt typed of gave
  chain_fit (Filter child test) lists rows is typed of gave = rows_fit (Filter child test) lists rows tt tt typed of gave
  chain_fit (Project child columns) lists rows is typed of gave = rows_fit (Project child columns) lists rows tt tt typed of gave
  chain_fit (Distinct child) lists rows is typed of gave = absurd is
  chain_fit (Group child keys aggs) lists rows is typed of gave = absurd is
  chain_fit (Join left right on) lists rows is typed of gave = absurd is
  chain_fit (Concat left right) lists rows is typed of gave = absurd is
  chain_fit (Order child keys) lists rows is typed of gave = absurd is

  child_typed : (child : PlainPlan) (keys : List ℕ) (aggs : List _) → IsSome (plan_kinds schemas (Group child keys aggs)) → IsSome (plan_kinds schemas child)
  child_typed child keys aggs typed =
      let whole = there (plan_kinds schemas (Group child keys aggs)) typed in
      let k = and_then (group_kinds keys aggs) (plan_kinds schemas child) whole.0 whole.1 in
      some_of (plan_kinds schemas child) k.0 k.1

  kept_fit : (plan : PlainPlan) (fed rows : Rows) → IsOneStream plan → IsSome (plan_kinds schemas plan) → AreOfStreams schemas (leaves plan) (fed ∷ []) → given plan fed ≡ Ok rows → IsBounded plan (kept_of_chain plan rows)
      → IsFit schemas plan (kept_of_chain plan rows)
  kept_fit (Scan stream) fed rows is typed of gave bounded = chain_fit (Scan stream) (fed ∷ []) rows is typed of gave
  kept_fit (Filter child test) fed rows is typed of gave bounded = chain_fit (Filter child test) (fed ∷ []) rows is typed of gave
  kept_fit (Project child columns) fed rows is typed of gave bounded = chain_fit (Project child columns) (fed ∷ []) rows is typed of gave
  kept_fit (Distinct child) fed rows is typed of gave bounded =
      rows_fit (Distinct child) (fed ∷ []) (distinct_rows rows) tt tt typed of (ap (λ m. m >>= λ given. Ok (distinct_rows given)) gave)
  kept_fit (Group child keys aggs) fed rows is typed of gave bounded =
      let input = chain_fit child (fed ∷ []) rows is (child_typed child keys aggs typed) of gave in
      one_fit law schemas (Group child keys aggs) (record { kept = kept.Rows rows; taken_in = 0 }) (record { kept = kept.Groups (groups_of keys aggs rows); taken_in = length rows + 0 }) typed input refl bounded
  kept_fit (Join left right on) fed rows is typed of gave bounded = absurd is
  kept_fit (Concat left right) fed rows is typed of gave bounded = absurd is
  kept_fit (Order child keys) fed rows is typed of gave bounded = absurd is

  -- what has come is fit where the whole is
  pub comes_to : (plan : PlainPlan) (fed : Rows) (going : Result Going Stop) → IsOneStream plan → IsSome (plan_kinds schemas plan) → AreOfStreams schemas (leaves plan) (fed ∷ []) → IsSound plan going
      → Follows (whole_made plan (fed ∷ [])) (came_of going) → ComesTo schemas plan (whole_made plan (fed ∷ [])) (came_of going)
  comes_to plan fed (Ok going) is typed of (formed, holds, few) follows =
      let gave = both_ok (given plan fed) (λ rows. Ok (made_of_chain plan rows (rows_taken_in plan (fed ∷ [])))) _ (sym (whole_of plan is fed) ∙ follows) in
      let same = made_same (made_of_chain plan gave.0 (rows_taken_in plan (fed ∷ []))) (record { kept = kept_in going.held; taken_in = going.taken_in }) (Ok (made_of_chain plan gave.0 (rows_taken_in plan (fed ∷ [])))) refl gave.2 in
      let bounded = held_bounded plan going.held going.taken_in is holds few in
      (follows, few, subst (IsFit schemas plan) same (kept_fit plan fed gave.0 is typed of gave.1 (subst (IsBounded plan) (sym same) bounded)))
  comes_to plan fed (Err stop.Machine) is typed of sound follows = follows
  comes_to plan fed (Err stop.Overflow) is typed of sound follows = follows

pub comes_follow : (schemas : List Kinds) (plan : PlainPlan) (given : Result Made Overflow) (came : Result Made Stop) → ComesTo schemas plan given came → Follows given came
comes_follow schemas plan given (Ok made) comes = comes.0
comes_follow schemas plan given (Err stop.Machine) comes = comes
comes_follow schemas plan given (Err stop.Overflow) comes = comes

-- ---- the rows of streams

if_both : {A : Type 0} (P Q R : A → Type 0) → ((x : A) → P x → Q x → R x) → (o : Option A) → IfSome o P → IfSome o Q → IfSome o R
if_both P Q R both (Some x) p q = both x p q
if_both P Q R both None p q = tt

pub further_of_stream : (schemas : List Kinds) (streams : List ℕ) (a b : Rows) → AreOfStreams schemas streams (a ∷ []) → AreOfStreams schemas streams (b ∷ []) → AreOfStreams schemas streams ((a ++ b) ∷ [])
further_of_stream schemas [] a b first second = absurd first
further_of_stream schemas (stream ∷ []) a b first second =
    (if_both (λ kinds. HaveKinds kinds a) (λ kinds. HaveKinds kinds b) (λ kinds. HaveKinds kinds (a ++ b)) (λ kinds p q. All-append (λ row. map kind_of row ≡ kinds) a b p q) (slice_get schemas stream) first.0 second.0, tt)
further_of_stream schemas (stream ∷ (next ∷ streams)) a b first second = absurd first.1

-- ---- no rows

if_any : {A : Type 0} (P : A → Type 0) → ((x : A) → P x) → (o : Option A) → IfSome o P
if_any P all (Some x) = all x
if_any P all None = tt

chain_streams : (schemas : List Kinds) (plan : PlainPlan) → IsChain plan → AreOfStreams schemas (leaves plan) ([] ∷ [])
chain_streams schemas (Scan stream) is = (if_any (λ kinds. HaveKinds kinds []) (λ kinds. All-from_recursion _ [] tt) (slice_get schemas stream), tt)
chain_streams schemas (Filter child test) is = chain_streams schemas child is
chain_streams schemas (Project child columns) is = chain_streams schemas child is
chain_streams schemas (Distinct child) is = absurd is
chain_streams schemas (Group child keys aggs) is = absurd is
chain_streams schemas (Join left right on) is = absurd is
chain_streams schemas (Concat left right) is = absurd is
chain_streams schemas (Order child keys) is = absurd is

pub none_of_stream : (schemas : List Kinds) (plan : PlainPlan) → IsOneStream plan → AreOfStreams schemas (leaves plan) ([] ∷ [])
none_of_stream schemas (Scan stream) is = chain_streams schemas (Scan stream) is
none_of_stream schemas (Filter child test) is = chain_streams schemas (Filter child test) is
none_of_stream schemas (Project child columns) is = chain_streams schemas (Project child columns) is
none_of_stream schemas (Distinct child) is = chain_streams schemas child is
none_of_stream schemas (Group child keys aggs) is = chain_streams schemas child is
none_of_stream schemas (Join left right on) is = absurd is
none_of_stream schemas (Concat left right) is = absurd is
none_of_stream schemas (Order child keys) is = absurd is

chain_none : (plan : PlainPlan) → IsChain plan → (plan_meaning plan ([] ∷ []) ≡ Ok []) × (rows_taken_in plan ([] ∷ []) ≡ 0)
chain_none (Scan stream) is = (refl, refl)
chain_none (Filter child test) is =
    let below = chain_none child is in
    (ap (λ m. m >>= filter_rows test) below.0, (λ i. row_count (below.0 i) + below.1 i))
chain_none (Project child columns) is =
    let below = chain_none child is in
    (ap (λ m. m >>= project_rows columns) below.0, (λ i. row_count (below.0 i) + below.1 i))
chain_none (Distinct child) is = absurd is
chain_none (Group child keys aggs) is = absurd is
chain_none (Join left right on) is = absurd is
chain_none (Concat left right) is = absurd is
chain_none (Order child keys) is = absurd is

takes_none : (plan : PlainPlan) → IsOneStream plan → rows_taken_in plan ([] ∷ []) ≡ 0
takes_none (Scan stream) is = refl
takes_none (Filter child test) is = (chain_none (Filter child test) is).1
takes_none (Project child columns) is = (chain_none (Project child columns) is).1
takes_none (Distinct child) is = let below = chain_none child is in (λ i. row_count (below.0 i) + below.1 i)
takes_none (Group child keys aggs) is = let below = chain_none child is in (λ i. row_count (below.0 i) + below.1 i)
takes_none (Join left right on) is = absurd is
takes_none (Concat left right) is = absurd is
takes_none (Order child keys) is = absurd is

pub whole_of_none : (plan : PlainPlan) → IsOneStream plan → whole_made plan ([] ∷ []) ≡ Ok (made_of_chain plan [] 0)
whole_of_none plan is =
    whole_of plan is [] ∙ (λ i. made_from plan ((chain_none (chain_of plan) (chain_is plan is)).0 i) (takes_none plan is i))
