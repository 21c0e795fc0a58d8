-- What a plan that is bound is made of, operator by operator; its kinds are those of its typing, and its leaves the streams.
use Rattle.std.proofs.Common.{◌≡◌, subst, ℕ, true, List, ◌++◌, map, slice_get, Option, Some, ◌∙◌, refl, sym, ap, ◌||◌, [], ◌∷◌, None}
use Rattle.rows_core.specs.declared.order.Key.{Key}
use Rattle.rows_core.specs.declared.schema.Column as schema
use Rattle.rows_core.specs.Schema.{kinds_of}
use Rattle.plan_core.specs.declared.agg.Agg.{Agg}
use Rattle.plan_core.specs.PlainExpr as bound
use Rattle.plan_core.specs.PlainPlan.{PlainPlan, Scan, Filter, Project, Group, Join, Concat, Order, leaves}
use Rattle.plan_core.specs.PlanTyping.{Kinds, all_there, column_kind_of, agg_kind, is_empty, plan_kinds, filter_kinds, project_kinds, group_kinds, join_kinds, concat_kinds, order_kinds}
use Rattle.plan_core.proofs.ValueKinds.{then_some, map_some, both_some, unless_some, where_some, slice_get-map}
use Rattle.plan_text.specs.declared.plan.NamedResult.{NamedResult}
use Rattle.plan_text.specs.declared.plan.NamedPair.{NamedPair}
use Rattle.plan_text.specs.declared.plan.NamedKey.{NamedKey}
use Rattle.plan_text.specs.PlainNamed as named
use Rattle.plan_text.specs.PlainNamed.{PlainColumn, PlainTree, From, Where, Select, streams_of}
use Rattle.plan_binder.specs.Binding.{Names, Bound, kind_or_int, with_columns, has_repeat, bound_expr, bound_agg, bound_pair, bound_key, place_of, projected, grouped, joined, bound_scan, bound_where, bound_select, bound_distinct, bound_group, bound_join, bound_concat, bound_order, bound_tree}
use Rattle.std.specs.Option.{option_map}
use Rattle.rows_core.specs.declared.kind.Kind as a_kind
use Rattle.std.proofs.lemmas.List.{map-append}

pub columns_some : (plan : PlainPlan) (names : Names) (kinds : Kinds) (b : Bound) → with_columns plan names kinds ≡ Some b
    → record { plan = plan; names = names; kinds = kinds } ≡ b
columns_some plan names kinds b e = some_same _ b (unless_some (has_repeat names) (Some (record { plan = plan; names = names; kinds = kinds })) b e)
  where
    some_same : (x y : Bound) → ◌≡◌ {A = Option Bound} (Some x) (Some y) → x ≡ y
    some_same x y e = cc

-- the plan is bound to this one, with these columns
pub data BoundAs (streams : Names) (schemas : List (List schema.Column)) : PlainTree → Bound → Type 0 where
  scan : {name : List ℕ} {number : ℕ} {columns : List schema.Column} → place_of streams name ≡ Some number → slice_get schemas number ≡ Some columns
      → BoundAs streams schemas (From name) (record { plan = Scan number; names = map (λ column. column.name) columns; kinds = kinds_of columns })
  filter : {child : PlainTree} {test : named.PlainExpr} {input : Bound} {e : bound.PlainExpr} → bound_tree streams schemas child ≡ Some input → BoundAs streams schemas child input
      → bound_expr input.names input.kinds test ≡ Some e → BoundAs streams schemas (Where child test) (record { plan = Filter input.plan e; names = input.names; kinds = input.kinds })
  select : {child : PlainTree} {columns : List PlainColumn} {input : Bound} {exprs : List bound.PlainExpr} → bound_tree streams schemas child ≡ Some input → BoundAs streams schemas child input
      → all_there (map (λ column. bound_expr input.names input.kinds column.expr) columns) ≡ Some exprs
      → BoundAs streams schemas (Select child columns) (record { plan = Project input.plan exprs; names = map (λ column. column.name) columns; kinds = map (λ e. kind_or_int (column_kind_of input.kinds e)) exprs })
  distinct : {child : PlainTree} {input : Bound} → BoundAs streams schemas child input → BoundAs streams schemas (named.Distinct child) (bound_distinct input)
  group : {child : PlainTree} {keys : Names} {results : List NamedResult} {input : Bound} {places : List ℕ} {aggs : List Agg} → BoundAs streams schemas child input
      → BoundAs streams schemas (named.Group child keys results) (record { plan = Group input.plan places aggs; names = keys ++ map (λ result. result.name) results; kinds = map (λ place. kind_or_int (slice_get input.kinds place)) places ++ map (λ a. kind_or_int (agg_kind input.kinds a)) aggs })
  join : {left right : PlainTree} {on : List NamedPair} {l r : Bound} {pairs : List (ℕ × ℕ)} → BoundAs streams schemas left l → BoundAs streams schemas right r
      → BoundAs streams schemas (named.Join left right on) (record { plan = Join l.plan r.plan pairs; names = l.names ++ r.names; kinds = l.kinds ++ r.kinds })
  concat : {left right : PlainTree} {l r : Bound} → BoundAs streams schemas left l → BoundAs streams schemas right r
      → BoundAs streams schemas (named.Concat left right) (record { plan = Concat l.plan r.plan; names = l.names; kinds = l.kinds })
  order : {child : PlainTree} {keys : List NamedKey} {input : Bound} {places : List Key} → BoundAs streams schemas child input
      → BoundAs streams schemas (named.Order child keys) (record { plan = Order input.plan places; names = input.names; kinds = input.kinds })

module _ (streams : Names) (schemas : List (List schema.Column)) where
  abbrev So : PlainTree → Bound → Type 0
  So tree b = BoundAs streams schemas tree b

  abbrev to : PlainTree → Option Bound
  to tree = bound_tree streams schemas tree

  pub parts : (tree : PlainTree) (b : Bound) → bound_tree streams schemas tree ≡ Some b → BoundAs streams schemas tree b
  parts (From name) b is =
      let number = then_some (bound_scan schemas) (place_of streams name) b is in
      let columns = map_some
      (λ columns. record { plan = Scan number.0; names = map (λ column. column.name) columns; kinds = kinds_of columns }) (slice_get schemas number.0) b number.1.1 in
      subst (So (From name)) columns.1.1 (scan number.1.0 columns.1.0)
  parts (Where child test) b is =
      let input = then_some (bound_where test) (to child) b is in
      let e = map_some (λ e. record { plan = Filter input.0.plan e; names = input.0.names; kinds = input.0.kinds }) (bound_expr input.0.names input.0.kinds test) b input.1.1 in
      subst (So (Where child test)) e.1.1 (filter input.1.0 (parts child input.0 input.1.0) e.1.0)
  parts (Select child columns) b is =
      let input = then_some (bound_select columns) (to child) b is in
      let names : Names = map (λ column. column.name) columns in
      let exprs = then_some (projected input.0 names) (all_there (map (λ column. bound_expr input.0.names input.0.kinds column.expr) columns)) b input.1.1 in
      let same = columns_some (Project input.0.plan exprs.0) names (map (λ e. kind_or_int (column_kind_of input.0.kinds e)) exprs.0) b exprs.1.1 in
      subst (So (Select child columns)) same (select input.1.0 (parts child input.0 input.1.0) exprs.1.0)
  parts (named.Distinct child) b is =
      let input = map_some bound_distinct (to child) b is in
      subst (So (named.Distinct child)) input.1.1 (distinct (parts child input.0 input.1.0))
  parts (named.Group child keys results) b is =
      let input = then_some (bound_group keys results) (to child) b is in
      let names : Names = keys ++ map (λ result. result.name) results in
      let both = both_some (grouped input.0 names) (all_there (map (place_of input.0.names) keys)) (all_there (map (λ result. bound_agg input.0.names result.agg) results)) b input.1.1 in
      let same = columns_some (Group input.0.plan both.left both.right) names
      (map (λ place. kind_or_int (slice_get input.0.kinds place)) both.left ++ map (λ a. kind_or_int (agg_kind input.0.kinds a)) both.right) b both.gives in
      subst (So (named.Group child keys results)) same (group (parts child input.0 input.1.0))
  parts (named.Join left right on) b is =
      let both = both_some (bound_join on) (to left) (to right) b is in
      let pairs = then_some (joined both.left both.right) (all_there (map (bound_pair both.left.names both.right.names) on)) b both.gives in
      let same = columns_some (Join both.left.plan both.right.plan pairs.0) (both.left.names ++ both.right.names) (both.left.kinds ++ both.right.kinds) b pairs.1.1 in
      subst (So (named.Join left right on)) same (join (parts left both.left both.left_there) (parts right both.right both.right_there))
  parts (named.Concat left right) b is =
      let both = both_some bound_concat (to left) (to right) b is in
      let same = where_some true (record { plan = Concat both.left.plan both.right.plan; names = both.left.names; kinds = both.left.kinds }) b both.gives in
      subst (So (named.Concat left right)) same (concat (parts left both.left both.left_there) (parts right both.right both.right_there))
  parts (named.Order child keys) b is =
      let input = then_some (bound_order keys) (to child) b is in
      let places = map_some (λ places. record { plan = Order input.0.plan places; names = input.0.names; kinds = input.0.kinds }) (all_there (map (bound_key input.0.names) keys)) b input.1.1 in
      subst (So (named.Order child keys)) places.1.1 (order (parts child input.0 input.1.0))

kinds_there : {A : Type 0} (f : A → Option a_kind.Kind) (xs : List A) (ks : Kinds) → all_there (map f xs) ≡ Some ks → map (λ x. kind_or_int (f x)) xs ≡ ks
kinds_there f [] ks e = cc
kinds_there f (x ∷ xs) ks e = go (f x) refl e (kinds_there f xs)
  where
    go : (o : Option a_kind.Kind) → f x ≡ o → all_there (o ∷ map f xs) ≡ Some ks
        → ((others : Kinds) → all_there (map f xs) ≡ Some others → map (λ x. kind_or_int (f x)) xs ≡ others)
        → map (λ x. kind_or_int (f x)) (x ∷ xs) ≡ ks
    go None is e tails = absurd cc
    go (Some k) is e tails =
        let rest = then_some (λ (others : Kinds). Some (k ∷ others)) (all_there (map f xs)) ks e in
        let tail : map (λ x. kind_or_int (f x)) xs ≡ rest.0 = tails rest.0 rest.1.0 in
        let head : kind_or_int (f x) ≡ k = ap kind_or_int is in
        let all : k ∷ rest.0 ≡ ks = where_some true (k ∷ rest.0) ks rest.1.1 in
        (λ i. head i ∷ tail i) ∙ all

abbrev pub HasTypedKinds : List Kinds → Bound → Type 0
HasTypedKinds schemas b = (kinds : Kinds) → plan_kinds schemas b.plan ≡ Some kinds → b.kinds ≡ kinds

some_same : (x y : Kinds) → ◌≡◌ {A = Option Kinds} (Some x) (Some y) → x ≡ y
some_same x y e = cc

module _ (streams : Names) (schemas : List (List schema.Column)) where
  typed_kinds : {tree : PlainTree} {b : Bound} → BoundAs streams schemas tree b → HasTypedKinds (map kinds_of schemas) b
  typed_kinds (scan {number = number} {columns = columns} at there) = λ kinds typed.
      some_same (kinds_of columns) kinds (sym (ap (option_map kinds_of) there) ∙ sym (slice_get-map kinds_of schemas number) ∙ typed)
  typed_kinds (filter {input = input} {e = e} is x at) = λ kinds typed.
      let child = then_some (filter_kinds e) (plan_kinds (map kinds_of schemas) input.plan) kinds typed in
      typed_kinds x child.0 child.1.0 ∙ where_some _ child.0 kinds child.1.1
  typed_kinds (select {input = input} {exprs = exprs} is x there) = λ kinds typed.
      let child = then_some (project_kinds exprs) (plan_kinds (map kinds_of schemas) input.plan) kinds typed in
      ap (λ (ks : Kinds). map (λ e. kind_or_int (column_kind_of ks e)) exprs) (typed_kinds x child.0 child.1.0)
      ∙ kinds_there (column_kind_of child.0) exprs kinds (unless_some (is_empty exprs) (all_there (map (column_kind_of child.0) exprs)) kinds child.1.1)
  typed_kinds (distinct x) = typed_kinds x
  typed_kinds (group {input = input} {places = places} {aggs = aggs} x) = λ kinds typed.
      let child = then_some (group_kinds places aggs) (plan_kinds (map kinds_of schemas) input.plan) kinds typed in
      let both = both_some (λ (ks js : Kinds). Some (ks ++ js)) (all_there (map (slice_get child.0) places)) (all_there (map (agg_kind child.0) aggs)) kinds
      (unless_some (is_empty places || is_empty aggs) _ kinds child.1.1) in
      let key_part = kinds_there (slice_get child.0) places both.left both.left_there in
      let agg_part = kinds_there (agg_kind child.0) aggs both.right both.right_there in
      let all : both.left ++ both.right ≡ kinds = where_some true (both.left ++ both.right) kinds both.gives in
      ap (λ (ks : Kinds). map (λ place. kind_or_int (slice_get ks place)) places ++ map (λ a. kind_or_int (agg_kind ks a)) aggs) (typed_kinds x child.0 child.1.0)
      ∙ (λ i. key_part i ++ agg_part i) ∙ all
  typed_kinds (join {l = l} {r = r} {pairs = pairs} x y) = λ kinds typed.
      let both = both_some (join_kinds pairs) (plan_kinds (map kinds_of schemas) l.plan) (plan_kinds (map kinds_of schemas) r.plan) kinds typed in
      let lefts = typed_kinds x both.left both.left_there in
      let rights = typed_kinds y both.right both.right_there in
      (λ i. lefts i ++ rights i) ∙ where_some _ (both.left ++ both.right) kinds (unless_some (is_empty pairs) _ kinds both.gives)
  typed_kinds (concat {l = l} {r = r} x y) = λ kinds typed.
      let both = both_some concat_kinds (plan_kinds (map kinds_of schemas) l.plan) (plan_kinds (map kinds_of schemas) r.plan) kinds typed in
      typed_kinds x both.left both.left_there ∙ where_some _ both.left kinds both.gives
  typed_kinds (order {input = input} {places = places} x) = λ kinds typed.
      let child = then_some (order_kinds places) (plan_kinds (map kinds_of schemas) input.plan) kinds typed in
      typed_kinds x child.0 child.1.0 ∙ where_some _ child.0 kinds (unless_some (is_empty places) _ kinds child.1.1)

  pub bound_kinds : (tree : PlainTree) (b : Bound) → bound_tree streams schemas tree ≡ Some b → HasTypedKinds (map kinds_of schemas) b
  bound_kinds tree b is = typed_kinds (parts streams schemas tree b is)

module _ (streams : Names) (schemas : List (List schema.Column)) where
  abbrev LeavesOf : PlainTree → Bound → Type 0
  LeavesOf tree b = map Some (leaves b.plan) ≡ map (place_of streams) (streams_of tree)

  two_leaves : (left right : PlainTree) (l r : Bound) → LeavesOf left l → LeavesOf right r
      → map Some (leaves l.plan ++ leaves r.plan) ≡ map (place_of streams) (streams_of left ++ streams_of right)
  two_leaves left right l r e f =
      map-append Some (leaves l.plan) (leaves r.plan) ∙ (λ i. e i ++ f i) ∙ sym (map-append (place_of streams) (streams_of left) (streams_of right))

  placed : {tree : PlainTree} {b : Bound} → BoundAs streams schemas tree b → LeavesOf tree b
  placed (scan at there) = ap (λ (o : Option ℕ). o ∷ []) (sym at)
  placed (filter is x at) = placed x
  placed (select is x there) = placed x
  placed (distinct x) = placed x
  placed (group x) = placed x
  placed (join {left = left} {right = right} {l = l} {r = r} x y) = two_leaves left right l r (placed x) (placed y)
  placed (concat {left = left} {right = right} {l = l} {r = r} x y) = two_leaves left right l r (placed x) (placed y)
  placed (order x) = placed x

  pub bound_leaves : (tree : PlainTree) (b : Bound) → bound_tree streams schemas tree ≡ Some b → map Some (leaves b.plan) ≡ map (place_of streams) (streams_of tree)
  bound_leaves tree b is = placed (parts streams schemas tree b is)
