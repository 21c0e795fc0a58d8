-- A normal plan isn't deep. On each way down, tests that are joined share the room that each of them had for one `and`, and
-- columns over columns take no more room than both had.
use Rattle.std.proofs.Common.{◌≡◌, refl, sym, subst, ℕ, zero, suc, ◌+◌, ◌*◌, ◌≤◌, max, nat_le, Bool, true, false, ◌||◌, ◌==◌, cond, List, [], ◌∷◌, map, slice_get, Option, None, Some, unwrap_or, arith}
use Rattle.std.specs.Option.{option_map}
use Rattle.scalar_ops.specs.declared.cell.Cell.{Cell}
use Rattle.plan_core.specs.PlainExpr.{PlainExpr, Column, Literal, Call1, Call2, And, Or, If}
use Rattle.plan_core.specs.PlainPlan.{PlainPlan, Scan, Filter, Project, Distinct, Group, Join, Concat, Order}
use Rattle.plan_core.specs.PlanTyping.{Kinds}
use Rattle.plan_canon.specs.ExprRules.{truth, is_true, is_false, call1_rule, call2_rule}
use Rattle.plan_canon.specs.PlanRules.{width, may_fuse, put_in, uses, uses_in, is_plain, none_repeats, may_overflow, are_columns}
use Rattle.plan_canon.specs.NormalExpr.{and_of, or_of, normal_expr, normal_exprs}
use Rattle.plan_canon.specs.NormalPlan.{filter_of, project_last, project_of, normal_plan}
use Rattle.plan_core.specs.Nesting.{size, sizes, expr_count, node_count, expr_nesting, greatest_nesting, nesting}
use Rattle.std.specs.List.{list_all}
use Rattle.std.specs.Prelude.{not}
use Rattle.std.proofs.lemmas.Bool.{and_parts, eq-eqb}

some_size : (e : PlainExpr) → 1 ≤ size e
some_size (Column i) = omega arith
some_size (Literal c) = omega arith
some_size _ = omega arith

-- ---- normal expressions aren't larger

literal_size : (o : Option Cell) (e : PlainExpr) → size (unwrap_or (option_map Literal o) e) ≤ size e
literal_size None e = omega arith
literal_size (Some c) e = some_size e

flat_size : (t u f : Bool) (a b w z : PlainExpr) → size w ≡ 1 → size z ≡ 1 + size a + size b → size (cond t b (cond u a (cond f w z))) ≤ 1 + size a + size b
flat_size true u f a b w z p q = omega arith
flat_size false true f a b w z p q = omega arith
flat_size false false true a b w z p q = omega (arith, p)
flat_size false false false a b w z p q = omega (arith, q)

nested_size : (t f : Bool) (b w z : PlainExpr) (n : ℕ) → size b ≤ n → size w ≤ n → size z ≤ n → size (cond t b (cond f w z)) ≤ n
nested_size true f b w z n hb hw hz = hb
nested_size false true b w z n hb hw hz = hw
nested_size false false b w z n hb hw hz = hz

pub and_size : (a b : PlainExpr) → size (and_of a b) ≤ 1 + size a + size b
and_size a (And b c) = nested_size (is_true a) (is_false a) (And b c) (truth false) (And (and_of a b) c) (1 + size a + (1 + size b + size c)) (omega arith) (omega arith) (omega (arith, and_size a b))
and_size a b = flat_size (is_true a) (is_true b) (is_false a) a b (truth false) (And a b) refl refl

or_size : (a b : PlainExpr) → size (or_of a b) ≤ 1 + size a + size b
or_size a (Or b c) = nested_size (is_false a) (is_true a) (Or b c) (truth true) (Or (or_of a b) c) (1 + size a + (1 + size b + size c)) (omega arith) (omega arith) (omega (arith, or_size a b))
or_size a b = flat_size (is_false a) (is_false b) (is_true a) a b (truth true) (Or a b) refl refl

trans_le : (a b c : ℕ) → a ≤ b → b ≤ c → a ≤ c
trans_le a b c p q = omega (arith, p, q)

pub normal_size : (e : PlainExpr) → size (normal_expr e) ≤ size e
normal_size (Column i) = omega arith
normal_size (Literal c) = omega arith
normal_size (Call1 row a) = trans_le _ (1 + size (normal_expr a)) _ (literal_size (call1_rule row (normal_expr a)) (Call1 row (normal_expr a))) (omega (arith, normal_size a))
normal_size (Call2 row a b) = trans_le _ (1 + size (normal_expr a) + size (normal_expr b)) _ (literal_size (call2_rule row (normal_expr a) (normal_expr b)) (Call2 row (normal_expr a) (normal_expr b))) (omega (arith, normal_size a, normal_size b))
normal_size (And a b) = trans_le _ (1 + size (normal_expr a) + size (normal_expr b)) _ (and_size (normal_expr a) (normal_expr b)) (omega (arith, normal_size a, normal_size b))
normal_size (Or a b) = trans_le _ (1 + size (normal_expr a) + size (normal_expr b)) _ (or_size (normal_expr a) (normal_expr b)) (omega (arith, normal_size a, normal_size b))
normal_size (If c a b) =
    nested_size (is_true (normal_expr c)) (is_false (normal_expr c)) (normal_expr a) (normal_expr b) (If (normal_expr c) (normal_expr a) (normal_expr b)) (size (If c a b))
    (omega (arith, normal_size a)) (omega (arith, normal_size b)) (omega (arith, normal_size c, normal_size a, normal_size b))

pub normal_sizes : (es : List PlainExpr) → sizes (normal_exprs es) ≤ sizes es
normal_sizes [] = omega arith
normal_sizes (e ∷ es) = omega (arith, normal_size e, normal_sizes es)

-- ---- columns over columns

more_room : (a b c : ℕ) → a ≤ c → a ≤ b + c
more_room a b c p = omega (arith, p)

both_rooms : (a b c d : ℕ) → a ≤ c → b ≤ d → a + b ≤ c + d
both_rooms a b c d p q = omega (arith, p, q)

four_rooms : (a b c d e f : ℕ) → a ≤ b → b ≤ c + d → d ≤ e → e ≤ f → a ≤ c + f
four_rooms a b c d e f p q r s = omega (arith, p, q, r, s)

two_is_more : (u : ℕ) → nat_le (suc (suc u)) 1 ≡ true → ⊥
two_is_more u e = grind arith

-- what a use of it adds
abbrev load : PlainExpr → ℕ
load e = cond (is_plain e) 0 (size e)

-- what the uses of these columns add, counted from i
abbrev loads : ℕ → List PlainExpr → (ℕ → ℕ) → ℕ
loads i [] u = 0
loads i (e ∷ es) u = u i * load e + loads (i + 1) es u

loads_sum : (i : ℕ) (es : List PlainExpr) (u v : ℕ → ℕ) → loads i es (λ j. u j + v j) ≡ loads i es u + loads i es v
loads_sum i [] u v = omega arith
loads_sum i (e ∷ es) u v = omega (arith, loads_sum (i + 1) es u v)

one_load : (i j : ℕ) (es : List PlainExpr) → unwrap_or (option_map load (slice_get es j)) 0 ≤ loads i es (λ m. cond (m == i + j) 1 0)
one_load i j [] = omega arith
one_load i zero (e ∷ es) = let here : (i == i + 0) ≡ true = eq-eqb i (i + 0) (omega arith) in first here
  where
    first : (i == i + 0) ≡ true → load e ≤ cond (i == i + 0) 1 0 * load e + loads (i + 1) es (λ m. cond (m == i + 0) 1 0)
    first here = subst (λ t. load e ≤ cond t 1 0 * load e + loads (i + 1) es (λ m. cond (m == i + 0) 1 0)) (sym here) (omega arith)
one_load i (suc j) (e ∷ es) =
    let there : i + 1 + j ≡ i + suc j = omega arith in
    let rest = subst (λ n. unwrap_or (option_map load (slice_get es j)) 0 ≤ loads (i + 1) es (λ m. cond (m == n) 1 0)) there (one_load (i + 1) j es) in
    more_room _ _ _ rest

-- what the columns of an expression add
abbrev extra : List PlainExpr → PlainExpr → ℕ
extra es (Column j) = unwrap_or (option_map load (slice_get es j)) 0
extra es (Literal c) = 0
extra es (Call1 row a) = extra es a
extra es (Call2 row a b) = extra es a + extra es b
extra es (And a b) = extra es a + extra es b
extra es (Or a b) = extra es a + extra es b
extra es (If c a b) = extra es c + extra es a + extra es b

abbrev extras : List PlainExpr → List PlainExpr → ℕ
extras es [] = 0
extras es (f ∷ fs) = extra es f + extras es fs

loaded : (e : PlainExpr) → size e ≤ 1 + load e
loaded (Column i) = omega arith
loaded (Literal c) = omega arith
loaded _ = omega arith

put_size : (es : List PlainExpr) (f : PlainExpr) → size (put_in es f) ≤ size f + extra es f
put_size es (Column j) = by (slice_get es j)
  where
    by : (o : Option PlainExpr) → size (unwrap_or o (Column j)) ≤ 1 + unwrap_or (option_map load o) 0
    by None = omega arith
    by (Some e) = loaded e
put_size es (Literal c) = omega arith
put_size es (Call1 row a) = omega (arith, put_size es a)
put_size es (Call2 row a b) = omega (arith, put_size es a, put_size es b)
put_size es (And a b) = omega (arith, put_size es a, put_size es b)
put_size es (Or a b) = omega (arith, put_size es a, put_size es b)
put_size es (If c a b) = omega (arith, put_size es c, put_size es a, put_size es b)

put_sizes : (es fs : List PlainExpr) → sizes (map (put_in es) fs) ≤ sizes fs + extras es fs
put_sizes es [] = omega arith
put_sizes es (f ∷ fs) = omega (arith, put_size es f, put_sizes es fs)

two_loads : (es : List PlainExpr) (u v : ℕ → ℕ) (a b : ℕ) → a ≤ loads 0 es u → b ≤ loads 0 es v → a + b ≤ loads 0 es (λ m. u m + v m)
two_loads es u v a b p q = omega (arith, p, q, loads_sum 0 es u v)

extra_loads : (es : List PlainExpr) (f : PlainExpr) → extra es f ≤ loads 0 es (λ m. uses m f)
extra_loads es (Column j) = let none : 0 + j ≡ j = omega arith in subst (λ n. extra es (Column j) ≤ loads 0 es (λ m. cond (m == n) 1 0)) none (one_load 0 j es)
extra_loads es (Literal c) = omega arith
extra_loads es (Call1 row a) = extra_loads es a
extra_loads es (Call2 row a b) = two_loads es (λ m. uses m a) (λ m. uses m b) (extra es a) (extra es b) (extra_loads es a) (extra_loads es b)
extra_loads es (And a b) = two_loads es (λ m. uses m a) (λ m. uses m b) (extra es a) (extra es b) (extra_loads es a) (extra_loads es b)
extra_loads es (Or a b) = two_loads es (λ m. uses m a) (λ m. uses m b) (extra es a) (extra es b) (extra_loads es a) (extra_loads es b)
extra_loads es (If c a b) =
    two_loads es (λ m. uses m c + uses m a) (λ m. uses m b) (extra es c + extra es a) (extra es b)
    (two_loads es (λ m. uses m c) (λ m. uses m a) (extra es c) (extra es a) (extra_loads es c) (extra_loads es a)) (extra_loads es b)

extras_loads : (es fs : List PlainExpr) → extras es fs ≤ loads 0 es (λ m. uses_in m fs)
extras_loads es [] = omega arith
extras_loads es (f ∷ fs) = two_loads es (λ m. uses m f) (λ m. uses_in m fs) (extra es f) (extras es fs) (extra_loads es f) (extras_loads es fs)

one_use : (plain : Bool) (u s : ℕ) → (plain || nat_le u 1) ≡ true → u * cond plain 0 s ≤ s
one_use true u s e = omega arith
one_use false zero s e = omega arith
one_use false (suc zero) s e = omega arith
one_use false (suc (suc u)) s e = absurd (two_is_more u e)

few_loads : (i : ℕ) (es fs : List PlainExpr) → none_repeats i es fs ≡ true → loads i es (λ m. uses_in m fs) ≤ sizes es
few_loads i [] fs e = omega arith
few_loads i (x ∷ es) fs e =
    let parts = and_parts (is_plain x || nat_le (uses_in i fs) 1) (none_repeats (i + 1) es fs) e in
    both_rooms _ _ _ _ (one_use (is_plain x) (uses_in i fs) (size x) parts.0) (few_loads (i + 1) es fs parts.1)

pub fused_size : (es fs : List PlainExpr) → may_fuse es fs ≡ true → sizes (normal_exprs (map (put_in es) fs)) ≤ sizes fs + sizes es
fused_size es fs e =
    let none = (and_parts (list_all (λ e. not (may_overflow e)) es) (none_repeats 0 es fs) e).1 in
    four_rooms _ _ _ _ _ _ (normal_sizes (map (put_in es) fs)) (put_sizes es fs) (extras_loads es fs) (few_loads 0 es fs none)

-- ---- the room on each way down

abbrev pub room : PlainPlan → ℕ
room (Scan stream) = 1
room (Filter p a) = 2 + size a + room p
room (Project p es) = 1 + sizes es + room p
room (Distinct p) = 1 + room p
room (Group p keys aggs) = 1 + room p
room (Join p q on) = 1 + max (room p) (room q)
room (Concat p q) = 1 + max (room p) (room q)
room (Order p keys) = 1 + room p

room_filter : (p : PlainPlan) (a : PlainExpr) → room (filter_of p a) ≤ 2 + size a + room p
room_filter (Filter p b) a = omega (arith, room_filter p (and_of b a), and_size b a)
room_filter (Concat p q) a = omega (arith, room_filter p a, room_filter q a)
room_filter (Order p keys) a = omega (arith, room_filter p a)
room_filter (Distinct p) a = omega (arith, room_filter p a)
room_filter p a = by (is_true a)
  where
    by : (t : Bool) → room (cond t p (Filter p a)) ≤ 2 + size a + room p
    by true = omega arith
    by false = omega arith

module _ (schemas : List Kinds) where
  room_last : (p : PlainPlan) (fs : List PlainExpr) → room (project_last schemas p fs) ≤ 1 + sizes fs + room p
  room_last p fs = by (are_columns (width schemas p) fs)
    where
      by : (t : Bool) → room (cond t p (Project p fs)) ≤ 1 + sizes fs + room p
      by true = omega arith
      by false = omega arith

  room_project : (p : PlainPlan) (fs : List PlainExpr) → room (project_of schemas p fs) ≤ 1 + sizes fs + room p
  room_project (Project p es) fs = by (may_fuse es fs) refl (room_project p (normal_exprs (map (put_in es) fs)))
    where
      by : (t : Bool) → may_fuse es fs ≡ t → room (project_of schemas p (normal_exprs (map (put_in es) fs))) ≤ 1 + sizes (normal_exprs (map (put_in es) fs)) + room p
          → room (cond t (project_of schemas p (normal_exprs (map (put_in es) fs))) (project_last schemas (Project p es) fs)) ≤ 1 + sizes fs + (1 + sizes es + room p)
      by true e rest = omega (arith, rest, fused_size es fs e)
      by false e rest = room_last (Project p es) fs
  room_project p fs = room_last p fs

  pub room_normal : (p : PlainPlan) → room (normal_plan schemas p) ≤ room p
  room_normal (Scan stream) = omega arith
  room_normal (Filter p a) = omega (arith, room_filter (normal_plan schemas p) (normal_expr a), normal_size a, room_normal p)
  room_normal (Project p es) = omega (arith, room_project (normal_plan schemas p) (normal_exprs es), normal_sizes es, room_normal p)
  room_normal (Distinct p) = omega (arith, room_normal p)
  room_normal (Group p keys aggs) = omega (arith, room_normal p)
  room_normal (Join p q on) = omega (arith, room_normal p, room_normal q)
  room_normal (Concat p q) = omega (arith, room_normal p, room_normal q)
  room_normal (Order p keys) = omega (arith, room_normal p)

expr_nesting_size : (e : PlainExpr) → expr_nesting e ≤ size e
expr_nesting_size (Column i) = omega arith
expr_nesting_size (Literal c) = omega arith
expr_nesting_size (Call1 row a) = omega (arith, expr_nesting_size a)
expr_nesting_size (Call2 row a b) = omega (arith, expr_nesting_size a, expr_nesting_size b)
expr_nesting_size (And a b) = omega (arith, expr_nesting_size a, expr_nesting_size b)
expr_nesting_size (Or a b) = omega (arith, expr_nesting_size a, expr_nesting_size b)
expr_nesting_size (If c a b) = omega (arith, expr_nesting_size c, expr_nesting_size a, expr_nesting_size b)

greatest_nesting_size : (es : List PlainExpr) → greatest_nesting es ≤ sizes es
greatest_nesting_size [] = omega arith
greatest_nesting_size (e ∷ es) = omega (arith, expr_nesting_size e, greatest_nesting_size es)

nesting_room : (p : PlainPlan) → nesting p ≤ room p
nesting_room (Scan stream) = omega arith
nesting_room (Filter p a) = omega (arith, nesting_room p, expr_nesting_size a)
nesting_room (Project p es) = omega (arith, nesting_room p, greatest_nesting_size es)
nesting_room (Distinct p) = omega (arith, nesting_room p)
nesting_room (Group p keys aggs) = omega (arith, nesting_room p)
nesting_room (Join p q on) = omega (arith, nesting_room p, nesting_room q)
nesting_room (Concat p q) = omega (arith, nesting_room p, nesting_room q)
nesting_room (Order p keys) = omega (arith, nesting_room p)

room_counts : (p : PlainPlan) → room p ≤ expr_count p + (node_count p + node_count p)
room_counts (Scan stream) = omega arith
room_counts (Filter p a) = omega (arith, room_counts p)
room_counts (Project p es) = omega (arith, room_counts p)
room_counts (Distinct p) = omega (arith, room_counts p)
room_counts (Group p keys aggs) = omega (arith, room_counts p)
room_counts (Join p q on) = omega (arith, room_counts p, room_counts q)
room_counts (Concat p q) = omega (arith, room_counts p, room_counts q)
room_counts (Order p keys) = omega (arith, room_counts p)

pub not_deep : (schemas : List Kinds) (p : PlainPlan) → nesting (normal_plan schemas p) ≤ expr_count p + 2 * node_count p
not_deep schemas p = omega (arith, nesting_room (normal_plan schemas p), room_normal schemas p, room_counts p)

-- within the limits of written plans: 40 operators and leaves, and 512 nodes of expressions
pub within_limits : (schemas : List Kinds) (p : PlainPlan) → node_count p ≤ 40 → expr_count p ≤ 512 → nesting (normal_plan schemas p) ≤ 1024
within_limits schemas p few small = omega (arith, not_deep schemas p, few, small)
