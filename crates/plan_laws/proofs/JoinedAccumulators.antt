-- What is kept for an aggregate of joined lists of rows.
use Rattle.std.proofs.Common.{◌≡◌, refl, sym, ap, ◌∙◌, suc, ℕ, ◌-◌, Bool, true, false, true≢false, cond, List, [], ◌∷◌, ◌++◌, map, length, unwrap_or, ◌+ℤ◌, arith}
use Rattle.std.specs.List.{slice_get}
use Rattle.std.specs.Ordering.{is_le, is_ge, ordering_reverse}
use Rattle.std.specs.declared.cmp.Ordering.{Ordering}
use Rattle.std.specs.declared.cmp.Ordering.TheVariants.{Less, Equal, Greater}
use Rattle.std.proofs.lemmas.Int.{ints}
use Rattle.std.proofs.lemmas.List.{map-append, length-append}
use Rattle.rows_core.specs.declared.value.Value.{Value}
use Rattle.rows_core.specs.Value.{value_cmp}
use Rattle.rows_core.proofs.TotalOrder.{value_cmp_total}
use Rattle.row_blob.specs.declared.kept.Acc.TheVariants as acc
use Rattle.plan_core.specs.declared.agg.Agg.{Agg}
use Rattle.plan_core.specs.declared.agg.Agg.TheVariants as agg
use Rattle.plan_core.specs.Aggregate.{exact_sum, values_of, lesser, greater, least_value, greatest_value, last_value}
use Rattle.plan_core.specs.Columns.{Row, Rows, column_of, no_value}
use Rattle.plan_laws.specs.KeptForm.{acc_of}
use Rattle.plan_laws.specs.GrowthOfGroups.{joined_acc, joined_accs}

-- ---- of two values the one that the test holds for, the first of equal ones

module _ (first : Value → Value → Bool) (trans : (a b c : Value) → first a b ≡ true → first b c ≡ true → first a c ≡ true) (back : (a b c : Value) → first a b ≡ false → first b c ≡ false → first a c ≡ false) where
  pub chosen_assoc : (a b c : Value) → cond (first a (cond (first b c) b c)) a (cond (first b c) b c) ≡ cond (first (cond (first a b) a b) c) (cond (first a b) a b) c
  chosen_assoc a b c = by (first a b) (first b c) refl refl
    where
      by : (p q : Bool) → first a b ≡ p → first b c ≡ q → cond (first a (cond q b c)) a (cond q b c) ≡ cond (first (cond p a b) c) (cond p a b) c
      by true true e f = ap (λ r. cond r a b) e ∙ sym (ap (λ r. cond r a c) (trans a b c e f))
      by true false e f = refl
      by false true e f = ap (λ r. cond r a b) e ∙ sym (ap (λ r. cond r b c) f)
      by false false e f = ap (λ r. cond r a c) (back a b c e f) ∙ sym (ap (λ r. cond r b c) f)

turned : (a b : Value) → is_ge (value_cmp a b) ≡ is_le (value_cmp b a)
turned a b = ap is_ge (value_cmp_total.antisymm a b) ∙ by (value_cmp b a)
  where
    by : (o : Ordering) → is_ge (ordering_reverse o) ≡ is_le o
    by Less = refl
    by Equal = refl
    by Greater = refl

le_trans : (a b c : Value) → is_le (value_cmp a b) ≡ true → is_le (value_cmp b c) ≡ true → is_le (value_cmp a c) ≡ true
le_trans a b c h k = by (value_cmp a b) (value_cmp b c) refl refl h k
  where
    by : (o p : Ordering) → value_cmp a b ≡ o → value_cmp b c ≡ p → is_le o ≡ true → is_le p ≡ true → is_le (value_cmp a c) ≡ true
    by Less Less e f h k = ap is_le (value_cmp_total.trans a b c e f)
    by Less Equal e f h k = ap is_le (value_cmp_total.antisymm a c ∙ ap ordering_reverse (sym (value_cmp_total.congr b c a f)) ∙ sym (value_cmp_total.antisymm a b) ∙ e)
    by Less Greater e f h k = absurd (true≢false (sym k))
    by Equal p e f h k = ap is_le (value_cmp_total.congr a b c e ∙ f) ∙ k
    by Greater p e f h k = absurd (true≢false (sym h))

gt_trans : (a b c : Value) → is_le (value_cmp a b) ≡ false → is_le (value_cmp b c) ≡ false → is_le (value_cmp a c) ≡ false
gt_trans a b c h k = by (value_cmp a b) (value_cmp b c) refl refl h k
  where
    is_less : (x y : Value) → value_cmp x y ≡ Greater → value_cmp y x ≡ Less
    is_less x y e = value_cmp_total.antisymm y x ∙ ap ordering_reverse e

    by : (o p : Ordering) → value_cmp a b ≡ o → value_cmp b c ≡ p → is_le o ≡ false → is_le p ≡ false → is_le (value_cmp a c) ≡ false
    by Less p e f h k = absurd (true≢false h)
    by Equal p e f h k = absurd (true≢false h)
    by Greater Less e f h k = absurd (true≢false k)
    by Greater Equal e f h k = absurd (true≢false k)
    by Greater Greater e f h k = ap is_le (value_cmp_total.antisymm a c ∙ ap ordering_reverse (value_cmp_total.trans c b a (is_less b c f) (is_less a b e)))

lesser_assoc : (a b c : Value) → lesser a (lesser b c) ≡ lesser (lesser a b) c
lesser_assoc = chosen_assoc (λ a b. is_le (value_cmp a b)) le_trans gt_trans

greater_assoc : (a b c : Value) → greater a (greater b c) ≡ greater (greater a b) c
greater_assoc = chosen_assoc (λ a b. is_ge (value_cmp a b))
    (λ a b c h k. turned a c ∙ le_trans c b a (sym (turned b c) ∙ k) (sym (turned a b) ∙ h))
    (λ a b c h k. turned a c ∙ gt_trans c b a (sym (turned b c) ∙ k) (sym (turned a b) ∙ h))

-- ---- aggregates of joined lists that have values

least_joined : (v : Value) (vs : List Value) (w : Value) (ws : List Value) → least_value ((v ∷ vs) ++ w ∷ ws) ≡ lesser (least_value (v ∷ vs)) (least_value (w ∷ ws))
least_joined v [] w ws = refl
least_joined v (u ∷ vs) w ws = ap (lesser v) (least_joined u vs w ws) ∙ lesser_assoc v (least_value (u ∷ vs)) (least_value (w ∷ ws))

greatest_joined : (v : Value) (vs : List Value) (w : Value) (ws : List Value) → greatest_value ((v ∷ vs) ++ w ∷ ws) ≡ greater (greatest_value (v ∷ vs)) (greatest_value (w ∷ ws))
greatest_joined v [] w ws = refl
greatest_joined v (u ∷ vs) w ws = ap (greater v) (greatest_joined u vs w ws) ∙ greater_assoc v (greatest_value (u ∷ vs)) (greatest_value (w ∷ ws))

last_behind : (v u : Value) (vs : List Value) → last_value (v ∷ u ∷ vs) ≡ last_value (u ∷ vs)
last_behind v u vs =
    let same : length (v ∷ u ∷ vs) - 1 ≡ suc (length (u ∷ vs) - 1) = omega arith in
    ap (λ i. unwrap_or (slice_get (v ∷ u ∷ vs) i) no_value) same

last_joined : (vs : List Value) (w : Value) (ws : List Value) → last_value (vs ++ w ∷ ws) ≡ last_value (w ∷ ws)
last_joined [] w ws = refl
last_joined (v ∷ []) w ws = last_behind v w ws
last_joined (v ∷ u ∷ vs) w ws = last_behind v u (vs ++ w ∷ ws) ∙ last_joined (u ∷ vs) w ws

sum_joined : (vs ws : List Value) → exact_sum (vs ++ ws) ≡ exact_sum vs +ℤ exact_sum ws
sum_joined [] ws = omega (arith, ints)
sum_joined (v ∷ vs) ws = let rest = sum_joined vs ws in omega (arith, ints, rest)

values_joined : (column : ℕ) (olds news : Rows) → values_of column (olds ++ news) ≡ values_of column olds ++ values_of column news
values_joined column olds news = map-append (λ row. column_of row column) olds news

module _ (o : Row) (os : Rows) (n : Row) (ns : Rows) where
  acc_joined : (a : Agg) → acc_of ((o ∷ os) ++ n ∷ ns) a ≡ joined_acc a (acc_of (o ∷ os) a) (acc_of (n ∷ ns) a)
  acc_joined agg.Count = ap acc.Count (length-append (o ∷ os) (n ∷ ns))
  acc_joined (agg.Sum c) = ap (λ l. acc.Sum (exact_sum l)) (values_joined c (o ∷ os) (n ∷ ns)) ∙ ap acc.Sum (sum_joined (values_of c (o ∷ os)) (values_of c (n ∷ ns)))
  acc_joined (agg.Min c) =
      ap (λ l. acc.Pick (least_value l)) (values_joined c (o ∷ os) (n ∷ ns)) ∙ ap acc.Pick (least_joined (column_of o c) (values_of c os) (column_of n c) (values_of c ns))
  acc_joined (agg.Max c) =
      ap (λ l. acc.Pick (greatest_value l)) (values_joined c (o ∷ os) (n ∷ ns)) ∙ ap acc.Pick (greatest_joined (column_of o c) (values_of c os) (column_of n c) (values_of c ns))
  acc_joined (agg.First c) = refl
  acc_joined (agg.Last c) = ap (λ l. acc.Pick (last_value l)) (values_joined c (o ∷ os) (n ∷ ns)) ∙ ap acc.Pick (last_joined (values_of c (o ∷ os)) (column_of n c) (values_of c ns))
  acc_joined (agg.Avg c) =
      ap (λ l. acc.Avg (exact_sum l) (length ((o ∷ os) ++ n ∷ ns))) (values_joined c (o ∷ os) (n ∷ ns))
      ∙ ap (λ s. acc.Avg s (length ((o ∷ os) ++ n ∷ ns))) (sum_joined (values_of c (o ∷ os)) (values_of c (n ∷ ns)))
      ∙ ap (acc.Avg (exact_sum (values_of c (o ∷ os)) +ℤ exact_sum (values_of c (n ∷ ns)))) (length-append (o ∷ os) (n ∷ ns))

  pub accs_joined : (aggs : List Agg) → map (acc_of ((o ∷ os) ++ n ∷ ns)) aggs ≡ joined_accs aggs (map (acc_of (o ∷ os)) aggs) (map (acc_of (n ∷ ns)) aggs)
  accs_joined [] = refl
  accs_joined (a ∷ aggs) = ap (λ x. x ∷ map (acc_of ((o ∷ os) ++ n ∷ ns)) aggs) (acc_joined a) ∙ ap (λ l. joined_acc a (acc_of (o ∷ os) a) (acc_of (n ∷ ns) a) ∷ l) (accs_joined aggs)
