-- Merged groups: their keys differ, and they have the kinds of the grouping's columns.
use Rattle.std.proofs.Common.{zero, suc, ◌≡◌, ◌≢◌, refl, sym, ap, ◌∙◌, subst, ℕ, Bool, true, false, cond, not, ◌||◌, List, [], ◌∷◌, ◌++◌, map, length, get_or, All, Option, None, Some, arith}
use Rattle.std.specs.List.{AllPairs, filter, find, list_any}
use Rattle.std.specs.Ordering.{is_le, is_ge}
use Rattle.std.proofs.lemmas.Bool.{false≢true}
use Rattle.std.proofs.lemmas.List.{append_cancel_left, length-map, map-append}
use Rattle.std.proofs.lemmas.List.Elements.{All-append, All-filter, All-map}
use Rattle.std.proofs.lemmas.List.Kept.{AllPairs-cons}
use Rattle.rows_core.specs.declared.value.Value.{Value}
use Rattle.rows_core.specs.Equality.{row_eq-Decides}
use Rattle.rows_core.specs.Value.{kind_of, row_eq, value_cmp}
use Rattle.row_blob.specs.declared.kept.Acc.{Acc}
use Rattle.row_blob.specs.declared.kept.Acc.TheVariants as acc
use Rattle.row_blob.specs.declared.kept.GroupRow.{GroupRow}
use Rattle.row_blob.specs.Kept.{AreEach, keys_of as group_keys}
use Rattle.plan_core.specs.declared.agg.Agg.{Agg}
use Rattle.plan_core.specs.declared.agg.Agg.TheVariants as agg
use Rattle.plan_core.specs.Columns.{Row, Rows}
use Rattle.plan_core.specs.Group.{keys_of, members_of}
use Rattle.plan_core.specs.PlanTyping.{Kinds}
use Rattle.plan_laws.specs.GroupBounds.{IsAccOf, AreGroups}
use Rattle.plan_laws.specs.KeptForm.{acc_of, kept_group}
use Rattle.plan_laws.specs.GrowthOfGroups.{groups_of, joined_value, joined_acc, joined_accs, group_with, joined_group, is_new, merged_groups}
use Rattle.result_ops.specs.Fitting.{kind_of_acc, kinds_of_group}

-- ---- kinds

one_of : (b : Bool) (u v w : Value) → kind_of u ≡ kind_of w → kind_of v ≡ kind_of w → kind_of (cond b u v) ≡ kind_of w
one_of true u v w p q = p
one_of false u v w p q = q

joined_value_kind : (a : Agg) (v w : Value) → kind_of w ≡ kind_of v → kind_of (joined_value a v w) ≡ kind_of v
joined_value_kind (agg.Min c) v w same = one_of (is_le (value_cmp v w)) v w v refl same
joined_value_kind (agg.Max c) v w same = one_of (is_ge (value_cmp v w)) v w v refl same
joined_value_kind (agg.Last c) v w same = same
joined_value_kind (agg.First c) v w same = refl
joined_value_kind agg.Count v w same = refl
joined_value_kind (agg.Sum c) v w same = refl
joined_value_kind (agg.Avg c) v w same = refl

joined_kind : (a : Agg) (x y : Acc) → kind_of_acc y ≡ kind_of_acc x → kind_of_acc (joined_acc a x y) ≡ kind_of_acc x
joined_kind a (acc.Pick v) (acc.Pick w) same = joined_value_kind a v w same
joined_kind a (acc.Count n) (acc.Count m) same = refl
joined_kind a (acc.Sum s) (acc.Sum t) same = refl
joined_kind a (acc.Avg s n) (acc.Avg t m) same = refl
joined_kind a _ _ same = refl

joined_kinds : (aggs : List Agg) (xs ys : List Acc) → length xs ≡ length aggs → length ys ≡ length aggs → map kind_of_acc ys ≡ map kind_of_acc xs → map kind_of_acc (joined_accs aggs xs ys) ≡ map kind_of_acc xs
joined_kinds [] [] ys x y same = refl
joined_kinds [] (x ∷ xs) ys some y same = absurd (omega (arith, some))
joined_kinds (a ∷ aggs) [] ys none y same = absurd (omega (arith, none))
joined_kinds (a ∷ aggs) (x ∷ xs) [] some none same = absurd (omega (arith, none))
joined_kinds (a ∷ aggs) (x ∷ xs) (y ∷ ys) xs_are ys_are same =
    let first : kind_of_acc y ≡ kind_of_acc x = cc in
    let rest : map kind_of_acc ys ≡ map kind_of_acc xs = cc in
    ap (λ k. k ∷ map kind_of_acc (joined_accs aggs xs ys)) (joined_kind a x y first) ∙ ap (λ l. kind_of_acc x ∷ l) (joined_kinds aggs xs ys (omega (arith, xs_are)) (omega (arith, ys_are)) rest)

-- what is found holds of the list and passes the test
found_of : (p : GroupRow → Bool) (P : GroupRow → Type 0) (groups : List GroupRow) (group : GroupRow) → All P groups → find p groups ≡ Some group → (p group ≡ true) × P group
found_of p P [] group all is = absurd (cc)
found_of p P (first ∷ groups) group all is = by (p first) refl (found_of p P groups group (λ i d within. all (suc i) d (omega (arith, within)))) is
  where
    by : (b : Bool) → p first ≡ b → (find p groups ≡ Some group → (p group ≡ true) × P group) → cond b (Some first) (find p groups) ≡ Some group → (p group ≡ true) × P group
    by true passes rest h = let same : first ≡ group = cc in subst (λ g. (p g ≡ true) × P g) same (passes, all 0 first (omega arith))
    by false passes rest h = rest h

-- one accumulator for each aggregate, and these kinds
abbrev pub IsSuch : Kinds → List Agg → GroupRow → Type 0
IsSuch kinds aggs group = (length group.accs ≡ length aggs) × (kinds_of_group group ≡ kinds)

module _ (kinds : Kinds) (aggs : List Agg) (news : List GroupRow) (such : All (IsSuch kinds aggs) news) where
  group_kinds_joined : (old : GroupRow) → IsSuch kinds aggs old → kinds_of_group (joined_group aggs old (group_with old.key news)) ≡ kinds
  group_kinds_joined old has = by (group_with old.key news) refl
    where
      by : (o : Option GroupRow) → group_with old.key news ≡ o → kinds_of_group (joined_group aggs old o) ≡ kinds
      by None is = has.1
      by (Some new) is =
          let found = found_of (λ group. row_eq old.key group.key) (IsSuch kinds aggs) news new such is in
          let same_key : old.key ≡ new.key = (row_eq-Decides old.key new.key).0 found.0 in
          let same : map kind_of_acc new.accs ≡ map kind_of_acc old.accs =
          append_cancel_left (map kind_of old.key) (map kind_of_acc new.accs) (map kind_of_acc old.accs) (ap (λ k. map kind_of k ++ map kind_of_acc new.accs) same_key ∙ found.1.1 ∙ sym has.1) in
          ap (λ l. map kind_of old.key ++ l) (joined_kinds aggs old.accs new.accs has.0 found.1.0 same) ∙ has.1

  pub merged_kinds : (olds : List GroupRow) → All (IsSuch kinds aggs) olds → All (λ group. kinds_of_group group ≡ kinds) (merged_groups aggs olds news)
  merged_kinds olds old_such =
      All-append (λ group. kinds_of_group group ≡ kinds) (map (λ old. joined_group aggs old (group_with old.key news)) olds) (filter (is_new olds) news)
      (All-map (λ group. kinds_of_group group ≡ kinds) (λ old. joined_group aggs old (group_with old.key news)) olds (λ i d within. group_kinds_joined (get_or olds i d) (old_such i d within)))
      (All-filter (is_new olds) (λ group. kinds_of_group group ≡ kinds) news (λ i d within. (such i d within).1))

each_length : {A B : Type 0} (P : A → B → Type 0) (xs : List A) (ys : List B) → AreEach P xs ys → length ys ≡ length xs
each_length P [] [] each = refl
each_length P [] (b ∷ ys) each = absurd each
each_length P (a ∷ xs) [] each = absurd each
each_length P (a ∷ xs) (b ∷ ys) each = ap suc (each_length P xs ys each.1)

-- groups within bounds have one accumulator for each aggregate
pub such_of : (kinds : Kinds) (aggs : List Agg) (groups : List GroupRow) → AreGroups aggs groups → All (λ group. kinds_of_group group ≡ kinds) groups → All (IsSuch kinds aggs) groups
such_of kinds aggs groups are has i d within = (each_length IsAccOf aggs (get_or groups i d).accs (are.1 i d within), has i d within)

-- and so have the groups of rows
such_rows : (kinds : Kinds) (keys : List ℕ) (aggs : List Agg) (rows : Rows) (ks : Rows) → All (λ group. kinds_of_group group ≡ kinds) (map (kept_group keys aggs rows) ks) → All (IsSuch kinds aggs) (map (kept_group keys aggs rows) ks)
such_rows kinds keys aggs rows [] has = λ i d within. absurd (omega (arith, within))
such_rows kinds keys aggs rows (k ∷ ks) has = front (such_rows kinds keys aggs rows ks (λ i d within. has (suc i) d (omega (arith, within))))
  where
    front : All (IsSuch kinds aggs) (map (kept_group keys aggs rows) ks) → All (IsSuch kinds aggs) (map (kept_group keys aggs rows) (k ∷ ks))
    front rest zero d within = (length-map aggs (acc_of (members_of keys rows k)), has 0 d (omega arith))
    front rest (suc i) d within = rest i d (omega (arith, within))

pub such_groups : (kinds : Kinds) (keys : List ℕ) (aggs : List Agg) (rows : Rows) → All (λ group. kinds_of_group group ≡ kinds) (groups_of keys aggs rows) → All (IsSuch kinds aggs) (groups_of keys aggs rows)
such_groups kinds keys aggs rows has = such_rows kinds keys aggs rows (keys_of keys rows) has

-- ---- keys

-- one list of different items behind another one, where no item is in both
pairs_behind : {X : Type 0} (R : X → X → Type 0) (xs ys : List X) → AllPairs R xs → AllPairs R ys → All (λ x. All (R x) ys) xs → AllPairs R (xs ++ ys)
pairs_behind R [] ys first behind across = behind
pairs_behind R (x ∷ xs) ys first behind across =
    AllPairs-cons R x (xs ++ ys)
    (All-append (R x) xs ys (λ j d within. first 0 (suc j) d (omega arith) (omega (arith, within))) (across 0 x (omega arith)))
    (pairs_behind R xs ys (λ i j d less within. first (suc i) (suc j) d (omega (arith, less)) (omega (arith, within))) behind (λ i d within. across (suc i) d (omega (arith, within))))

joined_keys : (aggs : List Agg) (news olds : List GroupRow) → group_keys (map (λ old. joined_group aggs old (group_with old.key news)) olds) ≡ group_keys olds
joined_keys aggs news [] = refl
joined_keys aggs news (old ∷ olds) = ap (λ k. k ∷ group_keys (map (λ o. joined_group aggs o (group_with o.key news)) olds)) (by (group_with old.key news)) ∙ ap (λ l. old.key ∷ l) (joined_keys aggs news olds)
  where
    by : (o : Option GroupRow) → (joined_group aggs old o).key ≡ old.key
    by None = refl
    by (Some new) = refl

kept_keys : (P : Row → Type 0) (p : GroupRow → Bool) (groups : List GroupRow) → All P (group_keys groups) → All P (group_keys (filter p groups))
kept_keys P p [] all = all
kept_keys P p (group ∷ groups) all = by (p group) (kept_keys P p groups (λ i d within. all (suc i) d (omega (arith, within))))
  where
    by : (b : Bool) → All P (group_keys (filter p groups)) → All P (group_keys (cond b (group ∷ filter p groups) (filter p groups)))
    by true rest = All-append P (group.key ∷ []) (group_keys (filter p groups)) (λ i d within. only i d within) rest
      where
        only : All P (group.key ∷ [])
        only zero d within = all 0 d (omega arith)
        only (suc i) d within = absurd (omega (arith, within))
    by false rest = rest

kept_pairs : (p : GroupRow → Bool) (groups : List GroupRow) → AllPairs (λ a b. a ≢ b) (group_keys groups) → AllPairs (λ a b. a ≢ b) (group_keys (filter p groups))
kept_pairs p [] differ = differ
kept_pairs p (group ∷ groups) differ = by (p group) (kept_pairs p groups (λ i j d less within. differ (suc i) (suc j) d (omega (arith, less)) (omega (arith, within))))
  where
    others : All (λ k. group.key ≢ k) (group_keys groups)
    others j d within = differ 0 (suc j) d (omega arith) (omega (arith, within))

    by : (b : Bool) → AllPairs (λ a b. a ≢ b) (group_keys (filter p groups)) → AllPairs (λ a b. a ≢ b) (group_keys (cond b (group ∷ filter p groups) (filter p groups)))
    by true rest = AllPairs-cons (λ a b. a ≢ b) group.key (group_keys (filter p groups)) (kept_keys (λ k. group.key ≢ k) p groups others) rest
    by false rest = rest

-- no new group has the key of an old one
new_keys : (olds groups : List GroupRow) → All (λ key. list_any (row_eq key) (group_keys olds) ≡ false) (group_keys (filter (is_new olds) groups))
new_keys olds [] = λ i d within. absurd (omega (arith, within))
new_keys olds (group ∷ groups) = by (list_any (row_eq group.key) (group_keys olds)) refl (new_keys olds groups)
  where
    by : (b : Bool) → list_any (row_eq group.key) (group_keys olds) ≡ b → All (λ key. list_any (row_eq key) (group_keys olds) ≡ false) (group_keys (filter (is_new olds) groups))
        → All (λ key. list_any (row_eq key) (group_keys olds) ≡ false) (group_keys (cond (not b) (group ∷ filter (is_new olds) groups) (filter (is_new olds) groups)))
    by true is rest = rest
    by false is rest = front
      where
        front : All (λ key. list_any (row_eq key) (group_keys olds) ≡ false) (group.key ∷ group_keys (filter (is_new olds) groups))
        front zero d within = is
        front (suc i) d within = rest i d (omega (arith, within))

not_among : (key : Row) (keys : List Row) → list_any (row_eq key) keys ≡ false → All (λ k. k ≢ key) keys
not_among key [] none = λ i d within. absurd (omega (arith, within))
not_among key (first ∷ keys) none = by (row_eq key first) refl (not_among key keys) none
  where
    front : row_eq key first ≡ false → All (λ k. k ≢ key) keys → All (λ k. k ≢ key) (first ∷ keys)
    front is rest zero d within = λ same. false≢true (sym is ∙ (row_eq-Decides key first).1 (sym same))
    front is rest (suc i) d within = rest i d (omega (arith, within))

    by : (b : Bool) → row_eq key first ≡ b → (list_any (row_eq key) keys ≡ false → All (λ k. k ≢ key) keys) → (b || list_any (row_eq key) keys) ≡ false → All (λ k. k ≢ key) (first ∷ keys)
    by true is rest e = absurd (false≢true (sym e))
    by false is rest e = front is (rest e)

pub merged_keys_differ : (aggs : List Agg) (olds news : List GroupRow) → AllPairs (λ a b. a ≢ b) (group_keys olds) → AllPairs (λ a b. a ≢ b) (group_keys news) → AllPairs (λ a b. a ≢ b) (group_keys (merged_groups aggs olds news))
merged_keys_differ aggs olds news differ_old differ_new =
    let front = map (λ old. joined_group aggs old (group_with old.key news)) olds in
    let behind = filter (is_new olds) news in
    let none = new_keys olds news in
    subst (AllPairs (λ a b. a ≢ b)) (sym (map-append (λ group. group.key) front behind ∙ ap (λ l. l ++ group_keys behind) (joined_keys aggs news olds)))
    (pairs_behind (λ a b. a ≢ b) (group_keys olds) (group_keys behind) differ_old (kept_pairs (is_new olds) news differ_new)
    (λ i d less j e within. not_among (get_or (group_keys behind) j e) (group_keys olds) (none j e within) i d less))
