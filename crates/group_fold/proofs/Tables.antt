-- One group more in a table, and one group more that is merged.
use Rattle.std.proofs.Common.{◌≡◌, ◌≢◌, refl, sym, ap, ◌∙◌, subst, ℕ, ◌+◌, ◌<◌, ◌≤◌, length, take, get_or, arith, Bool, true, false, true≢false, cond, not, ◌||◌, List, [], ◌∷◌, ◌++◌, map, append_assoc, append-nil, Option, Some, None, IfSome, is_some, Result, Ok, Err, OnOk, IfOk, Vec, Global, zero, suc}
use Rattle.std.specs.List.{All, AllByRecursion, AllPairs, IsDistinct, filter, list_any, position, slice_get}
use Rattle.std.specs.Map.{keys_of, values_of, lookup}
use Rattle.std.specs.Option.{option_or}
use Rattle.std.proofs.lemmas.List.{map-append, take_more}
use Rattle.std.proofs.lemmas.List.Elements.{filter-append, recursion_from_All}
use Rattle.std.proofs.lemmas.List.Folds.{find-append, list_any-append}
use Rattle.std.proofs.lemmas.Map.Made.{IsDistinct-from_AllPairs}
use Rattle.std.proofs.Math.Bool.{or-false}
use Rattle.std.proofs.lemmas.Bool.{or_parts}
use Rattle.indexmap.specs.IndexMap.{insert_entry}
use Rattle.indexmap.specs.Layout.{set_value_at}
use Rattle.indexmap.proofs.MapLemmas.{Found-position, insert_entry-first}
use Rattle.rows_core.specs.Equality.{row_eq-Decides, same_row-Decides}
use Rattle.rows_core.specs.contracts.row.RowPartialEq.TheImpl as derived
use Rattle.rows_core.specs.Value.{row_eq}
use Rattle.row_blob.specs.declared.kept.Acc.{Acc}
use Rattle.row_blob.specs.declared.kept.GroupRow.{GroupRow}
use Rattle.row_blob.specs.Kept.{keys_of as group_keys}
use Rattle.plan_core.specs.declared.agg.Agg.{Agg}
use Rattle.plan_core.specs.Columns.{Row, Rows, columns_of}
use Rattle.plan_laws.specs.KeptForm.{acc_of}
use Rattle.plan_laws.specs.GrowthOfGroups.{groups_of, joined_accs, group_with, joined_group, is_new, merged_groups}
use Rattle.plan_laws.proofs.FirstOfEqual.{either_way, same_test}
use Rattle.plan_laws.proofs.GroupBounds.{HasNumbers}
use Rattle.plan_laws.proofs.MergedGroups.{same_row, row_itself, joined_lists}
use Rattle.plan_laws.proofs.ValidPlans.{all-append}
use Rattle.group_fold.specs.Table.{groups_in}

none_from : {A : Type 0} (o : Option A) → false ≡ is_some o → o ≡ None
none_from None h = refl
none_from (Some x) h = absurd (true≢false (sym h))

-- a row that is equal to one of two equal rows is equal to the other
same_as : (a b c : Row) → row_eq a b ≡ true → row_eq b c ≡ row_eq a c
same_as a b c h = ap (λ x. row_eq x c) (sym (same_row a b h))

module _ (aggs : List Agg) where
  same_key : (old : GroupRow) (new : Option GroupRow) → (joined_group aggs old new).key ≡ old.key
  same_key old None = refl
  same_key old (Some new) = refl

  keys_joined : (news olds : List GroupRow) → group_keys (map (λ old. joined_group aggs old (group_with old.key news)) olds) ≡ group_keys olds
  keys_joined news [] = refl
  keys_joined news (old ∷ olds) =
      ap (λ k. k ∷ group_keys (map (λ old. joined_group aggs old (group_with old.key news)) olds)) (same_key old (group_with old.key news)) ∙ ap (λ l. old.key ∷ l) (keys_joined news olds)

  -- no group has the key
  none_with : (key : Row) (groups : List GroupRow) → list_any (row_eq key) (group_keys groups) ≡ false → group_with key groups ≡ None
  none_with key [] h = refl
  none_with key (group ∷ groups) h =
      let both = or_parts (row_eq key group.key) (list_any (row_eq key) (group_keys groups)) h in
      ap (λ b. cond b (Some group) (group_with key groups)) both.0 ∙ none_with key groups both.1

  none_filtered : (p : GroupRow → Bool) (key : Row) (groups : List GroupRow) → list_any (row_eq key) (group_keys groups) ≡ false → list_any (row_eq key) (group_keys (filter p groups)) ≡ false
  none_filtered p key [] h = refl
  none_filtered p key (group ∷ groups) h =
      let both = or_parts (row_eq key group.key) (list_any (row_eq key) (group_keys groups)) h in
      by both.0 (none_filtered p key groups both.1) (p group)
    where
      by : row_eq key group.key ≡ false → list_any (row_eq key) (group_keys (filter p groups)) ≡ false → (b : Bool) → list_any (row_eq key) (group_keys (cond b (group ∷ filter p groups) (filter p groups))) ≡ false
      by e rest true = ap (λ b. b || list_any (row_eq key) (group_keys (filter p groups))) e ∙ rest
      by e rest false = rest

  -- the group with a key that no new group has is the old one
  find_old : (key : Row) (news olds : List GroupRow) → list_any (row_eq key) (group_keys news) ≡ false
      → group_with key (map (λ old. joined_group aggs old (group_with old.key news)) olds) ≡ group_with key olds
  find_old key news [] h = refl
  find_old key news (old ∷ olds) h =
      ap (λ k. cond (row_eq key k) (Some (joined_group aggs old (group_with old.key news))) (group_with key (map (λ old. joined_group aggs old (group_with old.key news)) olds))) (same_key old (group_with old.key news))
      ∙ by (row_eq key old.key) refl (find_old key news olds h)
    where
      by : (b : Bool) → row_eq key old.key ≡ b → group_with key (map (λ old. joined_group aggs old (group_with old.key news)) olds) ≡ group_with key olds
          → cond b (Some (joined_group aggs old (group_with old.key news))) (group_with key (map (λ old. joined_group aggs old (group_with old.key news)) olds)) ≡ cond b (Some old) (group_with key olds)
      by true e rest = ap (λ found. Some (joined_group aggs old found)) (ap (λ k. group_with k news) (sym (same_row key old.key e)) ∙ none_with key news h)
      by false e rest = rest

  or_none : (o : Option GroupRow) → option_or o None ≡ o
  or_none None = refl
  or_none (Some g) = refl

  pub untouched : (key : Row) (olds news : List GroupRow) → list_any (row_eq key) (group_keys news) ≡ false → group_with key (merged_groups aggs olds news) ≡ group_with key olds
  untouched key olds news h =
      find-append (λ group. row_eq key group.key) (map (λ old. joined_group aggs old (group_with old.key news)) olds) (filter (is_new olds) news)
      ∙ ap (option_or (group_with key (map (λ old. joined_group aggs old (group_with old.key news)) olds))) (none_with key (filter (is_new olds) news) (none_filtered (is_new olds) key news h))
      ∙ or_none _ ∙ find_old key news olds h

  -- a group with another key changes nothing
  not_joined : (group : GroupRow) (g : GroupRow) → row_eq group.key g.key ≡ false → joined_group aggs group (group_with group.key (g ∷ [])) ≡ group
  not_joined group g h = ap (λ b. joined_group aggs group (cond b (Some g) None)) h

  others_stay : (g : GroupRow) (groups : List GroupRow) → list_any (row_eq g.key) (group_keys groups) ≡ false → map (λ old. joined_group aggs old (group_with old.key (g ∷ []))) groups ≡ groups
  others_stay g [] h = refl
  others_stay g (group ∷ groups) h =
      let both = or_parts (row_eq g.key group.key) (list_any (row_eq g.key) (group_keys groups)) h in
      ap (λ x. x ∷ map (λ old. joined_group aggs old (group_with old.key (g ∷ []))) groups) (not_joined group g (either_way group.key g.key ∙ both.0))
      ∙ ap (λ l. group ∷ l) (others_stay g groups both.1)

  -- ---- one new group more

  module _ (g : GroupRow) (news : List GroupRow) (fresh : list_any (row_eq g.key) (group_keys news) ≡ false) where
    found_among : (key : Row) (groups : List GroupRow) (found : GroupRow) → group_with key groups ≡ Some found → list_any (row_eq key) (group_keys groups) ≡ true
    found_among key [] found h = absurd cc
    found_among key (group ∷ groups) found h = by (row_eq key group.key) h (found_among key groups found)
      where
        by : (b : Bool) → cond b (Some group) (group_with key groups) ≡ Some found → (group_with key groups ≡ Some found → list_any (row_eq key) (group_keys groups) ≡ true) → (b || list_any (row_eq key) (group_keys groups)) ≡ true
        by true h rest = refl
        by false h rest = rest h

    joined_twice : (old : GroupRow) → joined_group aggs (joined_group aggs old (group_with old.key news)) (group_with (joined_group aggs old (group_with old.key news)).key (g ∷ []))
        ≡ joined_group aggs old (group_with old.key (news ++ g ∷ []))
    joined_twice old = by (group_with old.key news) refl ∙ sym (ap (joined_group aggs old) (find-append (λ group. row_eq old.key group.key) news (g ∷ [])))
      where
        by : (o : Option GroupRow) → group_with old.key news ≡ o
            → joined_group aggs (joined_group aggs old o) (group_with (joined_group aggs old o).key (g ∷ [])) ≡ joined_group aggs old (option_or o (group_with old.key (g ∷ [])))
        by None e = refl
        by (Some new) e = not_joined (joined_group aggs old (Some new)) g (other (row_eq old.key g.key) refl)
          where
            other : (b : Bool) → row_eq old.key g.key ≡ b → row_eq old.key g.key ≡ false
            other true h = absurd (true≢false (sym (found_among old.key news new e) ∙ ap (λ k. list_any (row_eq k) (group_keys news)) (same_row old.key g.key h) ∙ fresh))
            other false h = h

    all_twice : (olds : List GroupRow) → map (λ old. joined_group aggs old (group_with old.key (g ∷ []))) (map (λ old. joined_group aggs old (group_with old.key news)) olds)
        ≡ map (λ old. joined_group aggs old (group_with old.key (news ++ g ∷ []))) olds
    all_twice [] = refl
    all_twice (old ∷ olds) =
        ap (λ x. x ∷ map (λ old. joined_group aggs old (group_with old.key (g ∷ []))) (map (λ old. joined_group aggs old (group_with old.key news)) olds)) (joined_twice old)
        ∙ ap (λ l. joined_group aggs old (group_with old.key (news ++ g ∷ [])) ∷ l) (all_twice olds)

    still_new : (olds : List GroupRow) → is_new (merged_groups aggs olds news) g ≡ is_new olds g
    still_new olds =
        ap (λ ks. not (list_any (row_eq g.key) ks)) (map-append (λ group. group.key) (map (λ old. joined_group aggs old (group_with old.key news)) olds) (filter (is_new olds) news))
        ∙ ap not (list_any-append (row_eq g.key) (group_keys (map (λ old. joined_group aggs old (group_with old.key news)) olds)) (group_keys (filter (is_new olds) news)))
        ∙ ap (λ ks. not (list_any (row_eq g.key) ks || list_any (row_eq g.key) (group_keys (filter (is_new olds) news)))) (keys_joined news olds)
        ∙ ap (λ b. not (list_any (row_eq g.key) (group_keys olds) || b)) (none_filtered (is_new olds) g.key news fresh)
        ∙ ap not (or-false (list_any (row_eq g.key) (group_keys olds)))

    pub one_more : (olds : List GroupRow) → merged_groups aggs olds (news ++ g ∷ []) ≡ merged_groups aggs (merged_groups aggs olds news) (g ∷ [])
    one_more olds =
        let joined = map (λ old. joined_group aggs old (group_with old.key news)) olds in
        let added = filter (is_new olds) news in
        let step : GroupRow → GroupRow = λ old. joined_group aggs old (group_with old.key (g ∷ [])) in
        ap (λ l. map (λ old. joined_group aggs old (group_with old.key (news ++ g ∷ []))) olds ++ l) (filter-append (is_new olds) news (g ∷ []))
        ∙ ap (λ l. l ++ (added ++ filter (is_new olds) (g ∷ []))) (sym (all_twice olds))
        ∙ ap (λ l. map step joined ++ (l ++ filter (is_new olds) (g ∷ []))) (sym (others_stay g added (none_filtered (is_new olds) g.key news fresh)))
        ∙ ap (λ b. map step joined ++ (map step added ++ cond b (g ∷ []) [])) (sym (still_new olds))
        ∙ sym (append_assoc (map step joined) (map step added) (filter (is_new (merged_groups aggs olds news)) (g ∷ [])))
        ∙ ap (λ l. l ++ filter (is_new (merged_groups aggs olds news)) (g ∷ [])) (sym (map-append step joined added))

  -- ---- tables

  module _ {V : Type 0} (items : V → List Acc) where
    -- what an entry keeps once a group with its key is joined
    abbrev pub accs_after : Option V → List Acc → List Acc
    accs_after None new = new
    accs_after (Some old) new = joined_accs aggs (items old) new

    keys_apart : (key k : Row) (es : List (Row × V)) → row_eq key k ≡ true → AllByRecursion (λ y. row_eq k y ≡ false) (keys_of es) → list_any (row_eq key) (group_keys (groups_in items es)) ≡ false
    keys_apart key k [] same apart = refl
    keys_apart key k (e ∷ es) same apart =
        ap (λ b. b || list_any (row_eq key) (group_keys (groups_in items es))) (sym (same_as key k e.0 same) ∙ apart.0) ∙ keys_apart key k es same apart.1

    pub inserted : (es : List (Row × V)) (g : GroupRow) (w : V) → IsDistinct row_eq (keys_of es) → items w ≡ accs_after (lookup (row_eq g.key) es) g.accs
        → groups_in items (insert_entry row_eq es g.key w) ≡ merged_groups aggs (groups_in items es) (g ∷ [])
    unfolding IsDistinct
    inserted [] g w distinct is = ap (λ accs. record { key = g.key; accs = accs } ∷ []) is
    inserted (e ∷ es) g w distinct is = by (row_eq g.key e.0) refl is (inserted es g w distinct.1)
      where
        by : (b : Bool) → row_eq g.key e.0 ≡ b → items w ≡ accs_after (cond b (Some e.1) (lookup (row_eq g.key) es)) g.accs
            → (items w ≡ accs_after (lookup (row_eq g.key) es) g.accs → groups_in items (insert_entry row_eq es g.key w) ≡ merged_groups aggs (groups_in items es) (g ∷ []))
            → groups_in items (cond b ((e.0, w) ∷ es) (e ∷ insert_entry row_eq es g.key w))
            ≡ joined_group aggs (record { key = e.0; accs = items e.1 }) (cond (row_eq e.0 g.key) (Some g) None) ∷ (map (λ old. joined_group aggs old (group_with old.key (g ∷ []))) (groups_in items es)
            ++ cond (not (b || list_any (row_eq g.key) (group_keys (groups_in items es)))) (g ∷ []) [])
        by true h is rest =
            ap (λ accs. record { key = e.0; accs = accs } ∷ groups_in items es) is
            ∙ ap (λ b. joined_group aggs (record { key = e.0; accs = items e.1 }) (cond b (Some g) None) ∷ groups_in items es) (sym (either_way e.0 g.key ∙ h))
            ∙ ap (λ l. joined_group aggs (record { key = e.0; accs = items e.1 }) (cond (row_eq e.0 g.key) (Some g) None) ∷ l)
            (sym (others_stay g (groups_in items es) (keys_apart g.key e.0 es h distinct.0)) ∙ sym (append-nil (map (λ old. joined_group aggs old (group_with old.key (g ∷ []))) (groups_in items es))))
        by false h is rest =
            ap (λ l. record { key = e.0; accs = items e.1 } ∷ l) (rest is)
            ∙ ap (λ b. joined_group aggs (record { key = e.0; accs = items e.1 }) (cond b (Some g) None) ∷ merged_groups aggs (groups_in items es) (g ∷ [])) (sym (either_way e.0 g.key ∙ h))

    -- a key that is found keeps its place and takes what is joined
    pub put_found : (es : List (Row × V)) (g : GroupRow) (k : Row) (at : ℕ) (v w : V) → k ≡ g.key → position (row_eq k) (keys_of es) ≡ Some at → slice_get (values_of es) at ≡ Some v → IsDistinct row_eq (keys_of es)
        → items w ≡ joined_accs aggs (items v) g.accs → groups_in items (set_value_at es at w) ≡ merged_groups aggs (groups_in items es) (g ∷ [])
    put_found es g k at v w same p there distinct is =
        let found = Found-position (row_eq g.key) es at (ap (λ x. position (row_eq x) (keys_of es)) (sym same) ∙ p) in
        ap (groups_in items) (sym (insert_entry-first row_eq g.key w es at found.first))
        ∙ inserted es g w distinct (is ∙ sym (ap (λ o. accs_after o g.accs) (found.value ∙ there)))

    -- a key that is new goes last
    pub put_new : (es : List (Row × V)) (g : GroupRow) (k : Row) (w : V) → k ≡ g.key → false ≡ is_some (lookup (row_eq k) es) → IsDistinct row_eq (keys_of es)
        → items w ≡ g.accs → groups_in items (insert_entry row_eq es k w) ≡ merged_groups aggs (groups_in items es) (g ∷ [])
    put_new es g k w same missing distinct is =
        ap (λ x. groups_in items (insert_entry row_eq es x w)) same
        ∙ inserted es g w distinct (is ∙ sym (ap (λ o. accs_after o g.accs) (ap (λ x. lookup (row_eq x) es) (sym same) ∙ none_from (lookup (row_eq k) es) missing)))

    -- ---- what an entry has

    pub if_found : (P : List Acc → Type 0) (t : Row → Bool) (es : List (Row × V)) → AllByRecursion (λ group. P group.accs) (groups_in items es) → IfSome (lookup t es) (λ v. P (items v))
    if_found P t [] all = tt
    if_found P t (e ∷ es) all = by (t e.0) (if_found P t es all.1)
      where
        by : (b : Bool) → IfSome (lookup t es) (λ v. P (items v)) → IfSome (cond b (Some e.1) (lookup t es)) (λ v. P (items v))
        by true rest = all.0
        by false rest = rest

    group_found : (key : Row) (es : List (Row × V)) (v : V) → lookup (row_eq key) es ≡ Some v → (k : Row) × (group_with key (groups_in items es) ≡ Some (record { key = k; accs = items v }))
    group_found key [] v h = absurd cc
    group_found key (e ∷ es) v h = by (row_eq key e.0) h (group_found key es v)
      where
        by : (b : Bool) → cond b (Some e.1) (lookup (row_eq key) es) ≡ Some v → (lookup (row_eq key) es ≡ Some v → (k : Row) × (group_with key (groups_in items es) ≡ Some (record { key = k; accs = items v })))
            → (k : Row) × (cond b (Some (record { key = e.0; accs = items e.1 })) (group_with key (groups_in items es)) ≡ Some (record { key = k; accs = items v }))
        by true h rest = let same : e.1 ≡ v = cc in (e.0, ap (λ x. Some (record { key = e.0; accs = items x })) same)
        by false h rest = rest h

    with_all : (P : GroupRow → Type 0) (key : Row) (groups : List GroupRow) (found : GroupRow) → AllByRecursion P groups → group_with key groups ≡ Some found → P found
    with_all P key [] found all h = absurd cc
    with_all P key (group ∷ groups) found all h = by (row_eq key group.key) h (with_all P key groups found all.1)
      where
        by : (b : Bool) → cond b (Some group) (group_with key groups) ≡ Some found → (group_with key groups ≡ Some found → P found) → P found
        by true h rest = let same : group ≡ found = cc in subst P same all.0
        by false h rest = rest h

    pub if_old : (P : List Acc → Type 0) (key : Row) (es : List (Row × V)) (olds news : List GroupRow) → groups_in items es ≡ merged_groups aggs olds news → list_any (row_eq key) (group_keys news) ≡ false
        → AllByRecursion (λ group. P group.accs) olds → IfSome (lookup (row_eq key) es) (λ v. P (items v))
    if_old P key es olds news is fresh all = by (lookup (row_eq key) es) refl
      where
        by : (o : Option V) → lookup (row_eq key) es ≡ o → IfSome o (λ v. P (items v))
        by None h = tt
        by (Some v) h =
            let found = group_found key es v h in
            with_all (λ group. P group.accs) key olds (record { key = found.0; accs = items v }) all (sym (untouched key olds news fresh) ∙ ap (group_with key) (sym is) ∙ found.1)

-- ---- lists whose keys differ

pub fresh_in : (before : Rows) (key : Row) (rest : Rows) → AllPairs (λ a b. a ≢ b) (before ++ key ∷ rest) → list_any (row_eq key) before ≡ false
unfolding IsDistinct
fresh_in before key rest pairs = go before (IsDistinct-from_AllPairs row_eq-Decides (before ++ key ∷ rest) pairs)
  where
    last_of : (ks : Rows) (x : Row) → AllByRecursion (λ y. row_eq x y ≡ false) (ks ++ key ∷ rest) → row_eq x key ≡ false
    last_of [] x all = all.0
    last_of (k ∷ ks) x all = last_of ks x all.1

    go : (ks : Rows) → IsDistinct row_eq (ks ++ key ∷ rest) → list_any (row_eq key) ks ≡ false
    go [] distinct = refl
    go (k ∷ ks) distinct = ap (λ b. b || list_any (row_eq key) ks) (either_way key k ∙ last_of ks k distinct.0) ∙ go ks distinct.1

pub appended : {V : Type 0} (es : List (Row × V)) (key : Row) (v : V) → list_any (row_eq key) (keys_of es) ≡ false → insert_entry row_eq es key v ≡ es ++ (key, v) ∷ []
appended [] key v h = refl
appended (e ∷ es) key v h =
    let both = or_parts (row_eq key e.0) (list_any (row_eq key) (keys_of es)) h in
    ap (λ b. cond b ((e.0, v) ∷ es) (e ∷ insert_entry row_eq es key v)) both.0 ∙ ap (λ l. e ∷ l) (appended es key v both.1)

-- ---- groups of which some were put into a table

pub keys_in : {V : Type 0} (items : V → List Acc) (es : List (Row × V)) → group_keys (groups_in items es) ≡ keys_of es
keys_in items [] = refl
keys_in items (e ∷ es) = ap (λ l. e.0 ∷ l) (keys_in items es)

pub appended_group : {V : Type 0} (items : V → List Acc) (es : List (Row × V)) (before : List GroupRow) (g : GroupRow) (v : V) → groups_in items es ≡ before → list_any (row_eq g.key) (group_keys before) ≡ false
    → items v ≡ g.accs → groups_in items (insert_entry row_eq es g.key v) ≡ before ++ g ∷ []
appended_group items es before g v is fresh same =
    ap (groups_in items) (appended es g.key v (ap (list_any (row_eq g.key)) (sym (keys_in items es) ∙ ap group_keys is) ∙ fresh))
    ∙ map-append (λ e. record { key = e.0; accs = items e.1 }) es ((g.key, v) ∷ [])
    ∙ ap (λ l. l ++ record { key = g.key; accs = items v } ∷ []) is
    ∙ ap (λ accs. before ++ record { key = g.key; accs = accs } ∷ []) same

pub fresh_group : (before rest groups : List GroupRow) (g : GroupRow) → before ++ g ∷ rest ≡ groups → AllPairs (λ a b. a ≢ b) (group_keys groups) → list_any (row_eq g.key) (group_keys before) ≡ false
fresh_group before rest groups g whole pairs =
    fresh_in (group_keys before) g.key (group_keys rest)
    (subst (AllPairs (λ a b. a ≢ b)) (ap group_keys (sym whole) ∙ map-append (λ group. group.key) before (g ∷ rest)) pairs)

among : {X : Type 0} (P : X → Type 0) (xs : List X) (x : X) (rest : List X) → AllByRecursion P (xs ++ x ∷ rest) → P x
among P [] x rest all = all.0
among P (y ∷ xs) x rest all = among P xs x rest all.1

pub its_accs : (P : List Acc → Type 0) (before rest groups : List GroupRow) (g : GroupRow) → before ++ g ∷ rest ≡ groups → All (λ group. P group.accs) groups → P g.accs
its_accs P before rest groups g whole all =
    among (λ group. P group.accs) before g rest (subst (AllByRecursion (λ group. P group.accs)) (sym whole) (recursion_from_All (λ group. P group.accs) groups all))

-- ---- more rows

pub one_row : (keys : List ℕ) (aggs : List Agg) (row : Row) → groups_of keys aggs (row ∷ []) ≡ record { key = columns_of keys row; accs = map (acc_of (row ∷ [])) aggs } ∷ []
one_row keys aggs row = ap (λ b. record { key = columns_of keys row; accs = map (acc_of (cond b (row ∷ []) [])) aggs } ∷ []) (row_itself (columns_of keys row))

pub fed_more : (keys : List ℕ) (aggs : List Agg) (fed rows : Rows) (before after news : List GroupRow)
    → before ≡ groups_of keys aggs fed → news ≡ groups_of keys aggs rows → after ≡ merged_groups aggs before news → after ≡ groups_of keys aggs (fed ++ rows)
fed_more keys aggs fed rows before after news was come then =
    then ∙ ap (λ l. merged_groups aggs l news) was ∙ ap (merged_groups aggs (groups_of keys aggs fed)) come ∙ sym (joined_lists keys aggs fed rows)

pub fold_more : (keys : List ℕ) (aggs : List Agg) (rows : Rows) (before after : List GroupRow) (row : Row) (i : ℕ) → i < length rows → row ≡ get_or rows i row
    → before ≡ groups_of keys aggs (take i rows) → after ≡ merged_groups aggs before (groups_of keys aggs (row ∷ [])) → after ≡ groups_of keys aggs (take (i + 1) rows)
fold_more keys aggs rows before after row i within is was then =
    fed_more keys aggs (take i rows) (row ∷ []) before after (groups_of keys aggs (row ∷ [])) was refl then
    ∙ ap (groups_of keys aggs) (ap (λ r. take i rows ++ r ∷ []) is ∙ sym (take_more rows i row within))

pub numbers_more : (aggs : List Agg) (rows : Rows) (row : Row) (i : ℕ) → i < length rows → row ≡ get_or rows i row → AllByRecursion (HasNumbers aggs) (take i rows) → HasNumbers aggs row
    → AllByRecursion (HasNumbers aggs) (take (i + 1) rows)
numbers_more aggs rows row i within is all this =
    subst (AllByRecursion (HasNumbers aggs)) (ap (λ r. take i rows ++ r ∷ []) is ∙ sym (take_more rows i row within)) (all-append (HasNumbers aggs) (take i rows) (row ∷ []) all (this, tt))

shorter : (i : ℕ) (rows : Rows) → length (take i rows) ≤ length rows
shorter zero rows = omega arith
shorter (suc i) [] = omega arith
shorter (suc i) (row ∷ rows) = let rest = shorter i rows in omega (arith, rest)

pub few_taken : (i : ℕ) (rows : Rows) → length rows ≤ 4294967295 → length (take i rows) ≤ 4294967295
few_taken i rows few = let fewer = shorter i rows in omega (arith, fewer, few)

pub merged_nothing : (aggs : List Agg) (olds : List GroupRow) → merged_groups aggs olds [] ≡ olds
merged_nothing aggs [] = refl
merged_nothing aggs (old ∷ olds) = ap (λ l. old ∷ l) (merged_nothing aggs olds)

-- ---- answers of calls

pub if_some : {A : Type 0} (P : A → Type 0) (o : Option A) (x : A) → o ≡ Some x → IfSome o P → P x
if_some P o x is h = subst (λ p. IfSome p P) is h

pub on_ok : {A E : Type 0} (r : Result A E) (P Q : Type 0) → (P → Q) → OnOk r P → OnOk r Q
on_ok (Ok x) P Q f h = f h
on_ok (Err e) P Q f h = tt

pub finished : {E : Type 0} (r : Result (Vec GroupRow Global) E) (groups : List GroupRow) (Q : List GroupRow → Type 0) → IfOk r (λ v. v.items ≡ groups) → Q groups → IfOk r (λ v. Q v.items)
finished (Ok v) groups Q is q = subst Q (sym is) q
finished (Err e) groups Q is q = tt

-- ---- the keys of a table are compared by `==`, which is the equality of rows

same_row_test : (a b : Row) → derived.eq-value.it a b ≡ row_eq a b
same_row_test a b =
    same_test (derived.eq-value.it a b) (row_eq a b) (λ h. (row_eq-Decides a b).1 ((same_row-Decides a b).0 h)) (λ h. (same_row-Decides a b).1 ((row_eq-Decides a b).0 h))

pub same_keys : derived.eq-value.it ≡ row_eq
same_keys = λ i a b. same_row_test a b i

module _ {eq : Row → Row → Bool} (same : eq ≡ row_eq) (aggs : List Agg) {V : Type 0} (items : V → List Acc) (es : List (Row × V)) where
  pub found_by : (key k : Row) (at : ℕ) (v : V) → k ≡ key → slice_get (values_of es) at ≡ lookup (eq k) es → slice_get (values_of es) at ≡ Some v → lookup (row_eq key) es ≡ Some v
  found_by key k at v is value there = ap (λ x. lookup (row_eq x) es) (sym is) ∙ ap (λ e. lookup (e k) es) (sym same) ∙ sym value ∙ there

  pub put_found_by : (g : GroupRow) (k : Row) (at : ℕ) (v w : V) → k ≡ g.key → position (eq k) (keys_of es) ≡ Some at → slice_get (values_of es) at ≡ Some v → IsDistinct eq (keys_of es)
      → items w ≡ joined_accs aggs (items v) g.accs → groups_in items (set_value_at es at w) ≡ merged_groups aggs (groups_in items es) (g ∷ [])
  put_found_by g k at v w is p there distinct joined =
      put_found aggs items es g k at v w is (ap (λ e. position (e k) (keys_of es)) (sym same) ∙ p) there (subst (λ e. IsDistinct e (keys_of es)) same distinct) joined

  pub put_new_by : (g : GroupRow) (k : Row) (w : V) → k ≡ g.key → false ≡ is_some (lookup (eq k) es) → IsDistinct eq (keys_of es)
      → items w ≡ g.accs → groups_in items (insert_entry eq es k w) ≡ merged_groups aggs (groups_in items es) (g ∷ [])
  put_new_by g k w is missing distinct accs =
      ap (λ e. groups_in items (insert_entry e es k w)) same
      ∙ put_new aggs items es g k w is (missing ∙ ap (λ e. is_some (lookup (e k) es)) same) (subst (λ e. IsDistinct e (keys_of es)) same distinct) accs

  pub appended_by : (before : List GroupRow) (g : GroupRow) (v : V) → groups_in items es ≡ before → list_any (row_eq g.key) (group_keys before) ≡ false
      → items v ≡ g.accs → groups_in items (insert_entry eq es g.key v) ≡ before ++ g ∷ []
  appended_by before g v is fresh accs = ap (λ e. groups_in items (insert_entry e es g.key v)) same ∙ appended_group items es before g v is fresh accs
