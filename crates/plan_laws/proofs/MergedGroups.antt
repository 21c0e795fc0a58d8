-- The groups of joined lists of rows.
use Rattle.std.proofs.Common.{◌≡◌, refl, sym, ap, ◌∙◌, subst, ℕ, ◌+◌, length, Ok, Bool, true, false, true≢false, cond, not, ◌||◌, List, [], ◌∷◌, ◌++◌, map, ◌⊎◌, inl, inr, Some, None, arith}
use Rattle.std.specs.List.{filter, list_any, Contains}
use Rattle.std.proofs.lemmas.List.{map-append, map-id, append-nil, length-append}
use Rattle.std.proofs.lemmas.List.Elements.{filter-append}
use Rattle.std.proofs.lemmas.Bool.{not-true}
use Rattle.std.proofs.Math.Bool.{or-true}
use Rattle.rows_core.specs.Equality.{row_eq-Decides}
use Rattle.rows_core.specs.Value.{row_eq}
use Rattle.row_blob.specs.declared.kept.GroupRow.{GroupRow}
use Rattle.row_blob.specs.Kept.{keys_of as group_keys}
use Rattle.plan_core.specs.declared.agg.Agg.{Agg}
use Rattle.plan_core.specs.Columns.{Row, Rows, columns_of}
use Rattle.plan_core.specs.Distinct.{distinct_rows}
use Rattle.plan_core.specs.Group.{keys_of, members_of}
use Rattle.plan_core.specs.MachineTime.{row_count, rows_taken_in}
use Rattle.plan_core.specs.PlainPlan.{PlainPlan, Group}
use Rattle.plan_core.specs.PlanMeaning.{plan_meaning}
use Rattle.plan_laws.specs.KeptForm.{acc_of, kept_group}
use Rattle.plan_laws.specs.GrowthOfGroups.{groups_of, group_with, joined_accs, joined_group, is_new, merged_groups}
use Rattle.plan_laws.proofs.FirstOfEqual.{has_all, has_no_more}
use Rattle.plan_laws.proofs.JoinedAccumulators.{accs_joined}
use Rattle.plan_laws.proofs.JoinedKeys.{filter_alike, filter_of_map, map_alike, is_none_of, distinct_joined}
use Rattle.plan_laws.proofs.KeptRows.{one_by_one}
use Rattle.plan_laws.proofs.Members.{at_front, behind, front_or_behind, kept, was_there, mapped_from}

pub same_row : (a b : Row) → row_eq a b ≡ true → a ≡ b
same_row a b h = (row_eq-Decides a b).0 h

pub row_itself : (a : Row) → row_eq a a ≡ true
row_itself a = (row_eq-Decides a a).1 refl

-- ---- the rows of a group

-- no row has a key that isn't among the keys
pub no_members : (keys : List ℕ) (rows : Rows) (key : Row) → (Contains (map (columns_of keys) rows) key → ⊥) → members_of keys rows key ≡ []
no_members keys [] key none = refl
no_members keys (row ∷ rows) key none =
    by (row_eq key (columns_of keys row)) refl (no_members keys rows key (λ h. none (behind (columns_of keys row) (map (columns_of keys) rows) key h)))
  where
    by : (b : Bool) → row_eq key (columns_of keys row) ≡ b → members_of keys rows key ≡ [] → cond b (row ∷ members_of keys rows key) (members_of keys rows key) ≡ []
    by true e rest = absurd (none (subst (Contains (map (columns_of keys) (row ∷ rows))) (sym (same_row key (columns_of keys row) e)) (at_front (columns_of keys row) (map (columns_of keys) rows))))
    by false e rest = rest

pub record HasRows (members : Rows) : Type 0 where
  pub first : Row
  pub others : Rows
  pub all : members ≡ first ∷ others

has_rows : (members : Rows) (row : Row) → Contains members row → HasRows members
has_rows [] row h = absurd (omega (arith, h.1))
has_rows (first ∷ others) row h = record { first = first; others = others; all = refl }

-- a key among the keys has rows
pub some_members : (keys : List ℕ) (rows : Rows) (key : Row) → Contains (keys_of keys rows) key → HasRows (members_of keys rows key)
some_members keys rows key h =
    let found = mapped_from (columns_of keys) rows key (has_no_more (map (columns_of keys) rows) key h) in
    has_rows (members_of keys rows key) found.0
    (kept (λ row. row_eq key (columns_of keys row)) rows found.0 found.1 ((row_eq-Decides key (columns_of keys found.0)).1 (sym found.2)))

is_there : (rows : Rows) (row : Row) → Contains rows row → list_any (row_eq row) rows ≡ true
is_there [] row h = absurd (omega (arith, h.1))
is_there (first ∷ rows) row h = by (front_or_behind first rows row h) (is_there rows row)
  where
    by : (first ≡ row) ⊎ Contains rows row → (Contains rows row → list_any (row_eq row) rows ≡ true) → (row_eq row first || list_any (row_eq row) rows) ≡ true
    by (inl same) rest = ap (λ b. b || list_any (row_eq row) rows) ((row_eq-Decides row first).1 (sym same))
    by (inr at) rest = ap (λ b. row_eq row first || b) (rest at) ∙ or-true (row_eq row first)

not_there : (keys : List ℕ) (rows : Rows) (key : Row) → list_any (row_eq key) (keys_of keys rows) ≡ false → Contains (map (columns_of keys) rows) key → ⊥
not_there keys rows key h at = true≢false (sym (is_there (keys_of keys rows) key (has_all (map (columns_of keys) rows) key at)) ∙ h)

is_among : (rows : Rows) (row : Row) → list_any (row_eq row) rows ≡ true → Contains rows row
is_among [] row h = absurd (true≢false (sym h))
is_among (first ∷ rows) row h = by (row_eq row first) refl h (is_among rows row)
  where
    by : (b : Bool) → row_eq row first ≡ b → (b || list_any (row_eq row) rows) ≡ true → (list_any (row_eq row) rows ≡ true → Contains rows row) → Contains (first ∷ rows) row
    by true e h rest = subst (Contains (first ∷ rows)) (sym (same_row row first e)) (at_front first rows)
    by false e h rest = behind first rows row (rest h)

-- ---- one group of both lists

module _ (keys : List ℕ) (aggs : List Agg) (olds news : Rows) where
  members_joined : (key : Row) → members_of keys (olds ++ news) key ≡ members_of keys olds key ++ members_of keys news key
  members_joined key = filter-append (λ row. row_eq key (columns_of keys row)) olds news

  -- a key of the old rows alone
  old_group : (key : Row) → list_any (row_eq key) (keys_of keys news) ≡ false → kept_group keys aggs (olds ++ news) key ≡ kept_group keys aggs olds key
  old_group key none =
      ap (λ members. record { key = key; accs = map (acc_of members) aggs })
      (members_joined key ∙ ap (λ l. members_of keys olds key ++ l) (no_members keys news key (not_there keys news key none)) ∙ append-nil (members_of keys olds key))

  -- a key of the new rows alone
  new_group : (key : Row) → list_any (row_eq key) (keys_of keys olds) ≡ false → kept_group keys aggs (olds ++ news) key ≡ kept_group keys aggs news key
  new_group key none =
      ap (λ members. record { key = key; accs = map (acc_of members) aggs })
      (members_joined key ∙ ap (λ l. l ++ members_of keys news key) (no_members keys olds key (not_there keys olds key none)))

  -- a key of both
  both_groups : (key : Row) → Contains (keys_of keys olds) key → Contains (keys_of keys news) key
      → kept_group keys aggs (olds ++ news) key ≡ joined_group aggs (kept_group keys aggs olds key) (Some (kept_group keys aggs news key))
  both_groups key old new =
      let o = some_members keys olds key old in
      let n = some_members keys news key new in
      ap (λ members. record { key = key; accs = map (acc_of members) aggs }) (members_joined key ∙ ap (λ l. l ++ members_of keys news key) o.all ∙ ap (λ l. (o.first ∷ o.others) ++ l) n.all)
      ∙ ap (λ accs. record { key = key; accs = accs })
      (accs_joined o.first o.others n.first n.others aggs
      ∙ ap (λ l. joined_accs aggs (map (acc_of l) aggs) (map (acc_of (n.first ∷ n.others)) aggs)) (sym o.all)
      ∙ ap (λ l. joined_accs aggs (map (acc_of (members_of keys olds key)) aggs) (map (acc_of l) aggs)) (sym n.all))

-- ---- all groups

-- the group with a key among those of these keys
with_key : (keys : List ℕ) (aggs : List Agg) (rows : Rows) (key : Row) (ks : Rows)
    → group_with key (map (kept_group keys aggs rows) ks) ≡ cond (list_any (row_eq key) ks) (Some (kept_group keys aggs rows key)) None
with_key keys aggs rows key [] = refl
with_key keys aggs rows key (k ∷ ks) = by (row_eq key k) refl (with_key keys aggs rows key ks)
  where
    by : (b : Bool) → row_eq key k ≡ b → group_with key (map (kept_group keys aggs rows) ks) ≡ cond (list_any (row_eq key) ks) (Some (kept_group keys aggs rows key)) None
        → cond b (Some (kept_group keys aggs rows k)) (group_with key (map (kept_group keys aggs rows) ks))
        ≡ cond (b || list_any (row_eq key) ks) (Some (kept_group keys aggs rows key)) None
    by true e rest = ap (λ x. Some (kept_group keys aggs rows x)) (sym (same_row key k e))
    by false e rest = rest

pub keys_kept : (keys : List ℕ) (aggs : List Agg) (rows : Rows) (ks : Rows) → group_keys (map (kept_group keys aggs rows) ks) ≡ ks
keys_kept keys aggs rows ks = one_by_one (kept_group keys aggs rows) (λ group. group.key) (λ key. key) (λ key. refl) ks ∙ map-id ks

module _ (keys : List ℕ) (aggs : List Agg) (olds news : Rows) where
  abbrev joined : Row → GroupRow
  joined key = joined_group aggs (kept_group keys aggs olds key) (group_with key (groups_of keys aggs news))

  -- the old groups
  first_part : map (kept_group keys aggs (olds ++ news)) (keys_of keys olds)
      ≡ map (λ old. joined_group aggs old (group_with old.key (groups_of keys aggs news))) (groups_of keys aggs olds)
  first_part =
      map_alike (kept_group keys aggs (olds ++ news)) joined (keys_of keys olds) (λ key h. at key h (list_any (row_eq key) (keys_of keys news)) refl)
      ∙ sym (one_by_one (kept_group keys aggs olds) (λ old. joined_group aggs old (group_with old.key (groups_of keys aggs news))) joined (λ key. refl) (keys_of keys olds))
    where
      at : (key : Row) → Contains (keys_of keys olds) key → (b : Bool) → list_any (row_eq key) (keys_of keys news) ≡ b → kept_group keys aggs (olds ++ news) key ≡ joined key
      at key h true e =
          both_groups keys aggs olds news key h (is_among (keys_of keys news) key e)
          ∙ ap (joined_group aggs (kept_group keys aggs olds key)) (sym (with_key keys aggs news key (keys_of keys news) ∙ ap (λ b. cond b (Some (kept_group keys aggs news key)) None) e))
      at key h false e =
          old_group keys aggs olds news key e
          ∙ ap (joined_group aggs (kept_group keys aggs olds key)) (sym (with_key keys aggs news key (keys_of keys news) ∙ ap (λ b. cond b (Some (kept_group keys aggs news key)) None) e))

  -- the groups with new keys
  second_part : map (kept_group keys aggs (olds ++ news)) (filter (is_none_of (keys_of keys olds)) (keys_of keys news)) ≡ filter (is_new (groups_of keys aggs olds)) (groups_of keys aggs news)
  second_part =
      map_alike (kept_group keys aggs (olds ++ news)) (kept_group keys aggs news) (filter (is_none_of (keys_of keys olds)) (keys_of keys news))
      (λ key h. new_group keys aggs olds news key (not-true (list_any (row_eq key) (keys_of keys olds)) (was_there (is_none_of (keys_of keys olds)) (keys_of keys news) key h).1))
      ∙ ap (map (kept_group keys aggs news)) (filter_alike (is_none_of (keys_of keys olds)) (λ key. is_new (groups_of keys aggs olds) (kept_group keys aggs news key))
      (λ key. ap (λ ks. not (list_any (row_eq key) ks)) (sym (keys_kept keys aggs olds (keys_of keys olds)))) (keys_of keys news))
      ∙ sym (filter_of_map (kept_group keys aggs news) (is_new (groups_of keys aggs olds)) (keys_of keys news))

pub joined_lists : (keys : List ℕ) (aggs : List Agg) (olds news : Rows) → groups_of keys aggs (olds ++ news) ≡ merged_groups aggs (groups_of keys aggs olds) (groups_of keys aggs news)
joined_lists keys aggs olds news =
    let f = kept_group keys aggs (olds ++ news) in
    let fresh = filter (is_none_of (keys_of keys olds)) (keys_of keys news) in
    ap (λ ks. map f (distinct_rows ks)) (map-append (columns_of keys) olds news)
    ∙ ap (map f) (distinct_joined (map (columns_of keys) olds) (map (columns_of keys) news))
    ∙ map-append f (keys_of keys olds) fresh
    ∙ ap (λ l. l ++ map f fresh) (first_part keys aggs olds news)
    ∙ ap (λ l. map (λ old. joined_group aggs old (group_with old.key (groups_of keys aggs news))) (groups_of keys aggs olds) ++ l) (second_part keys aggs olds news)

-- ---- machine time

pub more_taken_in : (child : PlainPlan) (keys : List ℕ) (aggs : List Agg) (old new : List Rows) (rows further : Rows) (added : ℕ)
    → plan_meaning child old ≡ Ok rows → plan_meaning child new ≡ Ok (rows ++ further) → rows_taken_in child new ≡ rows_taken_in child old + added
    → rows_taken_in (Group child keys aggs) new ≡ rows_taken_in (Group child keys aggs) old + (length further + added)
more_taken_in child keys aggs old new rows further added o n more =
    let was = ap row_count o in
    let is = ap row_count n in
    let longer = length-append rows further in
    omega (arith, was, is, longer, more)
