-- The kept results of a table, as look-ups ask them.
use Rattle.std.proofs.Common.{◌≡◌, inl, inr, refl, sym, ap, ◌∙◌, subst, ℕ, ◌<◌, ◌==◌, ◌||◌, nat_lt, Bool, true, false, cond, List, [], ◌∷◌, length, map, Some, None, unwrap_or, arith}
use Rattle.std.specs.List.{Contains, AllByRecursion, filter, find}
use Rattle.std.specs.Option.{option_map}
use Rattle.std.proofs.lemmas.Bool.{ltb-true, eqb-true, eq-eqb, and_parts}
use Rattle.std.proofs.lemmas.List.Elements.{All-contains, All-from_recursion}
use Rattle.std.proofs.lemmas.List.Folds.{list_any_at}
use Rattle.rows_core.specs.declared.cut.Cut.{Cut}
use Rattle.plan_core.specs.PlainPlan.{leaf_count}
use Rattle.estimator.specs.Cuts.{AreIntervals}
use Rattle.rewrite_core.specs.Entries.{Entry, AreSound}
use Rattle.rewrite_core.specs.Files.{Result}
use Rattle.rewrite_core.proofs.Looking.{Contains-first, Contains-behind, Contains-cons_cases, Contains-none}
use Rattle.catalog_types.specs.PlainEntry.{PlainEntry}
use Rattle.catalog_types.specs.declared.snapshot.StreamState.{StreamState}
use Rattle.cache_index.specs.Asked.{entry, is_asked, asked}
use Rattle.entry_table.specs.AreKept.{AreAlike, NoTwoAreAlike}
use Rattle.entry_table.specs.Ids.{ids_of, ascend_above, is_there}
use Rattle.catalog_core.specs.IsTable.{IsTable}
use Rattle.catalog_core.specs.Named.{no_file, file_at, machine_at}
use Rattle.catalog_core.specs.Programs.{AreCuts}
use Rattle.catalog_core.specs.Results.{IsEntryOver}
use Rattle.catalog_core.specs.Table.{Table}

pub all-at : {A : Type 0} (P : A → Type 0) (xs : List A) (x : A) → AllByRecursion P xs → Contains xs x → P x
all-at P xs x all has = All-contains P xs x (All-from_recursion P xs all) has

-- each that is asked is one of the kept results
pub asked-is : (without : List ℕ) (es : List PlainEntry) (y : Entry) → Contains (asked without es) y → (e : PlainEntry) × Contains es e × (entry e ≡ y)
asked-is without [] y has = absurd (Contains-none y has)
asked-is without (x ∷ xs) y has = by (is_asked without x) has (asked-is without xs y)
  where
    by : (b : Bool) → Contains (map entry (cond b (x ∷ filter (is_asked without) xs) (filter (is_asked without) xs))) y
        → (Contains (asked without xs) y → (e : PlainEntry) × Contains xs e × (entry e ≡ y)) → (e : PlainEntry) × Contains (x ∷ xs) e × (entry e ≡ y)
    by true has rest = elim (Contains-cons_cases (entry x) (asked without xs) y has) [
      | inl is ↦ (x, Contains-first x xs, is)
      | inr more ↦ let e = rest more in (e.0, Contains-behind x xs e.0 e.1, e.2)
    ]
    by false has rest = let e = rest has in (e.0, Contains-behind x xs e.0 e.1, e.2)

-- ---- the kept result with an id

above-each : (low : ℕ) (es : List PlainEntry) (x : PlainEntry) → ascend_above low (ids_of es) ≡ true → Contains es x → low < x.id
above-each low [] x up has = absurd (Contains-none x has)
above-each low (e ∷ es) x up has =
    let parts = and_parts (nat_lt low e.id) (ascend_above e.id (ids_of es)) up in
    let less : low < e.id = ltb-true low e.id parts.0 in
    elim (Contains-cons_cases e es x has) [
      | inl is ↦ subst (λ (y : PlainEntry). low < y.id) is less
      | inr more ↦ (let rest = above-each e.id es x parts.1 more in omega (arith, less, rest))
    ]

pub find-own : (low : ℕ) (es : List PlainEntry) (x : PlainEntry) → ascend_above low (ids_of es) ≡ true → Contains es x → find (λ e. e.id == x.id) es ≡ Some x
find-own low [] x up has = absurd (Contains-none x has)
find-own low (y ∷ ys) x up has =
    let parts = and_parts (nat_lt low y.id) (ascend_above y.id (ids_of ys)) up in
    elim (Contains-cons_cases y ys x has) [
      | inl is ↦ subst (λ (z : PlainEntry). find (λ e. e.id == z.id) (y ∷ ys) ≡ Some z) is (ap (λ b. cond b (Some y) (find (λ e. e.id == y.id) ys)) (eq-eqb y.id y.id refl))
      | inr more ↦ ap (λ b. cond b (Some y) (find (λ e. e.id == x.id) ys)) (other y x (above-each y.id ys x parts.1 more)) ∙ find-own y.id ys x parts.1 more
    ]
  where
    other : (y x : PlainEntry) → y.id < x.id → (y.id == x.id) ≡ false
    other y x less = by (y.id == x.id) refl
      where
        by : (b : Bool) → (y.id == x.id) ≡ b → b ≡ false
        by true same = absurd (let e : y.id ≡ x.id = eqb-true y.id x.id same in omega (arith, less, e))
        by false same = refl

same-id : (es : List PlainEntry) (x y : PlainEntry) → ascend_above 0 (ids_of es) ≡ true → Contains es x → Contains es y → x.id ≡ y.id → x ≡ y
same-id es x y up has also same =
    some-injective x y (sym (find-own 0 es x up has) ∙ ap (λ (id : ℕ). find (λ e. e.id == id) es) same ∙ find-own 0 es y up also)
  where
    some-injective : (x y : PlainEntry) → Some x ≡ Some y → x ≡ y
    some-injective x y e = cc

-- a kept result is found where its id is one of theirs
pub none-there : (es : List PlainEntry) (id : ℕ) → find (λ e. e.id == id) es ≡ None → is_there es id ≡ true → ⊥
none-there [] id none there = absurd cc
none-there (e ∷ es) id none there = by (e.id == id) none there (none-there es id)
  where
    by : (b : Bool) → cond b (Some e) (find (λ e. e.id == id) es) ≡ None → b || is_there es id ≡ true → (find (λ e. e.id == id) es ≡ None → is_there es id ≡ true → ⊥) → ⊥
    by true none there rest = absurd cc
    by false none there rest = rest none there

pub asked-there : (without : List ℕ) (es : List PlainEntry) (e : Entry) → Contains (asked without es) e → is_there es e.id ≡ true
asked-there without es e has =
    let x = asked-is without es e has in
    let same = ap (λ (z : Entry). z.id) x.2 in
    subst (λ (id : ℕ). is_there es id ≡ true) same
    (list_any_at (λ (z : PlainEntry). z.id == x.0.id) es x.1.0 x.0 x.1.1 (ap (λ (z : PlainEntry). z.id == x.0.id) x.1.2 ∙ eq-eqb x.0.id x.0.id refl))

pub found-own : (t : Table) (e : PlainEntry) → IsTable t → Contains t.entries e → (file_at t (Result e.id) ≡ e.file) × (machine_at t e.id ≡ e.machine)
found-own t e is has =
    let found = find-own 0 t.entries e is.kept.ascend has in
    (ap (λ o. unwrap_or (option_map (λ (e : PlainEntry). e.file) o) no_file) found, ap (λ o. unwrap_or (option_map (λ (e : PlainEntry). e.machine) o) 0) found)

pub asked-len : (t : Table) (without : List ℕ) (e : Entry) → IsTable t → Contains (asked without t.entries) e → (file_at t (Result e.id)).len ≡ e.len
asked-len t without e is has =
    let x = asked-is without t.entries e has in
    subst (λ (y : Entry). (file_at t (Result y.id)).len ≡ y.len) x.2 (ap (λ file. file.len) (found-own t x.0 is x.1).0)

-- ---- sound for look-ups

same-place : (es : List PlainEntry) (x y : PlainEntry) → NoTwoAreAlike es → Contains es x → Contains es y → x.plan ≡ y.plan → x.cuts ≡ y.cuts → x ≡ y
same-place [] x y differ has also plans cuts = absurd (Contains-none x has)
same-place (e ∷ es) x y differ has also plans cuts = elim (Contains-cons_cases e es x has) [
  | inl is ↦ elim (Contains-cons_cases e es y also) [
    | inl too ↦ sym is ∙ too
    | inr more ↦ absurd (apart y more (ap (λ (z : PlainEntry). z.plan) is ∙ plans, ap (λ (z : PlainEntry). z.cuts) is ∙ cuts))
  ]
  | inr there ↦ elim (Contains-cons_cases e es y also) [
    | inl too ↦ absurd (apart x there (ap (λ (z : PlainEntry). z.plan) too ∙ sym plans, ap (λ (z : PlainEntry). z.cuts) too ∙ sym cuts))
    | inr more ↦ same-place es x y differ.1 there more plans cuts
  ]
]
  where
    apart : (z : PlainEntry) → Contains es z → AreAlike e z → ⊥
    apart z more = all-at (λ (other : PlainEntry). ¬ (AreAlike e other)) es z differ.0 more

cuts-intervals : (streams : List StreamState) (leaves : List ℕ) (cuts : List Cut) → AreCuts streams leaves cuts → AreIntervals cuts
cuts-intervals streams [] [] are = tt
cuts-intervals streams [] (cut ∷ cuts) are = absurd are
cuts-intervals streams (leaf ∷ leaves) [] are = absurd are
cuts-intervals streams (leaf ∷ leaves) (cut ∷ cuts) are = (are.0.0, cuts-intervals streams leaves cuts are.1)

cuts-length : (streams : List StreamState) (leaves : List ℕ) (cuts : List Cut) → AreCuts streams leaves cuts → length cuts ≡ length leaves
cuts-length streams [] [] are = refl
cuts-length streams [] (cut ∷ cuts) are = absurd are
cuts-length streams (leaf ∷ leaves) [] are = absurd are
cuts-length streams (leaf ∷ leaves) (cut ∷ cuts) are = let rest = cuts-length streams leaves cuts are.1 in omega (arith, rest)

pub asked-sound : (t : Table) (without : List ℕ) → IsTable t → AreSound (asked without t.entries)
asked-sound t without is = record {
  ids = λ e f has also same.
      let x = asked-is without t.entries e has in
      let y = asked-is without t.entries f also in
      let ids = ap (λ (z : Entry). z.id) x.2 ∙ same ∙ sym (ap (λ (z : Entry). z.id) y.2) in
      sym x.2 ∙ ap entry (same-id t.entries x.0 y.0 is.kept.ascend x.1 y.1 ids) ∙ y.2;
  places = λ e f has also plans cuts.
      let x = asked-is without t.entries e has in
      let y = asked-is without t.entries f also in
      let same_plan = ap (λ (z : Entry). z.plan) x.2 ∙ plans ∙ sym (ap (λ (z : Entry). z.plan) y.2) in
      let same_cuts = ap (λ (z : Entry). z.cuts) x.2 ∙ cuts ∙ sym (ap (λ (z : Entry). z.cuts) y.2) in
      sym x.2 ∙ ap entry (same-place t.entries x.0 y.0 is.kept.differ x.1 y.1 same_plan same_cuts) ∙ y.2;
  intervals = λ e has.
      let x = asked-is without t.entries e has in
      subst (λ (z : Entry). AreIntervals z.cuts) x.2 (cuts-intervals t.streams _ x.0.cuts (over x.0 x.1).are_cuts);
  leaves = λ e has.
      let x = asked-is without t.entries e has in
      subst (λ (z : Entry). length z.cuts ≡ leaf_count z.plan) x.2 (cuts-length t.streams _ x.0.cuts (over x.0 x.1).are_cuts);
}
  where
    over : (e : PlainEntry) → Contains t.entries e → IsEntryOver t.streams e
    over e has = all-at (IsEntryOver t.streams) t.entries e is.over has
