-- The ids of the kept results that a rewriting names, ascending and each once: they are of entries, and no more than these.
use Rattle.std.proofs.Common.{◌≡◌, refl, sym, subst, inl, inr, ◌⊎◌, ℕ, ◌<◌, ◌≤◌, Bool, true, false, ◌||◌, ◌==◌, nat_lt, List, [], ◌∷◌, length, get_or, arith}
use Rattle.std.specs.Prelude.{IsTrue}
use Rattle.std.specs.List.{AllByRecursion, Contains, list_all}
use Rattle.std.specs.List.Sorted.{IsStrictlySortedBy}
use Rattle.std.specs.Ordering.{nat_cmp}
use Rattle.std.specs.declared.cmp.Ordering.TheVariants.{Less}
use Rattle.std.proofs.lemmas.Bool.{false≢true, eqb-true, ltb-true, lt-ltb, and_from, and_parts}
use Rattle.std.proofs.lemmas.Bool.Decides.{nat_tests}
use Rattle.std.proofs.lemmas.List.Elements.{All-contains, All-from_recursion, Contains-get_or, recursion_from_All}
use Rattle.std.proofs.lemmas.List.Sums.{list_all-from_AllPass}
use Rattle.std.proofs.lemmas.Map.Keys.{sorted_from_strictly_increasing, sorted_head, sorted_tail}
use Rattle.rewrite_core.specs.Files as rewriting
use Rattle.rewrite_core.specs.Files.{FileName, ids_in}
use Rattle.catalog_types.specs.PlainEntry.{PlainEntry}
use Rattle.entry_table.specs.Ids.{AreIdsOf, ascend_above, ids_of, is_there}

either : (b c : Bool) → b || c ≡ true → (b ≡ true) ⊎ (c ≡ true)
either true c is = inl refl
either false c is = inr is

-- ---- ids that ascend

is_less : (x y : ℕ) → nat_cmp x y ≡ Less → nat_lt x y ≡ true
is_less x y less = grind (arith, nat_tests)

comes_less : (x y : ℕ) → x < y → nat_cmp x y ≡ Less
comes_less x y less = grind (arith, nat_tests)

-- numbers that rise, each above a bound, ascend above it
ascend_of : (low : ℕ) (ids : List ℕ) → AllByRecursion (λ id. nat_cmp low id ≡ Less) ids → IsStrictlySortedBy nat_cmp ids → ascend_above low ids ≡ true
ascend_of low [] above rise = refl
ascend_of low (id ∷ ids) above rise =
    and_from (nat_lt low id) (ascend_above id ids) (is_less low id above.0) (ascend_of id ids (sorted_head nat_cmp id ids rise) (sorted_tail nat_cmp id ids rise))

-- an entry's id is above what the ids ascend above
id_above : (low : ℕ) (es : List PlainEntry) (id : ℕ) → ascend_above low (ids_of es) ≡ true → is_there es id ≡ true → low < id
id_above low [] id up there = absurd (false≢true there)
id_above low (e ∷ es) id up there =
    let parts = and_parts (nat_lt low e.id) (ascend_above e.id (ids_of es)) up in
    let first = ltb-true low e.id parts.0 in
    elim (either (e.id == id) (is_there es id) there) [
      | inl same ↦ (let is = eqb-true e.id id same in omega (arith, first, is))
      | inr behind ↦ (let rest = id_above e.id es id parts.1 behind in omega (arith, first, rest))
    ]

-- ids above an entry's are those of entries behind it
behind_first : (low : ℕ) (e : PlainEntry) (es : List PlainEntry) (ids : List ℕ) → e.id ≤ low → ascend_above low ids ≡ true → list_all (is_there (e ∷ es)) ids ≡ true → list_all (is_there es) ids ≡ true
behind_first low e es [] most up there = refl
behind_first low e es (id ∷ ids) most up there =
    let parts = and_parts (nat_lt low id) (ascend_above id ids) up in
    let less = ltb-true low id parts.0 in
    let listed = and_parts (is_there (e ∷ es) id) (list_all (is_there (e ∷ es)) ids) there in
    let behind : is_there es id ≡ true = elim (either (e.id == id) (is_there es id) listed.0) [
      | inl same ↦ (let is = eqb-true e.id id same in absurd (omega (arith, most, less, is)))
      | inr behind ↦ behind
    ] in
    and_from (is_there es id) (list_all (is_there es) ids) behind (behind_first id e es ids (omega (arith, most, less)) parts.1 listed.1)

no_more : (low : ℕ) (es : List PlainEntry) (ids : List ℕ) → ascend_above low (ids_of es) ≡ true → ascend_above low ids ≡ true → list_all (is_there es) ids ≡ true → length ids ≤ length es
no_more low [] [] order up there = omega arith
no_more low [] (id ∷ ids) order up there = absurd (false≢true there)
no_more low (e ∷ es) [] order up there = omega arith
no_more low (e ∷ es) (id ∷ ids) order up there =
    let parts = and_parts (nat_lt low e.id) (ascend_above e.id (ids_of es)) order in
    let rise = and_parts (nat_lt low id) (ascend_above id ids) up in
    let listed = and_parts (is_there (e ∷ es) id) (list_all (is_there (e ∷ es)) ids) there in
    elim (either (e.id == id) (is_there es id) listed.0) [
      | inl same ↦ (
          let is = eqb-true e.id id same in
          let higher = subst (λ (n : ℕ). ascend_above n ids ≡ true) (sym is) rise.1 in
          let rest = no_more e.id es ids parts.1 higher (behind_first id e es ids (omega (arith, is)) rise.1 listed.1) in
          omega (arith, rest))
      | inr behind ↦ (
          let less = id_above e.id es id parts.1 behind in
          let others = behind_first id e es ids (omega (arith, less)) rise.1 listed.1 in
          let rest = no_more e.id es (id ∷ ids) parts.1 (and_from (nat_lt e.id id) (ascend_above id ids) (lt-ltb e.id id less) rise.1) (and_from (is_there es id) (list_all (is_there es) ids) behind others) in
          omega (arith, rest))
    ]

-- there are no more ids than entries
pub few_ids : (es : List PlainEntry) (ids : List ℕ) → ascend_above 0 (ids_of es) ≡ true → AreIdsOf es ids → length ids ≤ length es
few_ids es ids order are = no_more 0 es ids order are.ascend are.there

-- ---- the ids that files name

module _ (es : List PlainEntry) (order : ascend_above 0 (ids_of es) ≡ true) (files : List FileName) (ids : List ℕ) (all : AllByRecursion (λ (id : ℕ). IsTrue (is_there es id)) (ids_in files))
    (are : rewriting.AreIdsOf files ids) where
  abbrev IsThere : ℕ → Type 0
  IsThere id = IsTrue (is_there es id)

  each_there : (id : ℕ) → Contains ids id → is_there es id ≡ true
  each_there id has = All-contains IsThere (ids_in files) id (All-from_recursion IsThere (ids_in files) all) ((are.named id).0 has)

  pub ids_are_of : AreIdsOf es ids
  ids_are_of =
      let each : (k d : ℕ) → k < length ids → is_there es (get_or ids k d) ≡ true = λ k d low. each_there (get_or ids k d) (Contains-get_or ids k d low) in
      let above = recursion_from_All (λ id. nat_cmp 0 id ≡ Less) ids (λ k d low. comes_less 0 (get_or ids k d) (id_above 0 es (get_or ids k d) order (each k d low))) in
      record {
        ascend = ascend_of 0 ids above (sorted_from_strictly_increasing ids are.ascend);
        there = list_all-from_AllPass (is_there es) ids each;
      }
