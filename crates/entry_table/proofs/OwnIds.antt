-- Ids that differ: no more of entries than there are entries, and those that ascend.
use Rattle.std.proofs.Common.{◌≡◌, refl, sym, ap, ◌∙◌, subst, ℕ, ◌<◌, ◌≤◌, ◌==◌, ◌||◌, nat_lt, Bool, true, false, not, eqb, List, [], ◌∷◌, length, arith}
use Rattle.std.specs.List.{AllByRecursion, IsDistinct, list_any, list_all}
use Rattle.std.specs.Set.{is_member}
use Rattle.std.proofs.lemmas.Bool.{and_from, and_parts, eqb-true, ltb-true, not-true}
use Rattle.std.proofs.lemmas.Cmp.{nat_eq_equiv}
use Rattle.std.proofs.lemmas.List.{length-map}
use Rattle.std.proofs.lemmas.Map.Made.{length-le_from_is_member}
use Rattle.catalog_types.specs.PlainEntry.{PlainEntry}
use Rattle.entry_table.specs.Ids.{ids_of, ascend_above, differ, is_among, is_there, AreIdsOf, AreOwnIdsOf}

-- ---- ids that differ are no more than the entries that have them

none-same : (id : ℕ) (ids : List ℕ) → is_among ids id ≡ false → AllByRecursion (λ other. eqb id other ≡ false) ids
none-same id [] none = tt
none-same id (other ∷ ids) none = by (other == id) refl none (none-same id ids)
  where
    by : (b : Bool) → (other == id) ≡ b → b || is_among ids id ≡ false → (is_among ids id ≡ false → AllByRecursion (λ x. eqb id x ≡ false) ids)
        → AllByRecursion (λ x. eqb id x ≡ false) (other ∷ ids)
    by true is none rest = absurd cc
    by false is none rest = (nat_eq_equiv.symm id other ∙ is, rest none)

are-distinct : (ids : List ℕ) → differ ids ≡ true → IsDistinct eqb ids
unfolding IsDistinct
are-distinct [] all = tt
are-distinct (id ∷ ids) all =
    let parts = and_parts (not (is_among ids id)) (differ ids) all in
    (none-same id ids (not-true (is_among ids id) parts.0), are-distinct ids parts.1)

is-there-of : (es : List PlainEntry) (ids : List ℕ) (id : ℕ) → list_all (is_there es) ids ≡ true → is_member eqb ids id ≡ true → is_there es id ≡ true
is-there-of es [] id all has = absurd cc
is-there-of es (own ∷ ids) id all has =
    let parts = and_parts (is_there es own) (list_all (is_there es) ids) all in
    by (eqb id own) refl has parts.0 (is-there-of es ids id parts.1)
  where
    by : (b : Bool) → eqb id own ≡ b → b || is_member eqb ids id ≡ true → is_there es own ≡ true → (is_member eqb ids id ≡ true → is_there es id ≡ true) → is_there es id ≡ true
    by true is has there rest = subst (λ (n : ℕ). is_there es n ≡ true) (sym (eqb-true id own is)) there
    by false is has there rest = rest has

same-there : (es : List PlainEntry) (id : ℕ) → is_member eqb (ids_of es) id ≡ is_there es id
same-there [] id = refl
same-there (e ∷ es) id =
    ap (λ (b : Bool). b || is_member eqb (ids_of es) id) (nat_eq_equiv.symm id e.id) ∙ ap (λ (b : Bool). (e.id == id) || b) (same-there es id)

pub own-few : (es : List PlainEntry) (ids : List ℕ) → AreOwnIdsOf es ids → length ids ≤ length es
own-few es ids own =
    let few = length-le_from_is_member nat_eq_equiv ids (ids_of es) (are-distinct ids own.differ) (λ id has. same-there es id ∙ is-there-of es ids id own.there has) in
    let long = length-map es (λ (e : PlainEntry). e.id) in
    omega (arith, few, long)

-- ---- ids that ascend differ

not-behind : (id low : ℕ) (ids : List ℕ) → id ≤ low → ascend_above low ids ≡ true → is_among ids id ≡ false
not-behind id low [] most up = refl
not-behind id low (other ∷ ids) most up =
    let parts = and_parts (nat_lt low other) (ascend_above other ids) up in
    let less : low < other = ltb-true low other parts.0 in
    by (other == id) refl less (not-behind id other ids (omega (arith, most, less)) parts.1)
  where
    by : (b : Bool) → (other == id) ≡ b → low < other → is_among ids id ≡ false → b || is_among ids id ≡ false
    by true is less rest = (let same = eqb-true other id is in absurd (omega (arith, same, less, most)))
    by false is less rest = rest

ascending-differ : (low : ℕ) (ids : List ℕ) → ascend_above low ids ≡ true → differ ids ≡ true
ascending-differ low [] up = refl
ascending-differ low (id ∷ ids) up =
    let parts = and_parts (nat_lt low id) (ascend_above id ids) up in
    and_from (not (is_among ids id)) (differ ids) (ap not (not-behind id id ids (omega arith) parts.1)) (ascending-differ id ids parts.1)

pub ascending-own : (es : List PlainEntry) (ids : List ℕ) → AreIdsOf es ids → AreOwnIdsOf es ids
ascending-own es ids are = record { differ = ascending-differ 0 ids are.ascend; there = are.there }
