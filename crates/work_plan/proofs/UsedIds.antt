-- Ids of entries are below the next one, and those that ascend are as few as the entries.
use Rattle.std.proofs.Common.{◌≡◌, refl, sym, subst, ℕ, ◌<◌, ◌≤◌, ◌||◌, ◌==◌, nat_lt, Bool, true, false, List, [], ◌∷◌, length, le_refl, arith}
use Rattle.std.specs.List.{AllByRecursion, list_all}
use Rattle.std.proofs.lemmas.Bool.{eqb-true, ltb-true, lt-ltb, and_from, and_parts}
use Rattle.catalog_types.specs.PlainEntry.{PlainEntry}
use Rattle.entry_table.specs.Ids.{ids_of, ascend_above, is_there}

-- ---- they are below the next one

id-below : (n id : ℕ) (es : List PlainEntry) → list_all (λ id. nat_lt id n) (ids_of es) ≡ true → is_there es id ≡ true → id < n
id-below n id [] low there = absurd (cc)
id-below n id (e ∷ es) low there = by (e.id == id) refl there (id-below n id es (and_parts (nat_lt e.id n) (list_all (λ id. nat_lt id n) (ids_of es)) low).1)
  where
    by : (b : Bool) → (e.id == id) ≡ b → b || is_there es id ≡ true → (is_there es id ≡ true → id < n) → id < n
    by true same there rest =
        let first : e.id < n = ltb-true e.id n (and_parts (nat_lt e.id n) (list_all (λ id. nat_lt id n) (ids_of es)) low).0 in
        let at : e.id ≡ id = eqb-true e.id id same in
        omega (arith, first, at)
    by false other there rest = rest there

pub ids-below : (n : ℕ) (es : List PlainEntry) (ids : List ℕ) → list_all (λ id. nat_lt id n) (ids_of es) ≡ true → list_all (is_there es) ids ≡ true → AllByRecursion (λ id. id < n) ids
ids-below n es [] low there = tt
ids-below n es (id ∷ ids) low there =
    let parts = and_parts (is_there es id) (list_all (is_there es) ids) there in
    (id-below n id es low parts.0, ids-below n es ids low parts.1)

-- ---- they are few

id-above : (low id : ℕ) (es : List PlainEntry) → ascend_above low (ids_of es) ≡ true → is_there es id ≡ true → low < id
id-above low id [] up there = absurd (cc)
id-above low id (e ∷ es) up there = by (e.id == id) refl there (id-above e.id id es (and_parts (nat_lt low e.id) (ascend_above e.id (ids_of es)) up).1)
  where
    by : (b : Bool) → (e.id == id) ≡ b → b || is_there es id ≡ true → (is_there es id ≡ true → e.id < id) → low < id
    by true same there rest =
        let first : low < e.id = ltb-true low e.id (and_parts (nat_lt low e.id) (ascend_above e.id (ids_of es)) up).0 in
        let at : e.id ≡ id = eqb-true e.id id same in
        omega (arith, first, at)
    by false other there rest =
        let first : low < e.id = ltb-true low e.id (and_parts (nat_lt low e.id) (ascend_above e.id (ids_of es)) up).0 in
        let more : e.id < id = rest there in
        omega (arith, first, more)

-- ids above the first entry's are of the others
later : (low : ℕ) (e : PlainEntry) (es : List PlainEntry) (ids : List ℕ) → e.id ≤ low → ascend_above low ids ≡ true
    → list_all (is_there (e ∷ es)) ids ≡ true → list_all (is_there es) ids ≡ true
later low e es [] most up there = refl
later low e es (id ∷ ids) most up there =
    let ups = and_parts (nat_lt low id) (ascend_above id ids) up in
    let theres = and_parts (is_there (e ∷ es) id) (list_all (is_there (e ∷ es)) ids) there in
    let less : low < id = ltb-true low id ups.0 in
    and_from (is_there es id) (list_all (is_there es) ids) (by (e.id == id) refl theres.0) (later id e es ids (omega (arith, most, less)) ups.1 theres.1)
  where
    by : (b : Bool) → (e.id == id) ≡ b → b || is_there es id ≡ true → is_there es id ≡ true
    by true same there =
        let less : low < id = ltb-true low id (and_parts (nat_lt low id) (ascend_above id ids) up).0 in
        let at : e.id ≡ id = eqb-true e.id id same in
        absurd (omega (arith, most, less, at))
    by false other there = there

pub ids-few : (low : ℕ) (es : List PlainEntry) (ids : List ℕ) → ascend_above low (ids_of es) ≡ true → ascend_above low ids ≡ true
    → list_all (is_there es) ids ≡ true → length ids ≤ length es
ids-few low es [] ups up there = omega arith
ids-few low [] (id ∷ ids) ups up there = absurd (let none : false ≡ true = (and_parts false (list_all (is_there []) ids) there).0 in cc)
ids-few low (e ∷ es) (id ∷ ids) ups up there =
    by (e.id == id) refl (and_parts (is_there (e ∷ es) id) (list_all (is_there (e ∷ es)) ids) there).0 (ids-few e.id es ids) (ids-few e.id es (id ∷ ids))
  where
    behind : ascend_above e.id (ids_of es) ≡ true
    behind = (and_parts (nat_lt low e.id) (ascend_above e.id (ids_of es)) ups).1

    rest-up : ascend_above id ids ≡ true
    rest-up = (and_parts (nat_lt low id) (ascend_above id ids) up).1

    rest-there : list_all (is_there (e ∷ es)) ids ≡ true
    rest-there = (and_parts (is_there (e ∷ es) id) (list_all (is_there (e ∷ es)) ids) there).1

    by : (b : Bool) → (e.id == id) ≡ b → b || is_there es id ≡ true
        → (ascend_above e.id (ids_of es) ≡ true → ascend_above e.id ids ≡ true → list_all (is_there es) ids ≡ true → length ids ≤ length es)
        → (ascend_above e.id (ids_of es) ≡ true → ascend_above e.id (id ∷ ids) ≡ true → list_all (is_there es) (id ∷ ids) ≡ true → length (id ∷ ids) ≤ length es)
        → length (id ∷ ids) ≤ length (e ∷ es)
    by true same here shorter longer =
        let at : id ≡ e.id = sym (eqb-true e.id id same) in
        let upper : ascend_above e.id ids ≡ true = subst (λ (n : ℕ). ascend_above n ids ≡ true) at rest-up in
        let most = shorter behind upper (later e.id e es ids (le_refl e.id) upper rest-there) in
        omega (arith, most)
    by false other here shorter longer =
        let above : e.id < id = id-above e.id id es behind here in
        let upper : ascend_above e.id (id ∷ ids) ≡ true = and_from (nat_lt e.id id) (ascend_above id ids) (lt-ltb e.id id above) rest-up in
        let most = longer behind upper (later e.id e es (id ∷ ids) (le_refl e.id) upper there) in
        omega (arith, most)
