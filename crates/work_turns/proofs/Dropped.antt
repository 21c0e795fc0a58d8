-- The ids of entries that are among others.
use Rattle.std.proofs.Common.{◌≡◌, refl, sym, ap, ◌∙◌, ℕ, ◌<◌, ◌==◌, ◌&&◌, ◌||◌, nat_lt, Bool, true, false, not, cond, List, [], ◌∷◌, ◌++◌, ◌+◌, length, map, take, get_or, arith}
use Rattle.std.specs.List.{filter, list_all}
use Rattle.std.proofs.lemmas.Bool.{eqb-true, ltb-true, and_from, and_parts}
use Rattle.std.proofs.lemmas.List.{map-append}
use Rattle.std.proofs.lemmas.List.Elements.{filter_more}
use Rattle.std.proofs.Math.Bool.{and-true, or-true, and-false}
use Rattle.catalog_types.specs.PlainEntry.{PlainEntry}
use Rattle.entry_table.specs.Ids.{AreIdsOf, ids_of, ascend_above, is_among, is_there, without}
use Rattle.entry_table.proofs.Growth.{ascend-lower}
use Rattle.plan_choice.proofs.LeftOut.{left-there}
use Rattle.work_turns.specs.Ends.{entries_among, those_among}

-- ---- which they are

pub among-those : (ids : List ℕ) (es : List PlainEntry) (id : ℕ) → is_among (those_among ids es) id ≡ (is_among ids id && is_there es id)
among-those ids [] id = sym (and-false (is_among ids id))
among-those ids (e ∷ es) id = by (is_among ids e.id) (e.id == id) refl refl (among-those ids es id)
  where
    by : (b c : Bool) → is_among ids e.id ≡ b → (e.id == id) ≡ c → is_among (those_among ids es) id ≡ (is_among ids id && is_there es id)
        → is_among (ids_of (cond b (e ∷ filter (λ e. is_among ids e.id) es) (filter (λ e. is_among ids e.id) es))) id ≡ (is_among ids id && (c || is_there es id))
    by true true own same rest =
        let among : is_among ids id ≡ true = ap (is_among ids) (sym (eqb-true e.id id same)) ∙ own in
        ap (λ b. b || is_among (those_among ids es) id) same ∙ sym (ap (λ b. b && true) among)
    by true false own same rest = ap (λ b. b || is_among (those_among ids es) id) same ∙ rest
    by false true own same rest =
        let among : is_among ids id ≡ false = ap (is_among ids) (sym (eqb-true e.id id same)) ∙ own in
        rest ∙ ap (λ b. b && is_there es id) among ∙ sym (ap (λ b. b && true) among)
    by false false own same rest = rest

-- one more entry, of which this number is told
pub among-more : (of : PlainEntry → ℕ) (ids : List ℕ) (es : List PlainEntry) (i : ℕ) (e : PlainEntry) → i < length es → e ≡ get_or es i e
    → map of (entries_among ids (take (i + 1) es)) ≡ map of (entries_among ids (take i es)) ++ cond (is_among ids e.id) (of e ∷ []) []
among-more of ids es i e low is =
    ap (map of) (filter_more (λ (x : PlainEntry). is_among ids x.id) es i e low)
    ∙ map-append of (entries_among ids (take i es)) (cond (is_among ids (get_or es i e).id) (get_or es i e ∷ []) [])
    ∙ ap (λ xs. map of (entries_among ids (take i es)) ++ xs) (ap (λ (x : PlainEntry). map of (cond (is_among ids x.id) (x ∷ []) [])) (sym is) ∙ by (is_among ids e.id))
  where
    by : (b : Bool) → map of (cond b (e ∷ []) []) ≡ cond b (of e ∷ []) []
    by true = refl
    by false = refl

-- ---- they are ids of entries

there-more : (e : PlainEntry) (es : List PlainEntry) (ids : List ℕ) → list_all (is_there es) ids ≡ true → list_all (is_there (e ∷ es)) ids ≡ true
there-more e es [] there = refl
there-more e es (id ∷ ids) there =
    let parts = and_parts (is_there es id) (list_all (is_there es) ids) there in
    and_from (is_there (e ∷ es) id) (list_all (is_there (e ∷ es)) ids) (ap (λ b. (e.id == id) || b) parts.0 ∙ or-true (e.id == id)) (there-more e es ids parts.1)

own-id : (e : PlainEntry) → (e.id == e.id) ≡ true
own-id e = grind (arith)

there-first : (e : PlainEntry) (es : List PlainEntry) → is_there (e ∷ es) e.id ≡ true
there-first e es = ap (λ b. b || is_there es e.id) (own-id e)

there-those : (ids : List ℕ) (es : List PlainEntry) → list_all (is_there es) (those_among ids es) ≡ true
there-those ids [] = refl
there-those ids (e ∷ es) = by (is_among ids e.id) (there-more e es (those_among ids es) (there-those ids es))
  where
    by : (b : Bool) → list_all (is_there (e ∷ es)) (those_among ids es) ≡ true → list_all (is_there (e ∷ es)) (ids_of (cond b (e ∷ filter (λ e. is_among ids e.id) es) (filter (λ e. is_among ids e.id) es))) ≡ true
    by true rest = and_from (is_there (e ∷ es) e.id) (list_all (is_there (e ∷ es)) (those_among ids es)) (there-first e es) rest
    by false rest = rest

-- ---- they ascend

ascend-those : (ids : List ℕ) (low : ℕ) (es : List PlainEntry) → ascend_above low (ids_of es) ≡ true → ascend_above low (those_among ids es) ≡ true
ascend-those ids low [] up = refl
ascend-those ids low (e ∷ es) up =
    let parts = and_parts (nat_lt low e.id) (ascend_above e.id (ids_of es)) up in
    let less = ltb-true low e.id parts.0 in
    let rest = ascend-those ids e.id es parts.1 in
    by (is_among ids e.id) parts.0 rest (ascend-lower low e.id (those_among ids es) (omega (arith, less)) rest)
  where
    by : (b : Bool) → nat_lt low e.id ≡ true → ascend_above e.id (those_among ids es) ≡ true → ascend_above low (those_among ids es) ≡ true
        → ascend_above low (ids_of (cond b (e ∷ filter (λ e. is_among ids e.id) es) (filter (λ e. is_among ids e.id) es))) ≡ true
    by true first rest all = and_from (nat_lt low e.id) (ascend_above e.id (those_among ids es)) first rest
    by false first rest all = all

pub are-ids : (ids : List ℕ) (es : List PlainEntry) → ascend_above 0 (ids_of es) ≡ true → AreIdsOf es (those_among ids es)
are-ids ids es up = record { ascend = ascend-those ids 0 es up; there = there-those ids es }

-- ---- without them, and without the others, the same entries are left

agree : (d ids : List ℕ) (es : List PlainEntry) → ((id : ℕ) → is_among d id ≡ (is_among ids id && is_there es id)) → (f : Bool → Bool) → (xs : List PlainEntry) → list_all (is_there es) (ids_of xs) ≡ true
    → filter (λ (e : PlainEntry). f (is_among d e.id)) xs ≡ filter (λ (e : PlainEntry). f (is_among ids e.id)) xs
agree d ids es among f [] there = refl
agree d ids es among f (x ∷ xs) there =
    let parts = and_parts (is_there es x.id) (list_all (is_there es) (ids_of xs)) there in
    let same : is_among d x.id ≡ is_among ids x.id = among x.id ∙ ap (λ b. is_among ids x.id && b) parts.0 ∙ and-true (is_among ids x.id) in
    let rest = agree d ids es among f xs parts.1 in
    λ i. cond (f (same i)) (x ∷ rest i) (rest i)

all-there : (es : List PlainEntry) → list_all (is_there es) (ids_of es) ≡ true
all-there [] = refl
all-there (e ∷ es) = and_from (is_there (e ∷ es) e.id) (list_all (is_there (e ∷ es)) (ids_of es)) (there-first e es) (there-more e es (ids_of es) (all-there es))

pub without-those : (ids : List ℕ) (es : List PlainEntry) → without (those_among ids es) es ≡ without ids es
without-those ids es = agree (those_among ids es) ids es (among-those ids es) not es (all-there es)

pub among-twice : (ids : List ℕ) (es : List PlainEntry) → entries_among (those_among ids es) es ≡ entries_among ids es
among-twice ids es = agree (those_among ids es) ids es (among-those ids es) (λ b. b) es (all-there es)

-- ---- ids of the entries that are left are there

all-left-there : (ids : List ℕ) (es : List PlainEntry) (used : List ℕ) → list_all (is_there (without ids es)) used ≡ true → list_all (is_there es) used ≡ true
all-left-there ids es [] there = refl
all-left-there ids es (id ∷ used) there =
    let parts = and_parts (is_there (without ids es) id) (list_all (is_there (without ids es)) used) there in
    and_from (is_there es id) (list_all (is_there es) used) (left-there ids es id parts.0).1 (all-left-there ids es used parts.1)

pub are-among-all : (ids : List ℕ) (es : List PlainEntry) (used : List ℕ) → AreIdsOf (without ids es) used → AreIdsOf es used
are-among-all ids es used is = record { ascend = is.ascend; there = all-left-there ids es used is.there }
