-- The kept results stay what they are: work and collections keep their ids in order and few enough.
use Rattle.std.proofs.Common.{◌≡◌, ℕ, ◌+◌, ◌<◌, ◌≤◌, Bool, true, false, not, cond, List, [], ◌∷◌, ◌++◌, length, map, nat_lt, IsTrue, refl, ap, ◌∙◌, length-append, arith}
use Rattle.std.specs.List.{AllByRecursion, list_all}
use Rattle.std.proofs.lemmas.Bool.{ltb-true, lt-ltb, and_from, and_parts}
use Rattle.catalog_types.specs.PlainEntry.{PlainEntry, PlainNewEntry}
pub use Rattle.cache_index.proofs.Searching.{all-map}
use Rattle.entry_table.specs.declared.keys.Keys.{Keys}
use Rattle.entry_table.specs.Ids.{ids_of, ascend_above, is_among, without}
use Rattle.entry_table.specs.Keying.{keyed_entries}
use Rattle.entry_table.specs.Results.{AreNew, Differ, IsNewTo, IsOf, IsResult, IsShort}
use Rattle.entry_table.specs.Work.{Kept, used, with_uses, with_use, new_entry, new_entries, after_work}
use Rattle.entry_table.specs.Keyed.{Digests, keys_of}
use Rattle.entry_table.specs.AreKept.{AreKept, AreAlike, IsEntry, NoTwoAreAlike}
use Rattle.entry_table.proofs.Lists.{without-within, uses-length, keyed-length, keyed-are}

-- ---- ids that ascend

-- above a lower bound too
pub ascend-lower : (low bound : ℕ) (ids : List ℕ) → low ≤ bound → ascend_above bound ids ≡ true → ascend_above low ids ≡ true
ascend-lower low bound [] most up = refl
ascend-lower low bound (id ∷ ids) most up =
    let parts = and_parts (nat_lt bound id) (ascend_above id ids) up in
    let less = ltb-true bound id parts.0 in
    and_from (nat_lt low id) (ascend_above id ids) (lt-ltb low id (omega (arith, most, less))) parts.1

-- where some are left out
ascend-without : (ids : List ℕ) (low : ℕ) (es : List PlainEntry) → ascend_above low (ids_of es) ≡ true → ascend_above low (ids_of (without ids es)) ≡ true
ascend-without ids low [] up = refl
ascend-without ids low (e ∷ es) up =
    let parts = and_parts (nat_lt low e.id) (ascend_above e.id (ids_of es)) up in
    let less = ltb-true low e.id parts.0 in
    by (not (is_among ids e.id)) parts.0 (ascend-without ids e.id es parts.1) (ascend-lower low e.id (ids_of (without ids es)) (omega (arith, less)) (ascend-without ids e.id es parts.1))
  where
    by : (b : Bool) → nat_lt low e.id ≡ true → ascend_above e.id (ids_of (without ids es)) ≡ true → ascend_above low (ids_of (without ids es)) ≡ true
        → ascend_above low (ids_of (cond b (e ∷ without ids es) (without ids es))) ≡ true
    by true first rest lower = and_from (nat_lt low e.id) (ascend_above e.id (ids_of (without ids es))) first rest
    by false first rest lower = lower

-- uses don't change ids
used-id : (tick : ℕ) (ids : List ℕ) (e : PlainEntry) → (used tick ids e).id ≡ e.id
used-id tick ids e = by (is_among ids e.id)
  where
    by : (b : Bool) → (cond b (with_use tick e) e).id ≡ e.id
    by true = refl
    by false = refl

ids-used : (tick : ℕ) (ids : List ℕ) (es : List PlainEntry) → ids_of (with_uses tick ids es) ≡ ids_of es
ids-used tick ids [] = refl
ids-used tick ids (e ∷ es) = λ i. used-id tick ids e i ∷ ids-used tick ids es i

-- new ids behind those that are below them
ascend-behind : (low n : ℕ) (xs ys : List ℕ) → ascend_above low xs ≡ true → list_all (λ x. nat_lt x n) xs ≡ true → low < n → ((l : ℕ) → l < n → ascend_above l ys ≡ true)
    → ascend_above low (xs ++ ys) ≡ true
ascend-behind low n [] ys up below less behind = behind low less
ascend-behind low n (x ∷ xs) ys up below less behind =
    let parts = and_parts (nat_lt low x) (ascend_above x xs) up in
    let lows = and_parts (nat_lt x n) (list_all (λ y. nat_lt y n) xs) below in
    and_from (nat_lt low x) (ascend_above x (xs ++ ys)) parts.0 (ascend-behind x n xs ys parts.1 lows.1 (ltb-true x n lows.0) behind)

ascend-keyed : (tick id : ℕ) (keys : List Keys) (news : List PlainNewEntry) (low : ℕ) → low < id → ascend_above low (ids_of (keyed_entries tick id keys news)) ≡ true
ascend-keyed tick id [] news low less = refl
ascend-keyed tick id (k ∷ keys) [] low less = refl
ascend-keyed tick id (k ∷ keys) (new ∷ news) low less =
    and_from (nat_lt low id) (ascend_above id (ids_of (keyed_entries tick (id + 1) keys news))) (lt-ltb low id less) (ascend-keyed tick (id + 1) keys news id (omega arith))

-- ---- ids below the next one

abbrev are_below : ℕ → List ℕ → Bool
are_below n ids = list_all (λ id. nat_lt id n) ids

below-more : (n m : ℕ) (ids : List ℕ) → n ≤ m → are_below n ids ≡ true → are_below m ids ≡ true
below-more n m [] most all = refl
below-more n m (id ∷ ids) most all =
    let parts = and_parts (nat_lt id n) (are_below n ids) all in
    let less = ltb-true id n parts.0 in
    and_from (nat_lt id m) (are_below m ids) (lt-ltb id m (omega (arith, most, less))) (below-more n m ids most parts.1)

below-without : (n : ℕ) (ids : List ℕ) (es : List PlainEntry) → are_below n (ids_of es) ≡ true → are_below n (ids_of (without ids es)) ≡ true
below-without n ids [] all = refl
below-without n ids (e ∷ es) all =
    let parts = and_parts (nat_lt e.id n) (are_below n (ids_of es)) all in
    by (not (is_among ids e.id)) parts.0 (below-without n ids es parts.1)
  where
    by : (b : Bool) → nat_lt e.id n ≡ true → are_below n (ids_of (without ids es)) ≡ true → are_below n (ids_of (cond b (e ∷ without ids es) (without ids es))) ≡ true
    by true first rest = and_from (nat_lt e.id n) (are_below n (ids_of (without ids es))) first rest
    by false first rest = rest

below-behind : (n : ℕ) (xs ys : List ℕ) → are_below n xs ≡ true → are_below n ys ≡ true → are_below n (xs ++ ys) ≡ true
below-behind n [] ys front behind = behind
below-behind n (x ∷ xs) ys front behind =
    let parts = and_parts (nat_lt x n) (are_below n xs) front in
    and_from (nat_lt x n) (are_below n (xs ++ ys)) parts.0 (below-behind n xs ys parts.1 behind)

below-keyed : (tick id n : ℕ) (keys : List Keys) (news : List PlainNewEntry) → id + length news ≤ n → are_below n (ids_of (keyed_entries tick id keys news)) ≡ true
below-keyed tick id n [] news most = refl
below-keyed tick id n (k ∷ keys) [] most = refl
below-keyed tick id n (k ∷ keys) (new ∷ news) most =
    and_from (nat_lt id n) (are_below n (ids_of (keyed_entries tick (id + 1) keys news))) (lt-ltb id n (omega (arith, most))) (below-keyed tick (id + 1) n keys news (omega (arith, most)))

ids-append : (xs ys : List PlainEntry) → ids_of (xs ++ ys) ≡ ids_of xs ++ ids_of ys
ids-append [] ys = refl
ids-append (x ∷ xs) ys = ap (λ (ids : List ℕ). x.id ∷ ids) (ids-append xs ys)

-- ---- entries one by one

pub all-both : {A : Type 0} (P Q : A → Type 0) (xs : List A) → AllByRecursion P xs → AllByRecursion Q xs → AllByRecursion (λ x. P x × Q x) xs
all-both P Q [] all others = tt
all-both P Q (x ∷ xs) all others = ((all.0, others.0), all-both P Q xs all.1 others.1)

pub all-append : (P : PlainEntry → Type 0) (xs ys : List PlainEntry) → AllByRecursion P xs → AllByRecursion P ys → AllByRecursion P (xs ++ ys)
all-append P [] ys front behind = behind
all-append P (x ∷ xs) ys front behind = (front.0, all-append P xs ys front.1 behind)

pub all-without : (P : PlainEntry → Type 0) (ids : List ℕ) (es : List PlainEntry) → AllByRecursion P es → AllByRecursion P (without ids es)
all-without P ids [] all = tt
all-without P ids (e ∷ es) all = by (not (is_among ids e.id)) (all-without P ids es all.1)
  where
    by : (b : Bool) → AllByRecursion P (without ids es) → AllByRecursion P (cond b (e ∷ without ids es) (without ids es))
    by true rest = (all.0, rest)
    by false rest = rest

-- what a use keeps of each entry
pub all-used : (P Q : PlainEntry → Type 0) (tick : ℕ) (ids : List ℕ) → ((e : PlainEntry) → P e → Q e × Q (with_use tick e)) → (es : List PlainEntry) → AllByRecursion P es → AllByRecursion Q (with_uses tick ids es)
all-used P Q tick ids f [] all = tt
all-used P Q tick ids f (e ∷ es) all = (by (is_among ids e.id), all-used P Q tick ids f es all.1)
  where
    by : (b : Bool) → Q (cond b (with_use tick e) e)
    by true = (f e all.0).1
    by false = (f e all.0).0

-- what new results bring
pub all-keyed : (P : PlainNewEntry → Type 0) (Q : PlainEntry → Type 0) (tick : ℕ) → ((id : ℕ) (k : Keys) (new : PlainNewEntry) → P new → Q (new_entry tick id k new)) → (id : ℕ) (keys : List Keys) (news : List PlainNewEntry)
    → AllByRecursion P news → AllByRecursion Q (keyed_entries tick id keys news)
all-keyed P Q tick f id [] news all = tt
all-keyed P Q tick f id (k ∷ keys) [] all = tt
all-keyed P Q tick f id (k ∷ keys) (new ∷ news) all = (f id k new all.0, all-keyed P Q tick f (id + 1) keys news all.1)

entry-used : (tick : ℕ) (e : PlainEntry) → IsEntry e → IsEntry e × IsEntry (with_use tick e)
entry-used tick e is = (
  is,
  record {
    used = omega (arith, is.used);
    counted = omega (arith, is.counted);
    machine = is.machine;
    short = is.short;
    plan = is.plan;
  },
)

entry-new : (tick id : ℕ) (k : Keys) (new : PlainNewEntry) → IsResult new × IsShort new → IsEntry (new_entry tick id k new)
entry-new tick id k new is = record { used = omega arith; counted = omega arith; machine = is.0.1; short = is.0.0; plan = is.1 }

-- ---- entries that are alike

differ-without : (ids : List ℕ) (es : List PlainEntry) → NoTwoAreAlike es → NoTwoAreAlike (without ids es)
differ-without ids [] differ = tt
differ-without ids (e ∷ es) differ = by (not (is_among ids e.id)) (differ-without ids es differ.1)
  where
    by : (b : Bool) → NoTwoAreAlike (without ids es) → NoTwoAreAlike (cond b (e ∷ without ids es) (without ids es))
    by true rest = (all-without (λ other. ¬ (AreAlike e other)) ids es differ.0, rest)
    by false rest = rest

-- a use doesn't change whether two are alike
unlike-used : (tick : ℕ) (ids : List ℕ) (e : PlainEntry) (xs : List PlainEntry) → AllByRecursion (λ other. ¬ (AreAlike e other)) xs → AllByRecursion (λ other. ¬ (AreAlike (used tick ids e) other)) xs
unlike-used tick ids e xs all = by (is_among ids e.id)
  where
    by : (b : Bool) → AllByRecursion (λ other. ¬ (AreAlike (cond b (with_use tick e) e) other)) xs
    by true = all
    by false = all

differ-used : (tick : ℕ) (ids : List ℕ) (es : List PlainEntry) → NoTwoAreAlike es → NoTwoAreAlike (with_uses tick ids es)
differ-used tick ids [] differ = tt
differ-used tick ids (e ∷ es) differ =
    (unlike-used tick ids e (with_uses tick ids es) (all-used (λ other. ¬ (AreAlike e other)) (λ other. ¬ (AreAlike e other)) tick ids (λ other un. (un, un)) es differ.0), differ-used tick ids es differ.1)

differ-keyed : (tick id : ℕ) (keys : List Keys) (news : List PlainNewEntry) → Differ news → NoTwoAreAlike (keyed_entries tick id keys news)
differ-keyed tick id [] news differ = tt
differ-keyed tick id (k ∷ keys) [] differ = tt
differ-keyed tick id (k ∷ keys) (new ∷ news) differ =
    (all-keyed (λ other. ¬ (IsOf new.plan new.cuts other)) (λ other. ¬ (AreAlike (new_entry tick id k new) other)) tick (λ _ _ other un. un) (id + 1) keys news differ.0, differ-keyed tick (id + 1) keys news differ.1)

differ-append : (xs ys : List PlainEntry) → NoTwoAreAlike xs → NoTwoAreAlike ys → AllByRecursion (λ x. AllByRecursion (λ other. ¬ (AreAlike x other)) ys) xs → NoTwoAreAlike (xs ++ ys)
differ-append [] ys front behind across = behind
differ-append (x ∷ xs) ys front behind across = (all-append (λ other. ¬ (AreAlike x other)) xs ys front.0 across.0, differ-append xs ys front.1 behind across.1)

-- no entry that stays is alike a new one
across : (tick id : ℕ) (reads dropped : List ℕ) (keys : List Keys) (news : List PlainNewEntry) (es : List PlainEntry) → AllByRecursion (IsNewTo es dropped) news
    → AllByRecursion (λ x. AllByRecursion (λ other. ¬ (AreAlike x other)) (keyed_entries tick id keys news)) (with_uses tick reads (without dropped es))
across tick id reads dropped keys news [] new = tt
across tick id reads dropped keys news (e ∷ es) new =
    by (not (is_among dropped e.id)) (all-map (IsNewTo (e ∷ es) dropped) (λ n. IsTrue (not (is_among dropped e.id)) → ¬ (IsOf e.plan e.cuts n)) (λ n all. all.0) news new)
    (across tick id reads dropped keys news es (all-map (IsNewTo (e ∷ es) dropped) (IsNewTo es dropped) (λ n all. all.1) news new))
  where
    by : (b : Bool) → AllByRecursion (λ n. IsTrue b → ¬ (IsOf e.plan e.cuts n)) news
        → AllByRecursion (λ x. AllByRecursion (λ other. ¬ (AreAlike x other)) (keyed_entries tick id keys news)) (with_uses tick reads (without dropped es))
        → AllByRecursion (λ x. AllByRecursion (λ other. ¬ (AreAlike x other)) (keyed_entries tick id keys news)) (with_uses tick reads (cond b (e ∷ without dropped es) (without dropped es)))
    by true heads rest =
        (unlike-used tick reads e (keyed_entries tick id keys news) (all-keyed (λ n. IsTrue true → ¬ (IsOf e.plan e.cuts n)) (λ other. ¬ (AreAlike e other)) tick (λ _ _ n un. un refl) id keys news heads), rest)
    by false heads rest = rest

-- ---- work and collections

pub collection-keeps : (ids : List ℕ) (k : Kept) → AreKept k → AreKept (record { next_id = k.next_id; entries = without ids k.entries })
collection-keeps ids k is = record {
  first = is.first;
  ascend = ascend-without ids 0 k.entries is.ascend;
  below = below-without k.next_id ids k.entries is.below;
  few = let less = without-within ids k.entries in omega (arith, less, is.few);
  are_entries = all-without IsEntry ids k.entries is.are_entries;
  differ = differ-without ids k.entries is.differ;
}

-- these are the entries after work, with keys that are known
abbrev pub worked : ℕ → List ℕ → List ℕ → List Keys → List PlainNewEntry → Kept → Kept
worked tick reads dropped keys news k = record {
  next_id = k.next_id + length news;
  entries = with_uses tick reads (without dropped k.entries) ++ keyed_entries tick k.next_id keys news;
}

pub work-keeps : (tick : ℕ) (reads dropped : List ℕ) (keys : List Keys) (news : List PlainNewEntry) (k : Kept) → length keys ≡ length news
    → AreNew k.entries dropped news → AllByRecursion IsShort news → AreKept k → AreKept (worked tick reads dropped keys news k)
work-keeps tick reads dropped keys news k many new short is =
    let stay = with_uses tick reads (without dropped k.entries) in
    let come = keyed_entries tick k.next_id keys news in
    let same = ids-used tick reads (without dropped k.entries) in
    let all : ids_of (stay ++ come) ≡ ids_of (without dropped k.entries) ++ ids_of come = ids-append stay come ∙ ap (λ (ids : List ℕ). ids ++ ids_of come) same in
    record {
      first = omega (arith, is.first);
      ascend = ap (ascend_above 0) all ∙ ascend-behind 0 k.next_id (ids_of (without dropped k.entries)) (ids_of come) (ascend-without dropped 0 k.entries is.ascend) (below-without k.next_id dropped k.entries is.below) is.first
          (λ l less. ascend-keyed tick k.next_id keys news l less);
      below = ap (are_below (k.next_id + length news)) all ∙ below-behind (k.next_id + length news) (ids_of (without dropped k.entries)) (ids_of come)
          (below-more k.next_id (k.next_id + length news) (ids_of (without dropped k.entries)) (omega arith) (below-without k.next_id dropped k.entries is.below))
          (below-keyed tick k.next_id (k.next_id + length news) keys news (omega arith));
      few =
          let long = length-append stay come in
          let stays = uses-length tick reads (without dropped k.entries) in
          let comes = keyed-length tick k.next_id keys news many in
          omega (arith, long, stays, comes, new.few);
      are_entries = all-append IsEntry stay come
          (all-used IsEntry IsEntry tick reads (λ e it. entry-used tick e it) (without dropped k.entries) (all-without IsEntry dropped k.entries is.are_entries))
          (all-keyed (λ n. IsResult n × IsShort n) IsEntry tick (λ id ks n it. entry-new tick id ks n it) k.next_id keys news (all-both IsResult IsShort news new.results short));
      differ = differ-append stay come (differ-used tick reads (without dropped k.entries) (differ-without dropped k.entries is.differ)) (differ-keyed tick k.next_id keys news new.differ)
          (across tick k.next_id reads dropped keys news k.entries new.new);
    }

pub now-worked : (tick : ℕ) (reads dropped : List ℕ) (keys : List Keys) (news : List PlainNewEntry) (k : Kept) (count : ℕ) (es : List PlainEntry) → count ≡ length news
    → es ≡ with_uses tick reads (without dropped k.entries) ++ keyed_entries tick k.next_id keys news
    → (let state : Kept = record { next_id = k.next_id + count; entries = es } in state ≡ worked tick reads dropped keys news k)
now-worked tick reads dropped keys news k count es n e = λ i. record { next_id = k.next_id + n i; entries = e i }

-- with the keys that the new results have
pub worked-is : (digests : Digests) (tick : ℕ) (reads dropped : List ℕ) (keys : List Keys) (news : List PlainNewEntry) (k : Kept) → keys ≡ map (keys_of digests) news
    → worked tick reads dropped keys news k ≡ after_work digests tick reads dropped news k
worked-is digests tick reads dropped keys news k has =
    let come : keyed_entries tick k.next_id keys news ≡ new_entries digests tick k.next_id news =
    ap (λ (ks : List Keys). keyed_entries tick k.next_id ks news) has ∙ keyed-are digests tick k.next_id news in
    λ i. record { next_id = k.next_id + length news; entries = with_uses tick reads (without dropped k.entries) ++ come i }
