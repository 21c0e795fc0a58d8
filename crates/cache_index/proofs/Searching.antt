-- Entries that are found by their ids, and those that have a program key.
use Rattle.std.proofs.Common.{◌≡◌, refl, sym, ap, ◌∙◌, subst, ℕ, ◌<◌, ◌==◌, nat_lt, Bool, true, false, cond, List, [], ◌∷◌, map, Option, Some, None, inl, inr, arith}
use Rattle.std.specs.Bool.{IsTrue}
use Rattle.std.specs.List.{AllByRecursion, Contains, filter, find}
use Rattle.std.proofs.lemmas.Bool.{ltb-true, and_parts}
use Rattle.std.proofs.lemmas.Bool.Decides.{nat_tests}
use Rattle.rows_core.specs.declared.file_ref.Digest.{Digest}
use Rattle.plan_core.specs.PlainPlan.{PlainPlan}
use Rattle.estimator.specs.Cuts.{Cuts}
use Rattle.fingerprints.specs.Keys.{program_key}
use Rattle.catalog_types.specs.PlainEntry.{PlainEntry}
use Rattle.rewrite_core.specs.declared.rewriting.Hit.{Hit}
use Rattle.rewrite_core.specs.Entries.{Entry, Entries, AnswersWhole}
use Rattle.rewrite_core.specs.Looking.{IsBestOf}
use Rattle.rewrite_core.proofs.Looking.{Contains-first, Contains-behind, Contains-cons_cases}
use Rattle.cache_index.specs.Asked.{entry, is_asked, asked}
use Rattle.cache_index.specs.Ids.{ids_of, ascend_above, in_front, listed}
use Rattle.cache_index.specs.Index.{ids_of_program}
use Rattle.cache_index.specs.Lists.{same_digest}
use Rattle.cache_index.proofs.Digests.{same_digest-Decides}

pub all-map : {A : Type 0} (P Q : A → Type 0) → ((x : A) → P x → Q x) → (xs : List A) → AllByRecursion P xs → AllByRecursion Q xs
all-map P Q f [] all = tt
all-map P Q f (x ∷ xs) all = (f x all.0, all-map P Q f xs all.1)

all-both : {A : Type 0} (P Q R : A → Type 0) → ((x : A) → P x → Q x → R x) → (xs : List A) → AllByRecursion P xs → AllByRecursion Q xs → AllByRecursion R xs
all-both P Q R f [] all also = tt
all-both P Q R f (x ∷ xs) all also = (f x all.0 also.0, all-both P Q R f xs all.1 also.1)

all-filter : {A : Type 0} (P : A → Type 0) (test : A → Bool) (xs : List A) → AllByRecursion P xs → AllByRecursion P (filter test xs)
all-filter P test [] all = tt
all-filter P test (x ∷ xs) all = by (test x) (all-filter P test xs all.1)
  where
    by : (b : Bool) → AllByRecursion P (filter test xs) → AllByRecursion P (cond b (x ∷ filter test xs) (filter test xs))
    by true rest = (all.0, rest)
    by false rest = rest

-- ---- entries by their ids

above : (low : ℕ) (es : List PlainEntry) → ascend_above low (ids_of es) ≡ true → AllByRecursion (λ (e : PlainEntry). low < e.id) es
above low [] up = tt
above low (e ∷ es) up =
    let parts = and_parts (nat_lt low e.id) (ascend_above e.id (ids_of es)) up in
    let less : low < e.id = ltb-true low e.id parts.0 in
    (less, all-map (λ (x : PlainEntry). e.id < x.id) (λ (x : PlainEntry). low < x.id) (λ x more. omega (arith, less, more)) es (above e.id es parts.1))

other : (x y : ℕ) → x < y → (x == y) ≡ false
other x y less = grind (arith, nat_tests)

own : (x : ℕ) → (x == x) ≡ true
own x = grind (arith, nat_tests)

-- each is the first one with its id
found-own : (low : ℕ) (es : List PlainEntry) → ascend_above low (ids_of es) ≡ true → AllByRecursion (λ (x : PlainEntry). find (λ (e : PlainEntry). e.id == x.id) es ≡ Some x) es
found-own low [] up = tt
found-own low (e ∷ es) up =
    let parts = and_parts (nat_lt low e.id) (ascend_above e.id (ids_of es)) up in (
      ap (λ b. cond b (Some e) (find (λ (y : PlainEntry). y.id == e.id) es)) (own e.id),
      all-both (λ (x : PlainEntry). e.id < x.id) (λ (x : PlainEntry). find (λ (y : PlainEntry). y.id == x.id) es ≡ Some x) (λ (x : PlainEntry). find (λ (y : PlainEntry). y.id == x.id) (e ∷ es) ≡ Some x)
          (λ x more found. ap (λ b. cond b (Some e) (find (λ (y : PlainEntry). y.id == x.id) es)) (other e.id x.id more) ∙ found) es (above e.id es parts.1) (found-own e.id es parts.1),
    )

listed-own : (es xs : List PlainEntry) → AllByRecursion (λ (x : PlainEntry). find (λ (e : PlainEntry). e.id == x.id) es ≡ Some x) xs → listed (ids_of xs) es ≡ xs
listed-own es [] all = refl
listed-own es (x ∷ xs) all = ap (λ o. in_front o (listed (ids_of xs) es)) all.0 ∙ ap (λ (l : List PlainEntry). x ∷ l) (listed-own es xs all.1)

-- the ids under a program key list the entries that have it
listed-program : (es : List PlainEntry) (program : Digest) → ascend_above 0 (ids_of es) ≡ true → listed (ids_of_program es program) es ≡ filter (λ (e : PlainEntry). same_digest e.program program) es
listed-program es program up = listed-own es _ (all-filter (λ (x : PlainEntry). find (λ (e : PlainEntry). e.id == x.id) es ≡ Some x) (λ (e : PlainEntry). same_digest e.program program) es (found-own 0 es up))

-- ---- look-ups among those that pass a test, as each of the plan does

module _ (without : List ℕ) (plan : PlainPlan) (test : PlainEntry → Bool) where
  skip : (c : Bool) (e : PlainEntry) (es : List PlainEntry) (y : Entry) → Contains (asked without es) y → Contains (map entry (cond c (e ∷ filter (is_asked without) es) (filter (is_asked without) es))) y
  skip true e es y has = Contains-behind (entry e) (asked without es) y has
  skip false e es y has = has

  kept-in : (es : List PlainEntry) (y : Entry) → Contains (asked without (filter test es)) y → Contains (asked without es) y
  kept-in [] y has = has
  kept-in (e ∷ es) y has = by (test e) has (kept-in es y)
    where
      in-both : (c : Bool) → Contains (map entry (cond c (e ∷ filter (is_asked without) (filter test es)) (filter (is_asked without) (filter test es)))) y → (Contains (asked without (filter test es)) y → Contains (asked without es) y)
          → Contains (map entry (cond c (e ∷ filter (is_asked without) es) (filter (is_asked without) es))) y
      in-both true has rest = elim (Contains-cons_cases (entry e) (asked without (filter test es)) y has) [
        | inl first ↦ subst (λ (z : Entry). Contains (entry e ∷ asked without es) z) first (Contains-first (entry e) (asked without es))
        | inr more ↦ Contains-behind (entry e) (asked without es) y (rest more)
      ]
      in-both false has rest = rest has

      by : (b : Bool) → Contains (asked without (cond b (e ∷ filter test es) (filter test es))) y → (Contains (asked without (filter test es)) y → Contains (asked without es) y) → Contains (asked without (e ∷ es)) y
      by true has rest = in-both (is_asked without e) has rest
      by false has rest = skip (is_asked without e) e es y (rest has)

  kept-from : (es : List PlainEntry) (y : Entry) → AllByRecursion (λ (e : PlainEntry). e.plan ≡ plan → test e ≡ true) es → y.plan ≡ plan → Contains (asked without es) y → Contains (asked without (filter test es)) y
  kept-from [] y all is has = has
  kept-from (e ∷ es) y all is has = by (is_asked without e) refl has (kept-from es y all.1 is)
    where
      into : (b : Bool) → Contains (asked without (filter test es)) y → Contains (asked without (cond b (e ∷ filter test es) (filter test es))) y
      into true more = skip (is_asked without e) e (filter test es) y more
      into false more = more

      front : is_asked without e ≡ true → entry e ≡ y → Contains (asked without (filter test (e ∷ es))) y
      front told first =
          let passes = all.0 (ap (λ (z : Entry). z.plan) first ∙ is) in
          subst (λ b. Contains (asked without (cond b (e ∷ filter test es) (filter test es))) y) (sym passes)
          (subst (λ c. Contains (map entry (cond c (e ∷ filter (is_asked without) (filter test es)) (filter (is_asked without) (filter test es)))) y) (sym told)
          (subst (λ (z : Entry). Contains (entry e ∷ asked without (filter test es)) z) first (Contains-first (entry e) (asked without (filter test es)))))

      by : (c : Bool) → is_asked without e ≡ c → Contains (map entry (cond c (e ∷ filter (is_asked without) es) (filter (is_asked without) es))) y → (Contains (asked without es) y → Contains (asked without (filter test es)) y)
          → Contains (asked without (filter test (e ∷ es))) y
      by true told has rest = elim (Contains-cons_cases (entry e) (asked without es) y has) [
        | inl first ↦ front told first
        | inr more ↦ into (test e) (rest more)
      ]
      by false told has rest = into (test e) (rest has)

module _ (some all : Entries) (plan : PlainPlan) (cuts : Cuts) (into : (y : Entry) → Contains some y → Contains all y) (from : (y : Entry) → y.plan ≡ plan → Contains all y → Contains some y) where
  whole-same : (found : Option Hit) → AnswersWhole some plan cuts found → AnswersWhole all plan cuts found
  whole-same (Some hit) is = record { here = is.here; kept = into _ is.kept }
  whole-same None none = λ hit is. none hit (record { here = is.here; kept = from _ refl is.kept })

  best-same : (best : Option Hit) → IsBestOf some plan cuts best → IsBestOf all plan cuts best
  best-same (Some hit) is = record {
    candidate = record { kept = into _ is.candidate.kept; other = is.candidate.other; before = is.candidate.before };
    first = λ rival before. is.first rival (record { kept = from _ refl before.kept; other = before.other; before = before.before });
  }
  best-same None none = λ hit before. none hit (record { kept = from _ refl before.kept; other = before.other; before = before.before })

module _ (es : List PlainEntry) (program : Digest) (ids : List ℕ) (without : List ℕ) (plan : PlainPlan) (cuts : Cuts) (up : IsTrue (ascend_above 0 (ids_of es))) (keyed : AllByRecursion (λ (e : PlainEntry). e.program ≡ program_key e.plan) es)
    (key : program ≡ program_key plan) (are : ids ≡ ids_of_program es program) where
  list : listed ids es ≡ filter (λ (e : PlainEntry). same_digest e.program program) es
  list = ap (λ (l : List ℕ). listed l es) are ∙ listed-program es program up

  passes : AllByRecursion (λ (e : PlainEntry). e.plan ≡ plan → same_digest e.program program ≡ true) es
  passes = all-map (λ (e : PlainEntry). e.program ≡ program_key e.plan) (λ (e : PlainEntry). e.plan ≡ plan → same_digest e.program program ≡ true)
      (λ e own same. (same_digest-Decides e.program program).1 (own ∙ ap program_key same ∙ sym key)) es keyed

  -- what is told of the entries with these ids is so of all
  pub whole_of_all : (found : Option Hit) → AnswersWhole (asked without (listed ids es)) plan cuts found → AnswersWhole (asked without es) plan cuts found
  whole_of_all found answers =
      whole-same (asked without (filter (λ (e : PlainEntry). same_digest e.program program) es)) (asked without es) plan cuts
      (kept-in without plan (λ (e : PlainEntry). same_digest e.program program) es) (λ y is has. kept-from without plan (λ (e : PlainEntry). same_digest e.program program) es y passes is has) found
      (subst (λ (l : List PlainEntry). AnswersWhole (asked without l) plan cuts found) list answers)

  pub best_of_all : (best : Option Hit) → IsBestOf (asked without (listed ids es)) plan cuts best → IsBestOf (asked without es) plan cuts best
  best_of_all best of =
      best-same (asked without (filter (λ (e : PlainEntry). same_digest e.program program) es)) (asked without es) plan cuts
      (kept-in without plan (λ (e : PlainEntry). same_digest e.program program) es) (λ y is has. kept-from without plan (λ (e : PlainEntry). same_digest e.program program) es y passes is has) best
      (subst (λ (l : List PlainEntry). IsBestOf (asked without l) plan cuts best) list of)
