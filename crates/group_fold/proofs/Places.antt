-- Lists that are changed place by place.
use Rattle.std.proofs.Common.{◌≡◌, refl, sym, ap, ◌∙◌, subst, suc, ℕ, ◌+◌, ◌<◌, List, [], ◌∷◌, ◌++◌, length, take, drop, set, get_or, append_assoc, arith}
use Rattle.std.proofs.lemmas.List.{take_more_set, take-set, drop-set-lt, drop_more}
use Rattle.std.proofs.lemmas.List.{length-set}
use Rattle.row_blob.specs.declared.kept.Acc.{Acc}
use Rattle.row_blob.specs.Kept.{AreEach}
use Rattle.plan_core.specs.declared.agg.Agg.{Agg}
use Rattle.plan_laws.specs.GrowthOfGroups.{joined_acc, joined_accs}

module _ {K A : Type 0} (P : K → A → Type 0) where
  pub each_length : (ks : List K) (xs : List A) → AreEach P ks xs → length xs ≡ length ks
  each_length [] [] each = refl
  each_length [] (x ∷ xs) each = absurd each
  each_length (k ∷ ks) [] each = absurd each
  each_length (k ∷ ks) (x ∷ xs) each = ap suc (each_length ks xs each.1)

  -- the ones at a place, and those behind it
  each_from : (ks : List K) (xs : List A) (i : ℕ) (k : K) (x : A) → i < length ks → i < length xs → AreEach P (drop i ks) (drop i xs) → AreEach P (get_or ks i k ∷ drop (i + 1) ks) (get_or xs i x ∷ drop (i + 1) xs)
  each_from ks xs i k x within inside each =
      subst (λ (l : List A). AreEach P (get_or ks i k ∷ drop (i + 1) ks) l) (drop_more xs i x inside) (subst (λ (l : List K). AreEach P l (drop i xs)) (drop_more ks i k within) each)

  pub each_at : (ks : List K) (xs : List A) (i : ℕ) (k : K) (x : A) → i < length ks → i < length xs → AreEach P (drop i ks) (drop i xs) → P (get_or ks i k) (get_or xs i x)
  each_at ks xs i k x within inside each = (each_from ks xs i k x within inside each).0

  pub each_behind : (ks : List K) (xs : List A) (i : ℕ) (k : K) (x : A) → i < length ks → i < length xs → AreEach P (drop i ks) (drop i xs) → AreEach P (drop (i + 1) ks) (drop (i + 1) xs)
  each_behind ks xs i k x within inside each = (each_from ks xs i k x within inside each).1

-- a place that is written twice
pub written_twice : {A : Type 0} (xs : List A) (i : ℕ) (p x : A) → i < length xs → take (i + 1) (set (set xs i p) i x) ≡ take i xs ++ x ∷ []
written_twice xs i p x inside =
    let long = length-set xs i p in
    let still : i < length (set xs i p) = omega (arith, long, inside) in
    take_more_set (set xs i p) i x still ∙ ap (λ l. l ++ x ∷ []) (take-set xs i p)

pub behind_written : {A : Type 0} (xs : List A) (i : ℕ) (p x : A) → drop (i + 1) (set (set xs i p) i x) ≡ drop (i + 1) xs
behind_written xs i p x = let below : i < i + 1 = omega arith in drop-set-lt (i + 1) (set xs i p) i x below ∙ drop-set-lt (i + 1) xs i p below

pub joined_at : (aggs : List Agg) (olds news : List Acc) (i : ℕ) (a : Agg) (old new : Acc) → i < length aggs → i < length olds → i < length news
    → joined_accs (drop i aggs) (drop i olds) (drop i news) ≡ joined_acc (get_or aggs i a) (get_or olds i old) (get_or news i new) ∷ joined_accs (drop (i + 1) aggs) (drop (i + 1) olds) (drop (i + 1) news)
joined_at aggs olds news i a old new within inside within_new =
    ap (λ l. joined_accs l (drop i olds) (drop i news)) (drop_more aggs i a within)
    ∙ ap (λ l. joined_accs (get_or aggs i a ∷ drop (i + 1) aggs) l (drop i news)) (drop_more olds i old inside)
    ∙ ap (joined_accs (get_or aggs i a ∷ drop (i + 1) aggs) (get_or olds i old ∷ drop (i + 1) olds)) (drop_more news i new within_new)

-- one place more is joined
pub joined_more : (aggs : List Agg) (olds news rest : List Acc) (i : ℕ) (a : Agg) (old new p x : Acc) → i < length aggs → i < length olds → i < length news
    → x ≡ joined_acc a old new → a ≡ get_or aggs i a → old ≡ get_or olds i old → new ≡ get_or news i new → rest ≡ drop (i + 1) news
    → take i olds ++ joined_accs (drop i aggs) (drop i olds) (drop i news)
    ≡ take (i + 1) (set (set olds i p) i x) ++ joined_accs (drop (i + 1) aggs) (drop (i + 1) (set (set olds i p) i x)) rest
joined_more aggs olds news rest i a old new p x within inside within_new is a_is old_is new_is behind =
    let same : x ≡ joined_acc (get_or aggs i a) (get_or olds i old) (get_or news i new) =
    is ∙ ap (λ b. joined_acc b old new) a_is ∙ ap (λ y. joined_acc (get_or aggs i a) y new) old_is ∙ ap (joined_acc (get_or aggs i a) (get_or olds i old)) new_is in
    ap (λ l. take i olds ++ l) (joined_at aggs olds news i a old new within inside within_new)
    ∙ sym (append_assoc (take i olds) (joined_acc (get_or aggs i a) (get_or olds i old) (get_or news i new) ∷ []) (joined_accs (drop (i + 1) aggs) (drop (i + 1) olds) (drop (i + 1) news)))
    ∙ ap (λ y. (take i olds ++ y ∷ []) ++ joined_accs (drop (i + 1) aggs) (drop (i + 1) olds) (drop (i + 1) news)) (sym same)
    ∙ ap (λ l. l ++ joined_accs (drop (i + 1) aggs) (drop (i + 1) olds) (drop (i + 1) news)) (sym (written_twice olds i p x inside))
    ∙ ap (λ l. take (i + 1) (set (set olds i p) i x) ++ joined_accs (drop (i + 1) aggs) l (drop (i + 1) news)) (sym (behind_written olds i p x))
    ∙ ap (λ l. take (i + 1) (set (set olds i p) i x) ++ joined_accs (drop (i + 1) aggs) (drop (i + 1) (set (set olds i p) i x)) l) (sym behind)

-- behind a place that is written twice each is as it was
pub rest_behind : {K A : Type 0} (P : K → A → Type 0) (ks : List K) (xs : List A) (i : ℕ) (k : K) (x p y : A) → i < length ks → i < length xs → AreEach P (drop i ks) (drop i xs)
    → AreEach P (drop (i + 1) ks) (drop (i + 1) (set (set xs i p) i y))
rest_behind P ks xs i k x p y within inside each =
    subst (AreEach P (drop (i + 1) ks)) (sym (behind_written xs i p y)) (each_behind P ks xs i k x within inside each)

pub rest_behind_once : {K A : Type 0} (P : K → A → Type 0) (ks : List K) (xs : List A) (i : ℕ) (k : K) (x p : A) → i < length ks → i < length xs → AreEach P (drop i ks) (drop i xs)
    → AreEach P (drop (i + 1) ks) (drop (i + 1) (set xs i p))
rest_behind_once P ks xs i k x p within inside each =
    let below : i < i + 1 = omega arith in
    subst (AreEach P (drop (i + 1) ks)) (sym (drop-set-lt (i + 1) xs i p below)) (each_behind P ks xs i k x within inside each)
