-- What look-ups answer among the entries with these ids, where one id more is asked.
use Rattle.std.proofs.Common.{◌≡◌, ◌-◌, ◌<◌, ◌≤◌, ◌==◌, subst, ℕ, List, [], ◌∷◌, length, get_or, take, drop, Option, None, Some, IfSome, arith}
use Rattle.std.specs.List.{find}
use Rattle.std.proofs.lemmas.List.{take_all}
use Rattle.plan_core.specs.PlainPlan.{PlainPlan}
use Rattle.estimator.specs.Cuts.{Cuts}
use Rattle.catalog_types.specs.PlainEntry.{PlainEntry}
use Rattle.rewrite_core.specs.declared.rewriting.Hit.{Hit}
use Rattle.rewrite_core.specs.Entries.{entry_of, IsWhole, IsEarlier, AnswersWhole}
use Rattle.rewrite_core.specs.Looking.{IsFurther, IsBestOf}
use Rattle.rewrite_core.proofs.Looking.{no_whole}
use Rattle.cache_index.specs.Asked.{entry, asked, IsWholeAt, IsEarlierAt}
use Rattle.cache_index.specs.Ids.{listed}
use Rattle.cache_index.proofs.Answering.{whole_front, whole_past_front, best_front, best_past_front}

module _ (without : List ℕ) (plan : PlainPlan) (cuts : Cuts) (es : List PlainEntry) where
  pub whole_listed : (ids : List ℕ) (first : ℕ) (e : PlainEntry) (hit : Hit) → 1 ≤ length ids → first ≡ get_or ids 0 0 → find (λ (x : PlainEntry). x.id == first) es ≡ Some e → IsWholeAt without plan cuts e → entry_of e.plan hit ≡ entry e
      → IsWhole (asked without (listed ids es)) plan cuts hit
  whole_listed [] first e hit some is found at same = absurd (omega (arith, some))
  whole_listed (id ∷ ids) first e hit some is found at same =
      whole_front without plan cuts (find (λ (x : PlainEntry). x.id == id) es) (listed ids es) e hit (subst (λ (n : ℕ). find (λ (x : PlainEntry). x.id == n) es ≡ Some e) is found) at same

  pub whole_past_listed : (ids : List ℕ) (first n : ℕ) (found : Option Hit) → 1 ≤ length ids → first ≡ get_or ids 0 0 → n ≡ length ids - 1 → IfSome (find (λ (x : PlainEntry). x.id == first) es) (λ e. ¬ (IsWholeAt without plan cuts e))
      → AnswersWhole (asked without (listed (take n (drop 1 ids)) es)) plan cuts found → AnswersWhole (asked without (listed ids es)) plan cuts found
  whole_past_listed [] first n found some is many not_at answers = absurd (omega (arith, some))
  whole_past_listed (id ∷ ids) first n found some is many not_at answers =
      whole_past_front without plan cuts (find (λ (x : PlainEntry). x.id == id) es) (listed ids es) found
      (subst (λ (n : ℕ). IfSome (find (λ (x : PlainEntry). x.id == n) es) (λ e. ¬ (IsWholeAt without plan cuts e))) is not_at)
      (subst (λ (l : List ℕ). AnswersWhole (asked without (listed l es)) plan cuts found) (take_all n ids (omega (arith, many))) answers)

  pub none_listed : (ids : List ℕ) → length ids < 1 → AnswersWhole (asked without (listed ids es)) plan cuts None
  none_listed [] few = no_whole plan cuts
  none_listed (id ∷ ids) few = absurd (omega (arith, few))

  pub best_listed : (ids : List ℕ) (first n : ℕ) (e : PlainEntry) (best : Option Hit) (hit : Hit) → 1 ≤ length ids → first ≡ get_or ids 0 0 → n ≡ length ids - 1 → find (λ (x : PlainEntry). x.id == first) es ≡ Some e
      → IsEarlierAt without plan cuts e → IsFurther (entry e) best → entry_of e.plan hit ≡ entry e → IsBestOf (asked without (listed (take n (drop 1 ids)) es)) plan cuts best → IsEarlier (asked without (listed ids es)) plan cuts hit
  best_listed [] first n e best hit some is many found comes further same of = absurd (omega (arith, some))
  best_listed (id ∷ ids) first n e best hit some is many found comes further same of =
      best_front without plan cuts (find (λ (x : PlainEntry). x.id == id) es) (listed ids es) e best hit (subst (λ (n : ℕ). find (λ (x : PlainEntry). x.id == n) es ≡ Some e) is found) comes further same
      (subst (λ (l : List ℕ). IsBestOf (asked without (listed l es)) plan cuts best) (take_all n ids (omega (arith, many))) of)

  pub best_past_listed : (ids : List ℕ) (first n : ℕ) (best : Option Hit) → 1 ≤ length ids → first ≡ get_or ids 0 0 → n ≡ length ids - 1
      → IfSome (find (λ (x : PlainEntry). x.id == first) es) (λ e. IsEarlierAt without plan cuts e → ¬ (IsFurther (entry e) best)) → IsBestOf (asked without (listed (take n (drop 1 ids)) es)) plan cuts best
      → IsBestOf (asked without (listed ids es)) plan cuts best
  best_past_listed [] first n best some is many not_both of = absurd (omega (arith, some))
  best_past_listed (id ∷ ids) first n best some is many not_both of =
      best_past_front without plan cuts (find (λ (x : PlainEntry). x.id == id) es) (listed ids es) best
      (subst (λ (n : ℕ). IfSome (find (λ (x : PlainEntry). x.id == n) es) (λ e. IsEarlierAt without plan cuts e → ¬ (IsFurther (entry e) best))) is not_both)
      (subst (λ (l : List ℕ). IsBestOf (asked without (listed l es)) plan cuts best) (take_all n ids (omega (arith, many))) of)
