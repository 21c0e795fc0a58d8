-- When a longer list of results is sound, and what look-ups in it answer.
use Rattle.std.proofs.Common.{◌≡◌, ◌≢◌, ◌⊎◌, inl, inr, true, false, rules, ℕ, zero, suc, ◌<◌, ◌≤◌, List, [], ◌∷◌, length, get_or, take, drop, ◌-◌, Option, Some, None, refl, sym, ap, ◌∙◌, subst, arith}
use Rattle.std.specs.Bool.{IsTrue}
use Rattle.std.specs.List.{Contains}
use Rattle.plan_core.specs.PlainPlan.{PlainPlan, leaf_count}
use Rattle.estimator.specs.Cuts.{Cuts, AreIntervals, AreAtOrBefore, reach}
use Rattle.rewrite_core.specs.declared.rewriting.Hit.{Hit}
use Rattle.rewrite_core.specs.Entries.{Entry, Entries, entry_of, AreSound, IsWhole, IsBefore, IsEarlier, IsChosenOver, AnswersWhole, AnswersEarlier}
use Rattle.std.proofs.lemmas.Bool.{cases_lt}
use Rattle.std.proofs.lemmas.List.{take_all}
use Rattle.rewrite_core.specs.Looking.{IsAt, ComesBefore, IsFurther, IsBestOf}
use Rattle.rewrite_core.proofs.Looking.{Contains-cons_cases, Contains-none, whole_behind, best_first, best_behind}
use Rattle.postfix_plans.specs.declared.results.ListedResult.{ListedResult}
use Rattle.postfix_plans.specs.Listed.{entry, entries_of}
use Rattle.postfix_plans.specs.Soundness.{IsApart, AreApart, IsOfLeaves}

-- ---- sound lists

pub none_sound : AreSound []
none_sound = record {
  ids = λ e f has. absurd (Contains-none e has);
  places = λ e f has. absurd (Contains-none e has);
  intervals = λ e has. absurd (Contains-none e has);
  leaves = λ e has. absurd (Contains-none e has);
}

apart_from : (first : Entry) (others : Entries) → AreApart first others → (e : Entry) → Contains others e → IsApart first e
apart_from first [] apart e has = absurd (Contains-none e has)
apart_from first (other ∷ others) apart e has = elim (Contains-cons_cases other others e has) [
  | inl is ↦ subst (IsApart first) is apart.0
  | inr behind ↦ apart_from first others apart.1 e behind
]

pub sound_more : (first : Entry) (others : Entries) → IsOfLeaves first → AreSound others → AreApart first others → AreSound (first ∷ others)
sound_more first others formed sound apart = record {
  ids = λ e f has also same. elim (Contains-cons_cases first others e has) [
    | inl is ↦ elim (Contains-cons_cases first others f also) [
      | inl too ↦ sym is ∙ too
      | inr behind ↦ absurd ((apart_from first others apart f behind).0 (ap (λ x. x.id) is ∙ same))
    ]
    | inr there ↦ elim (Contains-cons_cases first others f also) [
      | inl too ↦ absurd ((apart_from first others apart e there).0 (ap (λ x. x.id) too ∙ sym same))
      | inr behind ↦ sound.ids e f there behind same
    ]
  ];
  places = λ e f has also same cut. elim (Contains-cons_cases first others e has) [
    | inl is ↦ elim (Contains-cons_cases first others f also) [
      | inl too ↦ sym is ∙ too
      | inr behind ↦ absurd ((apart_from first others apart f behind).1 (ap (λ x. x.plan) is ∙ same, ap (λ x. x.cuts) is ∙ cut))
    ]
    | inr there ↦ elim (Contains-cons_cases first others f also) [
      | inl too ↦ absurd ((apart_from first others apart e there).1 (ap (λ x. x.plan) too ∙ sym same, ap (λ x. x.cuts) too ∙ sym cut))
      | inr behind ↦ sound.places e f there behind same cut
    ]
  ];
  intervals = λ e has. elim (Contains-cons_cases first others e has) [
    | inl is ↦ subst (λ x. AreIntervals x.cuts) is formed.1
    | inr behind ↦ sound.intervals e behind
  ];
  leaves = λ e has. elim (Contains-cons_cases first others e has) [
    | inl is ↦ subst (λ x. length x.cuts ≡ leaf_count x.plan) is formed.0
    | inr behind ↦ sound.leaves e behind
  ];
}

-- ---- the same of the results themselves

-- the results behind the first one, as a slice
abbrev pub behind : List ListedResult → List ListedResult
behind results = take (length results - 1) (drop 1 results)

behind_is : (r : ListedResult) (rs : List ListedResult) → behind (r ∷ rs) ≡ rs
behind_is r rs = take_all (length (r ∷ rs) - 1) rs (omega arith)

pub whole_among : (results : List ListedResult) (first : ListedResult) (plan : PlainPlan) (cuts : Cuts) (found : Option Hit) → 1 ≤ length results → first ≡ get_or results 0 first
    → (IsAt (entry first) plan cuts → ⊥) → AnswersWhole (entries_of (behind results)) plan cuts found → AnswersWhole (entries_of results) plan cuts found
whole_among [] first plan cuts found some is not_at answers = absurd (omega arith)
whole_among (r ∷ rs) first plan cuts found some is not_at answers =
    whole_behind (entry r) (entries_of rs) plan cuts found (λ at. not_at (subst (λ x. IsAt (entry x) plan cuts) (sym is) at)) (subst (λ x. AnswersWhole (entries_of x) plan cuts found) (behind_is r rs) answers)

pub first_best : (results : List ListedResult) (first : ListedResult) (plan : PlainPlan) (cuts : Cuts) (best : Option Hit) (hit : Hit) → 1 ≤ length results → first ≡ get_or results 0 first
    → ComesBefore (entry first) plan cuts → IsFurther (entry first) best → entry_of (entry first).plan hit ≡ entry first → IsBestOf (entries_of (behind results)) plan cuts best → IsEarlier (entries_of results) plan cuts hit
first_best [] first plan cuts best hit some is comes further same of = absurd (omega arith)
first_best (r ∷ rs) first plan cuts best hit some is comes further same of =
    subst (λ x. IsEarlier (entry x ∷ entries_of rs) plan cuts hit) is (best_first (entry first) (entries_of rs) plan cuts best hit comes further same (subst (λ x. IsBestOf (entries_of x) plan cuts best) (behind_is r rs) of))

pub best_among : (results : List ListedResult) (first : ListedResult) (plan : PlainPlan) (cuts : Cuts) (best : Option Hit) → 1 ≤ length results → first ≡ get_or results 0 first
    → (ComesBefore (entry first) plan cuts → IsFurther (entry first) best → ⊥) → IsBestOf (entries_of (behind results)) plan cuts best → IsBestOf (entries_of results) plan cuts best
best_among [] first plan cuts best some is not_both of = absurd (omega arith)
best_among (r ∷ rs) first plan cuts best some is not_both of =
    subst (λ x. IsBestOf (entry x ∷ entries_of rs) plan cuts best) is (best_behind (entry first) (entries_of rs) plan cuts best not_both (subst (λ x. IsBestOf (entries_of x) plan cuts best) (behind_is r rs) of))

pub all_sound : (results : List ListedResult) (first : ListedResult) → 1 ≤ length results → first ≡ get_or results 0 first → IsOfLeaves (entry first) → AreSound (entries_of (behind results))
    → AreApart (entry first) (entries_of (behind results)) → AreSound (entries_of results)
all_sound [] first some is formed sound apart = absurd (omega arith)
all_sound (r ∷ rs) first some is formed sound apart = subst (λ x. AreSound (entry x ∷ entries_of rs)) is (sound_more (entry first) (entries_of rs) formed (subst (λ x. AreSound (entries_of x)) (behind_is r rs) sound) (subst (λ x. AreApart (entry first) (entries_of x)) (behind_is r rs) apart))
