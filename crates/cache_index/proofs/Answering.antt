-- What look-ups answer where one entry more is asked or left out.
use Rattle.std.proofs.Common.{◌≡◌, ◌-◌, ◌≤◌, subst, Bool, true, false, cond, List, [], ◌∷◌, map, ℕ, sym, length, get_or, take, drop, Option, Some, None, IfSome, arith}
use Rattle.std.specs.Bool.{IsTrue}
use Rattle.std.specs.List.{filter}
use Rattle.std.proofs.lemmas.List.{take_all}
use Rattle.plan_core.specs.PlainPlan.{PlainPlan}
use Rattle.estimator.specs.Cuts.{Cuts}
use Rattle.catalog_types.specs.PlainEntry.{PlainEntry}
use Rattle.rewrite_core.specs.declared.rewriting.Hit.{Hit}
use Rattle.rewrite_core.specs.Entries.{entry_of, IsWhole, IsEarlier, AnswersWhole}
use Rattle.rewrite_core.specs.Looking.{IsAt, ComesBefore, IsFurther, IsBestOf}
use Rattle.rewrite_core.proofs.Looking.{whole_first, whole_behind, best_first, best_behind, never, holds}
use Rattle.cache_index.specs.Asked.{entry, is_asked, asked, IsWholeAt, IsEarlierAt}
use Rattle.cache_index.specs.Ids.{in_front}

-- the entries behind the first one, as a slice
abbrev pub behind : List PlainEntry → List PlainEntry
behind entries = take (length entries - 1) (drop 1 entries)

behind_is : (e : PlainEntry) (es : List PlainEntry) → behind (e ∷ es) ≡ es
behind_is e es = take_all (length (e ∷ es) - 1) es (omega arith)

module _ (without : List ℕ) (plan : PlainPlan) (cuts : Cuts) where
  whole_at : (b : Bool) (e : PlainEntry) (es : List PlainEntry) (hit : Hit) → IsTrue b → IsAt (entry e) plan cuts → entry_of e.plan hit ≡ entry e → IsWhole (map entry (cond b (e ∷ filter (is_asked without) es) (filter (is_asked without) es))) plan cuts hit
  whole_at true e es hit is at same = whole_first (entry e) (asked without es) plan cuts hit at same
  whole_at false e es hit is at same = absurd (never is)

  pub first_whole : (entries : List PlainEntry) (first : PlainEntry) (hit : Hit) → 1 ≤ length entries → first ≡ get_or entries 0 first → IsTrue (is_asked without first) × IsAt (entry first) plan cuts → entry_of first.plan hit ≡ entry first
      → IsWhole (asked without entries) plan cuts hit
  first_whole [] first hit some is at same = absurd (omega arith)
  first_whole (e ∷ es) first hit some is at same =
      subst (λ x. IsWhole (asked without (x ∷ es)) plan cuts hit) is (whole_at (is_asked without first) first es hit at.0 at.1 same)

  whole_past : (b : Bool) (e : PlainEntry) (es : List PlainEntry) (found : Option Hit) → (IsTrue b × IsAt (entry e) plan cuts → ⊥) → AnswersWhole (asked without es) plan cuts found
      → AnswersWhole (map entry (cond b (e ∷ filter (is_asked without) es) (filter (is_asked without) es))) plan cuts found
  whole_past true e es found not_at answers = whole_behind (entry e) (asked without es) plan cuts found (λ at. not_at (holds, at)) answers
  whole_past false e es found not_at answers = answers

  pub whole_among : (entries : List PlainEntry) (first : PlainEntry) (found : Option Hit) → 1 ≤ length entries → first ≡ get_or entries 0 first → (IsTrue (is_asked without first) × IsAt (entry first) plan cuts → ⊥)
      → AnswersWhole (asked without (behind entries)) plan cuts found → AnswersWhole (asked without entries) plan cuts found
  whole_among [] first found some is not_at answers = absurd (omega arith)
  whole_among (e ∷ es) first found some is not_at answers =
      subst (λ x. AnswersWhole (asked without (x ∷ es)) plan cuts found) is
      (whole_past (is_asked without first) first es found not_at (subst (λ l. AnswersWhole (asked without l) plan cuts found) (behind_is e es) answers))

  best_at : (b : Bool) (e : PlainEntry) (es : List PlainEntry) (best : Option Hit) (hit : Hit) → IsTrue b → ComesBefore (entry e) plan cuts → IsFurther (entry e) best → entry_of e.plan hit ≡ entry e → IsBestOf (asked without es) plan cuts best
      → IsEarlier (map entry (cond b (e ∷ filter (is_asked without) es) (filter (is_asked without) es))) plan cuts hit
  best_at true e es best hit is comes further same of = best_first (entry e) (asked without es) plan cuts best hit comes further same of
  best_at false e es best hit is comes further same of = absurd (never is)

  pub first_best : (entries : List PlainEntry) (first : PlainEntry) (best : Option Hit) (hit : Hit) → 1 ≤ length entries → first ≡ get_or entries 0 first → IsTrue (is_asked without first) × ComesBefore (entry first) plan cuts
      → IsFurther (entry first) best → entry_of first.plan hit ≡ entry first → IsBestOf (asked without (behind entries)) plan cuts best → IsEarlier (asked without entries) plan cuts hit
  first_best [] first best hit some is comes further same of = absurd (omega arith)
  first_best (e ∷ es) first best hit some is comes further same of =
      subst (λ x. IsEarlier (asked without (x ∷ es)) plan cuts hit) is
      (best_at (is_asked without first) first es best hit comes.0 comes.1 further same (subst (λ l. IsBestOf (asked without l) plan cuts best) (behind_is e es) of))

  best_past : (b : Bool) (e : PlainEntry) (es : List PlainEntry) (best : Option Hit) → (IsTrue b × ComesBefore (entry e) plan cuts → IsFurther (entry e) best → ⊥) → IsBestOf (asked without es) plan cuts best
      → IsBestOf (map entry (cond b (e ∷ filter (is_asked without) es) (filter (is_asked without) es))) plan cuts best
  best_past true e es best not_both of = best_behind (entry e) (asked without es) plan cuts best (λ comes further. not_both (holds, comes) further) of
  best_past false e es best not_both of = of

  pub best_among : (entries : List PlainEntry) (first : PlainEntry) (best : Option Hit) → 1 ≤ length entries → first ≡ get_or entries 0 first → (IsTrue (is_asked without first) × ComesBefore (entry first) plan cuts → IsFurther (entry first) best → ⊥)
      → IsBestOf (asked without (behind entries)) plan cuts best → IsBestOf (asked without entries) plan cuts best
  best_among [] first best some is not_both of = absurd (omega arith)
  best_among (e ∷ es) first best some is not_both of =
      subst (λ x. IsBestOf (asked without (x ∷ es)) plan cuts best) is
      (best_past (is_asked without first) first es best not_both (subst (λ l. IsBestOf (asked without l) plan cuts best) (behind_is e es) of))

  -- ---- one entry in front, if there is one

  pub whole_front : (o : Option PlainEntry) (others : List PlainEntry) (e : PlainEntry) (hit : Hit) → o ≡ Some e → IsWholeAt without plan cuts e → entry_of e.plan hit ≡ entry e
      → IsWhole (asked without (in_front o others)) plan cuts hit
  whole_front o others e hit is at same =
      subst (λ o. IsWhole (asked without (in_front o others)) plan cuts hit) (sym is) (whole_at (is_asked without e) e others hit at.0 at.1 same)

  pub whole_past_front : (o : Option PlainEntry) (others : List PlainEntry) (found : Option Hit) → IfSome o (λ e. ¬ (IsWholeAt without plan cuts e)) → AnswersWhole (asked without others) plan cuts found
      → AnswersWhole (asked without (in_front o others)) plan cuts found
  whole_past_front None others found not_at answers = answers
  whole_past_front (Some e) others found not_at answers = whole_past (is_asked without e) e others found not_at answers

  pub best_front : (o : Option PlainEntry) (others : List PlainEntry) (e : PlainEntry) (best : Option Hit) (hit : Hit) → o ≡ Some e → IsEarlierAt without plan cuts e → IsFurther (entry e) best → entry_of e.plan hit ≡ entry e
      → IsBestOf (asked without others) plan cuts best → IsEarlier (asked without (in_front o others)) plan cuts hit
  best_front o others e best hit is comes further same of =
      subst (λ o. IsEarlier (asked without (in_front o others)) plan cuts hit) (sym is) (best_at (is_asked without e) e others best hit comes.0 comes.1 further same of)

  pub best_past_front : (o : Option PlainEntry) (others : List PlainEntry) (best : Option Hit) → IfSome o (λ e. IsEarlierAt without plan cuts e → ¬ (IsFurther (entry e) best)) → IsBestOf (asked without others) plan cuts best
      → IsBestOf (asked without (in_front o others)) plan cuts best
  best_past_front None others best not_both of = of
  best_past_front (Some e) others best not_both of = best_past (is_asked without e) e others best not_both of
