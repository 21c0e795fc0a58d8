-- What look-ups answer where one result more is asked.
use Rattle.std.proofs.Common.{◌≡◌, ◌≢◌, ◌⊎◌, inl, inr, true, false, rules, ℕ, zero, suc, ◌<◌, ◌≤◌, List, [], ◌∷◌, length, get_or, take, drop, ◌-◌, Option, Some, None, refl, sym, ap, ◌∙◌, subst, arith}
use Rattle.std.specs.Bool.{IsTrue}
use Rattle.std.specs.List.{Contains}
use Rattle.plan_core.specs.PlainPlan.{PlainPlan, leaf_count}
use Rattle.estimator.specs.Cuts.{Cuts, AreIntervals, AreAtOrBefore, reach}
use Rattle.rewrite_core.specs.declared.rewriting.Hit.{Hit}
use Rattle.rewrite_core.specs.Entries.{Entry, Entries, entry_of, AreSound, IsWhole, IsBefore, IsEarlier, IsChosenOver, AnswersWhole, AnswersEarlier}
use Rattle.std.proofs.lemmas.Bool.{cases_lt}
use Rattle.std.proofs.lemmas.List.{take_all}
use Rattle.rewrite_core.specs.Looking.{IsAt, ComesBefore, IsFurther, IsBestOf}

-- ---- lists

pub Contains-first : {A : Type 0} (x : A) (xs : List A) → Contains (x ∷ xs) x
Contains-first x xs = (0, omega arith, refl)

pub Contains-behind : {A : Type 0} (x : A) (xs : List A) (y : A) → Contains xs y → Contains (x ∷ xs) y
Contains-behind x xs y has = (suc has.0, (let low : has.0 < length xs = has.1 in omega (arith, low)), has.2)

pub Contains-cons_cases : {A : Type 0} (x : A) (xs : List A) (y : A) → Contains (x ∷ xs) y → (x ≡ y) ⊎ Contains xs y
Contains-cons_cases x xs y (zero, low, is) = inl is
Contains-cons_cases x xs y (suc k, low, is) = inr (k, omega (arith, low), is)

pub Contains-none : {A : Type 0} (y : A) → Contains [] y → ⊥
Contains-none y has = let low : has.0 < 0 = has.1 in absurd (omega (arith, low))

-- ---- the result of a plan and a cut

pub no_whole : (plan : PlainPlan) (cuts : Cuts) → AnswersWhole [] plan cuts None
no_whole plan cuts hit is = Contains-none _ is.kept

-- the first entry is of this plan and cut
pub whole_first : (e : Entry) (others : Entries) (plan : PlainPlan) (cuts : Cuts) (hit : Hit) → IsAt e plan cuts → entry_of e.plan hit ≡ e → IsWhole (e ∷ others) plan cuts hit
whole_first e others plan cuts hit at is = record {
  here = ap (λ x. x.cuts) is ∙ at.1;
  kept = subst (λ p. Contains (e ∷ others) (entry_of p hit)) at.0 (subst (Contains (e ∷ others)) (sym is) (Contains-first e others));
}

pub whole_behind : (e : Entry) (others : Entries) (plan : PlainPlan) (cuts : Cuts) (found : Option Hit) → (IsAt e plan cuts → ⊥) → AnswersWhole others plan cuts found → AnswersWhole (e ∷ others) plan cuts found
whole_behind e others plan cuts (Some hit) not_at is = record { here = is.here; kept = Contains-behind e others _ is.kept }
whole_behind e others plan cuts None not_at none = λ hit is. elim (Contains-cons_cases e others (entry_of plan hit) is.kept) [
  | inl first ↦ not_at (ap (λ x. x.plan) first, ap (λ x. x.cuts) first ∙ is.here)
  | inr behind ↦ none hit (record { here = is.here; kept = behind })
]

-- ---- the result of an earlier cut

before_behind : (e : Entry) (others : Entries) (plan : PlainPlan) (cuts : Cuts) (hit : Hit) → IsBefore others plan cuts hit → IsBefore (e ∷ others) plan cuts hit
before_behind e others plan cuts hit is = record { kept = Contains-behind e others _ is.kept; other = is.other; before = is.before }

-- an entry before this cut is the first one, or one of the others
before_cases : (e : Entry) (others : Entries) (plan : PlainPlan) (cuts : Cuts) (hit : Hit) → IsBefore (e ∷ others) plan cuts hit
    → ((e ≡ entry_of plan hit) × ComesBefore e plan cuts) ⊎ IsBefore others plan cuts hit
before_cases e others plan cuts hit is = elim (Contains-cons_cases e others (entry_of plan hit) is.kept) [
  | inl first ↦ inl (first, (ap (λ x. x.plan) first, (λ same. is.other (sym (ap (λ x. x.cuts) first) ∙ same)), subst (λ c. AreAtOrBefore c cuts) (sym (ap (λ x. x.cuts) first)) is.before))
  | inr behind ↦ inr (record { kept = behind; other = is.other; before = is.before })
]

pub no_best : (plan : PlainPlan) (cuts : Cuts) → IsBestOf [] plan cuts None
no_best plan cuts hit is = Contains-none _ is.kept

further_chosen : (rival best new i j k : ℕ) → (rival < best) ⊎ ((rival ≡ best) × (i ≤ j)) → (best < new) ⊎ ((best ≡ new) × (k < i)) → (rival < new) ⊎ ((rival ≡ new) × (k ≤ j))
further_chosen rival best new i j k (inl a) (inl b) = inl (omega (arith, a, b))
further_chosen rival best new i j k (inl a) (inr b) = inl (omega (arith, a, b.0))
further_chosen rival best new i j k (inr a) (inl b) = inl (omega (arith, a.0, b))
further_chosen rival best new i j k (inr a) (inr b) = inr (omega (arith, a.0, b.0), omega (arith, a.1, b.1))

no_further : (new best i k : ℕ) → ((best < new) ⊎ ((best ≡ new) × (k < i)) → ⊥) → (new < best) ⊎ ((new ≡ best) × (i ≤ k))
no_further new best i k none = elim (cases_lt best new) [
  | inl less ↦ absurd (none (inl less))
  | inr most ↦ elim (cases_lt new best) [
    | inl less ↦ inl less
    | inr same ↦ elim (cases_lt k i) [
      | inl less ↦ absurd (none (inr (omega (arith, most, same), less)))
      | inr few ↦ inr (omega (arith, most, same), few)
    ]
  ]
]

-- the first entry is before this cut and further than the best of the others
pub best_first : (e : Entry) (others : Entries) (plan : PlainPlan) (cuts : Cuts) (best : Option Hit) (hit : Hit) → ComesBefore e plan cuts → IsFurther e best → entry_of e.plan hit ≡ e
    → IsBestOf others plan cuts best → IsEarlier (e ∷ others) plan cuts hit
best_first e others plan cuts best hit comes further is of = record {
  candidate = record {
    kept = subst (λ p. Contains (e ∷ others) (entry_of p hit)) comes.0 (subst (Contains (e ∷ others)) (sym is) (Contains-first e others));
    other = λ same. comes.1 (sym cuts_are ∙ same);
    before = subst (λ c. AreAtOrBefore c cuts) (sym cuts_are) comes.2;
  };
  first = λ rival before. elim (before_cases e others plan cuts rival before) [
    | inl own ↦ inr (ap (λ x. reach x.cuts) (sym own.0) ∙ ap reach (sym cuts_are), (let i = ap (λ x. x.id) own.0 in let j = ap (λ x. x.id) is in omega (arith, i, j)))
    | inr behind ↦ over best of further rival behind
  ];
}
  where
    cuts_are : hit.cuts ≡ e.cuts
    cuts_are = ap (λ x. x.cuts) is

    over : (best : Option Hit) → IsBestOf others plan cuts best → IsFurther e best → (rival : Hit) → IsBefore others plan cuts rival → IsChosenOver rival hit
    over None none far rival before = absurd (none rival before)
    over (Some b) of far rival before =
        let chosen = further_chosen (reach rival.cuts) (reach b.cuts) (reach e.cuts) b.id rival.id e.id (of.first rival before) far in
        let id = ap (λ x. x.id) is in
        elim chosen [
          | inl less ↦ inl (omega (arith, less, ap reach cuts_are))
          | inr same ↦ inr (omega (arith, same.0, ap reach cuts_are), omega (arith, same.1, id))
        ]

-- it isn't both
pub best_behind : (e : Entry) (others : Entries) (plan : PlainPlan) (cuts : Cuts) (best : Option Hit) → (ComesBefore e plan cuts → IsFurther e best → ⊥) → IsBestOf others plan cuts best
    → IsBestOf (e ∷ others) plan cuts best
best_behind e others plan cuts None not_both none = λ hit before. elim (before_cases e others plan cuts hit before) [
  | inl own ↦ not_both own.1 tt
  | inr behind ↦ none hit behind
]
best_behind e others plan cuts (Some b) not_both of = record {
  candidate = before_behind e others plan cuts b of.candidate;
  first = λ rival before. elim (before_cases e others plan cuts rival before) [
    | inl own ↦ elim (no_further (reach e.cuts) (reach b.cuts) b.id e.id (not_both own.1)) [
      | inl less ↦ inl (omega (arith, less, ap (λ x. reach x.cuts) own.0))
      | inr same ↦ inr (omega (arith, same.0, ap (λ x. reach x.cuts) own.0), omega (arith, same.1, ap (λ x. x.id) own.0))
    ]
    | inr behind ↦ of.first rival behind
  ];
}

pub best_answers : (entries : Entries) (plan : PlainPlan) (cuts : Cuts) (best : Option Hit) → IsBestOf entries plan cuts best → AnswersEarlier entries plan cuts best
best_answers entries plan cuts None none = λ hit is. none hit is.candidate
best_answers entries plan cuts (Some hit) is = is

pub never : IsTrue false → ⊥
never h = search rules

pub holds : IsTrue true
holds = search rules
