-- What the calls of a store in memory do to its view.
use Rattle.std.proofs.Common.{◌≡◌, ◌≢◌, ◌⊎◌, inl, inr, ℕ, ◌<◌, ◌≤◌, false, List, [], ◌∷◌, ◌++◌, length, refl, sym, ap, ◌∙◌, subst, arith}
use Rattle.std.proofs.lemmas.Bool.{cases_lt}
use Rattle.std.proofs.lemmas.List.{get_or_append_left, get_or_at, get_or_past, get_or_default, length_push}
use Rattle.outside_traits.specs.View.{View}
use Rattle.outside_traits.specs.Calls.{Passes, Acts, Idles}
use Rattle.outside_traits.proofs.RunLemmas.{passes_none}
use Rattle.mem_outside.specs.Shown.{Shown}
use Rattle.mem_outside.specs.Outcomes.{Outcome, kept, state_in}
use Rattle.mem_outside.specs.Moments.{state_at, view_of}

-- ## Past states

-- the states at earlier moments stay, and that of the moment before is the old one
pub state_before : (past : List (List Shown)) (xs ys : List Shown) (k : ℕ) → k ≤ length past → state_at (past ++ xs ∷ []) ys k ≡ state_at past xs k
state_before past xs ys k le = elim (cases_lt k (length past)) [
  | inl less ↦ get_or_append_left past (xs ∷ []) ys k less ∙ get_or_default past k ys xs less
  | inr more ↦
      let here : length past ≡ k = omega (arith, le, more) in
      get_or_at past xs [] ys k here ∙ sym (get_or_past past k xs more)
]

pub state_now : (past : List (List Shown)) (xs : List Shown) (k : ℕ) → length past ≤ k → state_at past xs k ≡ xs
state_now past xs k le = get_or_past past k xs le

pub state_after : (past : List (List Shown)) (xs ys : List Shown) (k : ℕ) → length past < k → state_at (past ++ xs ∷ []) ys k ≡ ys
state_after past xs ys k less = get_or_past (past ++ xs ∷ []) k ys (omega (arith, less, length_push past xs))

-- a state after another: time goes on
pub passes : (past : List (List Shown)) (xs ys : List Shown) → Passes (view_of past xs) (view_of (past ++ xs ∷ []) ys)
passes past xs ys = record {
  later = omega (arith, length_push past xs);
  kept = λ k file x le left. subst (λ (l : List Shown). Outcome (state_in l file) x) (sym (state_before past xs ys k le)) left;
  no_more = λ k file x le left. subst (λ (l : List Shown). Outcome (state_in l file) x) (state_before past xs ys k le) left;
}

-- A call on one file.
pub acted : (file : ℕ) (step : List ℕ → List ℕ → Type 0) (past : List (List Shown)) (xs ys : List Shown)
    → step (state_in xs file).bytes (state_in ys file).bytes
    → ((g : ℕ) → g ≢ file → state_in ys g ≡ kept false (state_in xs g) ⊎ (state_in ys g ≡ state_in xs g))
    → ((x : List ℕ) → Outcome (state_in ys file) x → (d : List ℕ) × Outcome (state_in xs file) d × step d x)
    → Acts file step (view_of past xs) (view_of (past ++ xs ∷ []) ys)
acted file step past xs ys seen others here = record {
  time = passes past xs ys;
  seen = seen;
  same = λ g other. elim (others g other) [ inl cleared ↦ ap (λ (s : Shown). s.bytes) cleared | inr same ↦ ap (λ (s : Shown). s.bytes) same ];
  same_there = λ g other. elim (others g other) [ inl cleared ↦ ap (λ (s : Shown). s.there) cleared | inr same ↦ ap (λ (s : Shown). s.there) same ];
  here = λ k x low high left.
      let now : Outcome (state_in ys file) x = subst (λ (l : List Shown). Outcome (state_in l file) x) (state_after past xs ys k low) left in
      let from = here x now in
      (from.0, subst (λ (l : List Shown). Outcome (state_in l file) from.0) (sym (state_now past xs (length past) (omega arith))) from.1, from.2);
  others = λ k g x low high other left.
      let now : Outcome (state_in ys g) x = subst (λ (l : List Shown). Outcome (state_in l g) x) (state_after past xs ys k low) left in
      let was : Outcome (state_in xs g) x = elim (others g other) [
        | inl cleared ↦ fewer (state_in xs g) x (subst (λ (s : Shown). Outcome s x) cleared now)
        | inr same ↦ subst (λ (s : Shown). Outcome s x) same now
      ] in
      subst (λ (l : List Shown). Outcome (state_in l g) x) (sym (state_now past xs (length past) (omega arith))) was;
} where
  fewer : (s : Shown) (x : List ℕ) → Outcome (kept false s) x → Outcome s x
  fewer s x (inl now) = inl now
  fewer s x (inr none) = absurd none

-- nothing is changed
pub idle : (v : View) → Idles v v
idle v = record {
  time = passes_none v;
  same = λ g. refl;
  same_there = λ g. refl;
  no_more = λ k g x low high left. absurd (omega (arith, low, high));
  kept = λ g x now. now;
}

pub acted_none : (file : ℕ) (step : List ℕ → List ℕ → Type 0) (v : View) → step (v.files file) (v.files file) → Acts file step v v
acted_none file step v seen = record {
  time = passes_none v;
  seen = seen;
  same = λ g other. refl;
  same_there = λ g other. refl;
  here = λ k x low high left. absurd (omega (arith, low, high));
  others = λ k g x low high other left. absurd (omega (arith, low, high));
}
