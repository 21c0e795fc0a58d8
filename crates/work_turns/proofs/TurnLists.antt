-- The results that turns left out, and the turns that ended, one after another.
use Rattle.std.proofs.Common.{◌≡◌, refl, sym, ◌∙◌, subst, ℕ, suc, ◌+◌, ◌<◌, ◌≤◌, ◌==◌, ◌||◌, min, ◌-◌, ◌^◌, inl, inr, Bool, true, false, not, cond, List, [], ◌∷◌, ◌++◌, length, append_assoc, append-nil, arith}
use Rattle.std.proofs.lemmas.Bool.{false≢true}
use Rattle.std.proofs.lemmas.Bool.Decides.{nat_tests}
use Rattle.std.proofs.lemmas.List.Folds.{list_any-append}
use Rattle.outside_traits.specs.View.{Counts}
use Rattle.catalog_types.specs.PlainEntry.{PlainEntry}
use Rattle.entry_table.specs.Ids.{is_among, is_there, without}
use Rattle.work_run.specs.Ends.{CountsRead}
use Rattle.work_turns.specs.Turns.{AreTurns}

-- ---- one more is left out

among-more : (ids : List ℕ) (id other : ℕ) → is_among (ids ++ id ∷ []) other ≡ (is_among ids other || ((id == other) || false))
among-more ids id other = list_any-append (λ (x : ℕ). x == other) ids (id ∷ [])

no-more : (ids : List ℕ) (id : ℕ) (es : List PlainEntry) → length (without (ids ++ id ∷ []) es) ≤ length (without ids es)
no-more ids id [] = omega arith
no-more ids id (e ∷ es) =
    subst (λ (b : Bool). length (cond (not b) (e ∷ without (ids ++ id ∷ []) es) (without (ids ++ id ∷ []) es)) ≤ length (cond (not (is_among ids e.id)) (e ∷ without ids es) (without ids es)))
    (sym (among-more ids id e.id)) (by (is_among ids e.id) ((id == e.id) || false) (no-more ids id es))
  where
    by : (b c : Bool) → length (without (ids ++ id ∷ []) es) ≤ length (without ids es)
        → length (cond (not (b || c)) (e ∷ without (ids ++ id ∷ []) es) (without (ids ++ id ∷ []) es)) ≤ length (cond (not b) (e ∷ without ids es) (without ids es))
    by true c rest = rest
    by false true rest = omega (arith, rest)
    by false false rest = omega (arith, rest)

-- there are fewer then, where the result was there
pub fewer : (ids : List ℕ) (id : ℕ) (es : List PlainEntry) → is_there (without ids es) id ≡ true → length (without (ids ++ id ∷ []) es) < length (without ids es)
fewer ids id [] there = absurd (false≢true there)
fewer ids id (e ∷ es) there =
    subst (λ (b : Bool). length (cond (not b) (e ∷ without (ids ++ id ∷ []) es) (without (ids ++ id ∷ []) es)) < length (cond (not (is_among ids e.id)) (e ∷ without ids es) (without ids es)))
    (sym (among-more ids id e.id)) (by (is_among ids e.id) (e.id == id) refl there (λ behind. fewer ids id es behind))
  where
    by : (b c : Bool) → (e.id == id) ≡ c → is_there (cond (not b) (e ∷ without ids es) (without ids es)) id ≡ true
        → (is_there (without ids es) id ≡ true → length (without (ids ++ id ∷ []) es) < length (without ids es))
        → length (cond (not (b || ((id == e.id) || false))) (e ∷ without (ids ++ id ∷ []) es) (without (ids ++ id ∷ []) es)) < length (cond (not b) (e ∷ without ids es) (without ids es))
    by true c same there rest = rest there
    by false true same there rest =
        let turned : ((id == e.id) || false) ≡ true = grind (arith, nat_tests) in
        let most = no-more ids id es in
        subst (λ (c : Bool). length (cond (not c) (e ∷ without (ids ++ id ∷ []) es) (without (ids ++ id ∷ []) es)) < suc (length (without ids es))) (sym turned) (omega (arith, most))
    by false false same there rest =
        let turned : ((id == e.id) || false) ≡ false = grind (arith, nat_tests) in
        let behind : is_there (without ids es) id ≡ true = subst (λ (c : Bool). (c || is_there (without ids es) id) ≡ true) same there in
        let less = rest behind in
        subst (λ (c : Bool). length (cond (not c) (e ∷ without (ids ++ id ∷ []) es) (without (ids ++ id ∷ []) es)) < suc (length (without ids es))) (sym turned) (omega (arith, less))

-- ---- one more turn ended

module _ (IsTurn : List ℕ → ℕ → ℕ → Type 0) where
  pub turns-more : (left_out ids : List ℕ) (bytes id more : ℕ) → AreTurns IsTurn left_out ids bytes → IsTurn (left_out ++ ids) id more → AreTurns IsTurn left_out (ids ++ id ∷ []) (bytes + more)
  turns-more left_out [] bytes id more none turn = (more, 0, subst (λ (out : List ℕ). IsTurn out id more) (append-nil left_out) turn, refl, omega (arith, none))
  turns-more left_out (x ∷ ids) bytes id more (first, rest, is, others, sum) turn =
      (first, rest + more, is, turns-more (left_out ++ x ∷ []) ids rest id more others (subst (λ (out : List ℕ). IsTurn out id more) (sym (append_assoc left_out (x ∷ []) ids)) turn), omega (arith, sum))

-- ---- the bytes of turns, one behind another

pub counts-on : (first second : ℕ) (old half new : Counts) → CountsRead first old half → CountsRead second half new → CountsRead (first + second) old new
counts-on first second old half new (inl one) (inl two) =
    let a : half.taken ≡ min (old.taken + first) (2 ^ 64 - 1) = one in
    let b : new.taken ≡ min (half.taken + second) (2 ^ 64 - 1) = two in
    inl (omega (arith, a, b))
counts-on first second old half new (inl one) (inr two) =
    let a : half.taken ≡ min (old.taken + first) (2 ^ 64 - 1) = one in
    inl (omega (arith, a, two.0, two.1))
counts-on first second old half new (inr one) (inl two) =
    let b : new.taken ≡ min (half.taken + second) (2 ^ 64 - 1) = two in
    inl (omega (arith, one.0, one.1, b))
counts-on first second old half new (inr one) (inr two) = inr (omega (arith, one.0, two.0), two.1 ∙ one.1)

-- where they are cut at the greatest number
pub counts-cut : (bytes cut : ℕ) (old new : Counts) → cut ≡ min bytes (2 ^ 64 - 1) → CountsRead bytes old new → CountsRead cut old new
counts-cut bytes cut old new is (inl one) =
    let a : new.taken ≡ min (old.taken + bytes) (2 ^ 64 - 1) = one in
    inl (omega (arith, is, a))
counts-cut bytes cut old new is (inr one) = inr (omega (arith, is, one.0), one.1)
