-- Removals that follow each other: how many of the files that were to go are still there.
use Rattle.std.proofs.Common.{◌≡◌, ◌⊎◌, inl, inr, ℕ, ◌+◌, ◌-◌, ◌^◌, ◌≤◌, min, true, false, List, [], ◌∷◌, length, subst, sym, ◌∙◌, arith, Ok, Err, Result, OnOk, OnErr}
use Rattle.std.specs.Prelude.{◌==◌}
use Rattle.std.specs.List.{AllByRecursion, IsDistinct}
use Rattle.std.proofs.lemmas.Bool.{cases_lt, cases_Bool, false≢true, eq-eqb}
use Rattle.std.proofs.lemmas.List.Elements.{All-from_recursion, recursion_from_All, All-weaker}
use Rattle.outside_traits.specs.Counts.{Rose}
use Rattle.outside_traits.specs.Removals.{IsStillThere, AreRemoved}
use Rattle.outside_traits.specs.View.{View, Counts}

-- ## A list of different files in two parts

abbrev AreDistinct : List ℕ → Type 0
AreDistinct files = IsDistinct (λ a b. a == b) files

record Parts (P Q : ℕ → Type 0) (files : List ℕ) : Type 1 where
  left : List ℕ
  right : List ℕ
  left_distinct : AreDistinct left
  right_distinct : AreDistinct right
  left_have : AllByRecursion P left
  right_have : AllByRecursion Q right
  within : (R : ℕ → Type 0) → AllByRecursion R files → AllByRecursion R left × AllByRecursion R right
  count : length files ≡ length left + length right

module _ (P Q : ℕ → Type 0) where
  more_left : (file : ℕ) (files : List ℕ) → P file → AllByRecursion (λ other. (file == other) ≡ false) files → Parts P Q files → Parts P Q (file ∷ files)
  unfolding IsDistinct
  more_left file files has apart parts = record {
    left = file ∷ parts.left;
    right = parts.right;
    left_distinct = ((parts.within (λ other. (file == other) ≡ false) apart).0, parts.left_distinct);
    right_distinct = parts.right_distinct;
    left_have = (has, parts.left_have);
    right_have = parts.right_have;
    within = λ R have. ((have.0, (parts.within R have.1).0), (parts.within R have.1).1);
    count = omega (arith, parts.count);
  }

  more_right : (file : ℕ) (files : List ℕ) → Q file → AllByRecursion (λ other. (file == other) ≡ false) files → Parts P Q files → Parts P Q (file ∷ files)
  unfolding IsDistinct
  more_right file files has apart parts = record {
    left = parts.left;
    right = file ∷ parts.right;
    left_distinct = parts.left_distinct;
    right_distinct = ((parts.within (λ other. (file == other) ≡ false) apart).1, parts.right_distinct);
    left_have = parts.left_have;
    right_have = (has, parts.right_have);
    within = λ R have. ((parts.within R have.1).0, (have.0, (parts.within R have.1).1));
    count = omega (arith, parts.count);
  }

  in_parts : (files : List ℕ) → AreDistinct files → AllByRecursion (λ file. P file ⊎ Q file) files → Parts P Q files
  unfolding IsDistinct
  in_parts [] distinct have = record {
    left = [];
    right = [];
    left_distinct = tt;
    right_distinct = tt;
    left_have = tt;
    right_have = tt;
    within = λ R all. (tt, tt);
    count = omega arith;
  }
  in_parts (file ∷ files) distinct have = elim have.0 [
    | inl first ↦ more_left file files first distinct.0 (in_parts files distinct.1 have.1)
    | inr second ↦ more_right file files second distinct.0 (in_parts files distinct.1 have.1)
  ]

-- ## Removals

-- none of them is there
pub removed_all : (went : ℕ → Type 0) (v : View) (old new : Counts) → old.removes ≤ new.removes → ((file : ℕ) → went file → v.there file ≡ false) → AreRemoved went v old new
removed_all went v old new more gone = λ files distinct left. by files (recursion_from_All (IsStillThere went v) files left)
  where
    by : (files : List ℕ) → AllByRecursion (IsStillThere went v) files → min (old.removes + length files) (2 ^ 64 - 1) ≤ new.removes
    by [] left = omega (arith, more)
    by (file ∷ files) left = absurd (false≢true (sym (gone file left.0.0) ∙ left.0.1))

-- one removal
pub removed_one : {T E : Type 0} (file : ℕ) (v : View) (old new : Counts) (result : Result T E) → old.removes ≤ new.removes
    → OnOk result (v.there file ≡ false) → OnErr result (Rose old.removes new.removes) → AreRemoved (λ g. g ≡ file) v old new
unfolding IsDistinct
removed_one file v old new (Ok done) more gone failed = removed_all (λ g. g ≡ file) v old new more (λ g same. subst (λ (n : ℕ). v.there n ≡ false) (sym same) gone)
removed_one file v old new (Err error) more gone failed = λ files distinct left. by files distinct (recursion_from_All (IsStillThere (λ g. g ≡ file) v) files left)
  where
    by : (files : List ℕ) → AreDistinct files → AllByRecursion (IsStillThere (λ g. g ≡ file) v) files → min (old.removes + length files) (2 ^ 64 - 1) ≤ new.removes
    by [] distinct left = omega (arith, more)
    by (g ∷ []) distinct left = omega (arith, failed)
    by (g ∷ h ∷ files) distinct left = absurd (false≢true (sym distinct.0.0 ∙ eq-eqb g h (left.0.0 ∙ sym left.1.0.0)))

-- Removals in two parts: a file that is still there was to go in the first part and was there after it, or was to go in the second.
pub removed_on : (first then whole : ℕ → Type 0) (u v : View) (old mid new : Counts)
    → ((file : ℕ) → whole file → v.there file ≡ true → (first file × (u.there file ≡ true)) ⊎ then file)
    → AreRemoved first u old mid → AreRemoved then v mid new → AreRemoved whole v old new
removed_on first then whole u v old mid new either was now = λ files distinct left.
    let parts = in_parts (IsStillThere first u) (IsStillThere then v) files distinct (recursion_from_All (λ file. IsStillThere first u file ⊎ IsStillThere then v file) files
    (All-weaker (IsStillThere whole v) (λ file. IsStillThere first u file ⊎ IsStillThere then v file) sort files left)) in
    let early = was parts.left parts.left_distinct (All-from_recursion (IsStillThere first u) parts.left parts.left_have) in
    let late = now parts.right parts.right_distinct (All-from_recursion (IsStillThere then v) parts.right parts.right_have) in
    omega (arith, early, late, parts.count)
  where
    sort : (file : ℕ) → IsStillThere whole v file → IsStillThere first u file ⊎ IsStillThere then v file
    sort file is = elim (either file is.0 is.1) [
      | inl before ↦ inl before
      | inr after ↦ inr (after, is.1)
    ]

-- seen from earlier and until later, of fewer files: one that is there then was to go and was there
pub removed_since : (went fewer : ℕ → Type 0) (u v : View) (early old new late : Counts)
    → ((file : ℕ) → fewer file → v.there file ≡ true → went file × (u.there file ≡ true)) → early.removes ≤ old.removes → new.removes ≤ late.removes
    → AreRemoved went u old new → AreRemoved fewer v early late
removed_since went fewer u v early old new late still before after removed = λ files distinct left.
    let most = removed files distinct (All-weaker (IsStillThere fewer v) (IsStillThere went u) (λ file is. still file is.0 is.1) files left) in
    omega (arith, before, after, most)

-- of fewer files
pub removed_fewer : (went fewer : ℕ → Type 0) (v : View) (old new : Counts) → ((file : ℕ) → fewer file → went file) → AreRemoved went v old new → AreRemoved fewer v old new
removed_fewer went fewer v old new within = removed_since went fewer v v old old new new (λ file is there. (within file is, there)) (omega arith) (omega arith)

-- The count rose, or none of them is there.
pub rose_or_gone : (went : ℕ → Type 0) (v : View) (old new : Counts) → AreRemoved went v old new
    → Rose old.removes new.removes ⊎ ((file : ℕ) → went file → v.there file ≡ false)
unfolding IsDistinct
rose_or_gone went v old new removed = elim (cases_lt new.removes (min (old.removes + 1) (2 ^ 64 - 1))) [
  | inl below ↦ inr (λ file is. elim (cases_Bool (v.there file)) [
    | inl there ↦ absurd (omega (arith, below, alone file is there))
    | inr gone ↦ gone
  ])
  | inr rose ↦ inl rose
] where
  alone : (file : ℕ) → went file → v.there file ≡ true → min (old.removes + 1) (2 ^ 64 - 1) ≤ new.removes
  alone file is there = removed (file ∷ []) (tt, tt) (All-from_recursion (IsStillThere went v) (file ∷ []) ((is, there), tt))
