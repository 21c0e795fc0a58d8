-- The least number of a file that is there.
use Rattle.std.proofs.Common.{◌≡◌, inl, inr, ℕ, suc, ◌<◌, ◌≤◌, true, List, [], ◌∷◌, Option, None, Some, length, get_or, sym, ap, ◌∙◌, arith}
use Rattle.std.specs.Prelude.{IfSome, IsSomeAnd}
use Rattle.std.proofs.lemmas.Bool.{cases_Bool, cases_eq, false≢true}
use Rattle.outside_traits.specs.Calls.{NextIs}
use Rattle.mem_outside.specs.Shown.{Shown}
use Rattle.mem_outside.specs.Outcomes.{absent, state_in}
use Rattle.mem_outside.specs.Sound.{look_other}

abbrev pub number_at : List Shown → ℕ → ℕ
number_at files k = (get_or files k (absent 0)).number

pub lower_still : (next result : Option ℕ) (b : ℕ) → IsSomeAnd next (λ n. n ≤ b) → IfSome next (λ m. IsSomeAnd result (λ n. n ≤ m)) → IsSomeAnd result (λ n. n ≤ b)
lower_still None result b h lower = absurd h
lower_still (Some m) None b h lower = absurd lower
lower_still (Some m) (Some n) b h lower = omega (arith, h, lower)

-- a file that is there has an entry
pub entry_there : (files : List Shown) (g : ℕ) → (state_in files g).there ≡ true → (k : ℕ) × (k < length files) × (number_at files k ≡ g)
entry_there [] g h = absurd (false≢true h)
entry_there (s ∷ files) g h = elim (cases_eq s.number g) [
  | inl same ↦ (0, omega arith, same)
  | inr other ↦
      let rest = entry_there files g (ap (λ (t : Shown). t.there) (sym (look_other s files g other)) ∙ h) in
      (suc rest.0, omega (arith, rest.1), rest.2)
]

pub nearest : (files : List Shown) (from : ℕ) (next : Option ℕ) → IfSome next (λ n. (from ≤ n) × ((state_in files n).there ≡ true))
    → ((k : ℕ) → k < length files → from ≤ number_at files k → (state_in files (number_at files k)).there ≡ true → IsSomeAnd next (λ n. n ≤ number_at files k))
    → NextIs (λ file. (state_in files file).there) from next
nearest files from None found least = λ g high. elim (cases_Bool (state_in files g).there) [
  | inl there ↦
      let at = entry_there files g there in
      absurd (least at.0 at.1 (omega (arith, high, at.2)) (ap (λ (n : ℕ). (state_in files n).there) at.2 ∙ there))
  | inr gone ↦ gone
]
nearest files from (Some n) found least = (
  found.1,
  λ g high less. elim (cases_Bool (state_in files g).there) [
    | inl there ↦
        let at = entry_there files g there in
        absurd (omega (arith, less, at.2, least at.0 at.1 (omega (arith, high, at.2)) (ap (λ (m : ℕ). (state_in files m).there) at.2 ∙ there)))
    | inr gone ↦ gone
  ],
)
