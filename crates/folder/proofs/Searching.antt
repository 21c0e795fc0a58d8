-- What a search in ascending numbers tells.
use Rattle.std.proofs.Common.{◌≡◌, refl, sym, ◌∙◌, ℕ, inl, inr, Bool, true, false, ◌==◌, List, get_or, Result, Ok, Err, arith}
use Rattle.std.specs.Bool.{Decides}
use Rattle.std.specs.Result.{is_ok}
use Rattle.std.specs.Ordering.{nat_cmp}
use Rattle.std.specs.List.{Contains, list_any}
use Rattle.std.specs.List.Sorted.{IsBinarySearchResult, IsNonDecreasing}
use Rattle.std.proofs.lemmas.Bool.{cases_lt}
use Rattle.std.proofs.lemmas.Grind.{get_or_default_zero}
use Rattle.std.proofs.lemmas.Bool.Decides.{Decides-by_or, Decides-eqb}
use Rattle.std.proofs.lemmas.List.Elements.{Decides-contains, at_from_Contains}
use Rattle.std.proofs.lemmas.List.Sorted.{searched}
use Rattle.folder.specs.Strays.{is_named}

-- a file is named where the list has its number
pub decides_named : (named : List ℕ) (file : ℕ) → Decides (is_named named file) (Contains named file)
decides_named named file =
    Decides-contains named file (is_named named file) (Decides-by_or (λ other. other == file) (λ other. other ≡ file) (list_any (λ other. other == file)) (λ other. Decides-eqb other file) refl (λ _ _. refl) named)

-- a search in ascending numbers tells whether one is the file's
pub search_finds : (named : List ℕ) (file : ℕ) (r : Result ℕ ℕ) → IsNonDecreasing named → IsBinarySearchResult (λ y. nat_cmp y file) named r → is_ok r ≡ is_named named file
search_finds named file (Ok i) up found =
    let at = searched named file (Ok i) found (λ a b. up a b 0) in
    sym ((decides_named named file).1 (i, at.0, get_or_default_zero named i file at.0 ∙ at.1))
search_finds named file (Err i) up found = by (is_named named file) (decides_named named file)
  where
    by : (b : Bool) → Decides b (Contains named file) → false ≡ b
    by false d = refl
    by true d =
        let at = at_from_Contains named file (d.0 refl) in
        let out = searched named file (Err i) found (λ a b. up a b 0) in
        let is : get_or named at.0 0 ≡ file = at.2 0 in
        elim (cases_lt at.0 i) [
          | inl less ↦ (let below = out.1 at.0 less in absurd (omega (arith, is, below)))
          | inr most ↦ (let above = out.2 at.0 most at.1 in absurd (omega (arith, is, above)))
        ]
