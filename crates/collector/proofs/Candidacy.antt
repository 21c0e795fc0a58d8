-- Which entries may go, by the test and by its meaning.
use Rattle.std.proofs.Common.{◌≡◌, refl, sym, ◌∙◌, ℕ, ◌-◌, ◌≤◌, inl, inr, Bool, true, false, not, ◌==◌, nat_le, List, get_or, Result, Ok, Err, arith}
use Rattle.std.specs.Bool.{Decides}
use Rattle.std.specs.Result.{is_ok}
use Rattle.std.specs.Ordering.{nat_cmp}
use Rattle.std.specs.List.{Contains, list_any, filter}
use Rattle.std.specs.List.Sorted.{IsPermutation, IsBinarySearchResult, IsNonDecreasing}
use Rattle.std.proofs.lemmas.Bool.{cases_lt}
use Rattle.std.proofs.lemmas.Grind.{get_or_default_zero}
use Rattle.std.proofs.lemmas.Bool.Decides.{Decides-by_or, Decides-eqb, Decides-not, Decides-and, Decides-like, same_from_decides, leb_tells}
use Rattle.std.proofs.lemmas.List.Elements.{Decides-contains, at_from_Contains, filter_agree}
use Rattle.std.proofs.lemmas.List.Sorted.{searched, Contains-permutation, IsPermutation-sym}
use Rattle.catalog_types.specs.PlainEntry.{PlainEntry}
use Rattle.collector.specs.Victims.{Collection, MayGo}
use Rattle.collector.specs.Standing.{may_go}

decides_pinned : (ids : List ℕ) (x : ℕ) → Decides (list_any (λ id. id == x) ids) (Contains ids x)
decides_pinned ids x = Decides-contains ids x (list_any (λ id. id == x) ids) (Decides-by_or (λ id. id == x) (λ id. id ≡ x) (list_any (λ id. id == x)) (λ id. Decides-eqb id x) refl (λ _ _. refl) ids)

decides_le : (a b : ℕ) → Decides (nat_le a b) (a ≤ b)
decides_le a b = elim (leb_tells a b) [
  | inl most ↦ ((λ _. most.1), (λ _. most.0))
  | inr less ↦ ((λ is. (let wrong : true ≡ false = sym is ∙ less.0 in absurd (cc))), (λ most. absurd (omega (arith, most, less.1))))
]

pub decides_may_go : (c : Collection) (e : PlainEntry) → Decides (may_go c e) (MayGo c e)
decides_may_go c e =
    Decides-like {P = (Contains c.pinned e.id → ⊥) × (c.lease ≤ c.now - e.made)} {Q = MayGo c e} (may_go c e) (λ p. record { free = p.0; over = p.1 }) (λ may. (may.free, may.over))
    (Decides-and (not (list_any (λ id. id == e.id) c.pinned)) (nat_le c.lease (c.now - e.made)) (Decides-not (list_any (λ id. id == e.id) c.pinned) (decides_pinned c.pinned e.id)) (decides_le c.lease (c.now - e.made)))

-- the same collection with these ids pinned
abbrev pub with_pinned : Collection → List ℕ → Collection
with_pinned c pinned = record { now = c.now; pinned = pinned; lease = c.lease }

-- the order of the pinned ids doesn't matter
pub same_candidates : (c : Collection) (held : List ℕ) → IsPermutation c.pinned held → (es : List PlainEntry) → filter (may_go (with_pinned c held)) es ≡ filter (may_go c) es
same_candidates c held moved es = filter_agree (may_go (with_pinned c held)) (may_go c) (λ e. same_from_decides (may_go (with_pinned c held) e) (may_go c e)
    (Decides-like {P = MayGo (with_pinned c held) e} {Q = MayGo c e} (may_go (with_pinned c held) e)
    (λ may. record { free = λ has. may.free (Contains-permutation c.pinned held e.id moved has); over = may.over })
    (λ may. record { free = λ has. may.free (Contains-permutation held c.pinned e.id (IsPermutation-sym c.pinned held moved) has); over = may.over }) (decides_may_go (with_pinned c held) e))
    (decides_may_go c e)) es

-- a search in ascending ids tells whether one is the id
pub search_finds : (ids : List ℕ) (x : ℕ) (r : Result ℕ ℕ) → IsNonDecreasing ids → IsBinarySearchResult (λ y. nat_cmp y x) ids r → is_ok r ≡ list_any (λ id. id == x) ids
search_finds ids x (Ok i) up found =
    let at = searched ids x (Ok i) found (λ a b. up a b 0) in
    let has : Contains ids x = (i, at.0, get_or_default_zero ids i x at.0 ∙ at.1) in
    sym ((decides_pinned ids x).1 has)
search_finds ids x (Err i) up found = by (list_any (λ id. id == x) ids) (decides_pinned ids x)
  where
    by : (b : Bool) → Decides b (Contains ids x) → false ≡ b
    by false d = refl
    by true d =
        let at = at_from_Contains ids x (d.0 refl) in
        let out = searched ids x (Err i) found (λ a b. up a b 0) in
        let is : get_or ids at.0 0 ≡ x = at.2 0 in
        elim (cases_lt at.0 i) [
          | inl less ↦ (let below = out.1 at.0 less in absurd (omega (arith, is, below)))
          | inr most ↦ (let above = out.2 at.0 most at.1 in absurd (omega (arith, is, above)))
        ]
