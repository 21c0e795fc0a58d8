-- From all entries in order to those that go first.
use Rattle.std.proofs.Common.{◌≡◌, ◌≢◌, refl, sym, ap, ◌∙◌, subst, ℕ, suc, ◌+◌, ◌-◌, ◌≤◌, ◌⊎◌, inl, inr, Bool, true, false, cond, ◌==◌, eqb, List, [], ◌∷◌, map, get_or, arith}
use Rattle.std.specs.List.{Contains, IsDistinct}
use Rattle.std.specs.List.Sorted.{IsSortedBy}
use Rattle.std.proofs.lemmas.Bool.Decides.{Decides-eqb, not_from_Decides}
use Rattle.std.proofs.lemmas.Map.Keys.{IsDistinct-head, IsDistinct-tail}
use Rattle.catalog_types.specs.PlainEntry.{PlainEntry}
use Rattle.collector.specs.Ratio.{GoesBefore}
use Rattle.collector.specs.Victims.{size_of, GoesBeforeNext, AreInOrder}
use Rattle.collector.specs.Standing.{standing_of, standing_cmp, first_enough}
use Rattle.collector.specs.Candidates.{standing}
use Rattle.collector.specs.declared.candidate.Candidate.{Candidate}
use Rattle.std.specs.Ordering.{is_lt}
use Rattle.collector.proofs.Lists.{none, first_in, behind_in, in_cases, no_end}
use Rattle.collector.proofs.Orders.{comes_first, not_behind_from_cmp}
use Rattle.collector.proofs.Ranks.{not_before_itself}
use Rattle.collector.proofs.Choices.{AreKnown, AreFirst, But, known_but, first_goes, more_first}

-- all of which P holds, in order
pub record AreAll (now : ℕ) (P : PlainEntry → Type 0) (es : List PlainEntry) : Type 0 where
  pub in_order : AreInOrder now es
  pub each : (e : PlainEntry) → Contains es e → P e
  pub all : (e : PlainEntry) → P e → Contains es e

all_but : (now : ℕ) (P : PlainEntry → Type 0) (e : PlainEntry) (es : List PlainEntry) → AreKnown now P → AreAll now P (e ∷ es) → ((f : PlainEntry) → Contains es f → GoesBefore now e f) → AreAll now (But P e) es
all_but now P e es known of before = record {
  in_order = of.in_order.1;
  each = λ f has. (
    of.each f (behind_in e es f has),
    λ same.
        not_before_itself now e (subst (GoesBefore now e) (known.same f e (of.each f (behind_in e es f has)) (of.each e (first_in e es)) same) (before f has)),
  );
  all = λ f p. elim (in_cases e es f (of.all f p.0)) [ inl is ↦ absurd (p.1 (ap (λ z. z.id) (sym is))) | inr more ↦ more ];
}

nothing_first : (now : ℕ) (P : PlainEntry → Type 0) (wanted : ℕ) → (wanted ≤ 0) ⊎ ((e : PlainEntry) → P e → Contains [] e) → AreFirst now P wanted []
nothing_first now P wanted enough = record {
  can_go = λ e has. absurd (none e has);
  in_order = tt;
  greatest = λ others last is. absurd (no_end others last is);
  enough = enough;
  needed = λ others last is. absurd (no_end others last is);
}

pub first_of_all : (es : List PlainEntry) (now : ℕ) (P : PlainEntry → Type 0) (wanted : ℕ) → AreKnown now P → AreAll now P es → AreFirst now P wanted (first_enough size_of wanted es)
first_of_all [] now P wanted known of = nothing_first now P wanted (inr of.all)
first_of_all (e ∷ es) now P wanted known of = by (wanted == 0) (Decides-eqb wanted 0) (λ behind. first_of_all es now (But P e) (wanted - size_of e) (known_but now P e known) (all_but now P e es known of behind))
  where
    before : (f : PlainEntry) → Contains es f → GoesBefore now e f
    before = first_goes now e es (known.ranked e (of.each e (first_in e es))) (λ f has. known.ranked f (of.each f (behind_in e es f has))) of.in_order.0 of.in_order.1

    by : (b : Bool) → ((b ≡ true → wanted ≡ 0) × (wanted ≡ 0 → b ≡ true)) → (((f : PlainEntry) → Contains es f → GoesBefore now e f) → AreFirst now (But P e) (wanted - size_of e) (first_enough size_of (wanted - size_of e) es))
        → AreFirst now P wanted (cond b [] (e ∷ first_enough size_of (wanted - size_of e) es))
    by true is rest = nothing_first now P wanted (inl (let zero = is.0 refl in omega (arith, zero)))
    by false is rest =
        let some : wanted ≢ 0 = λ zero. (let wrong = is.1 zero in absurd (cc)) in
        more_first now P wanted e _ known (of.each e (first_in e es)) (omega (arith, some))
        (λ f p. elim (in_cases e es f (of.all f p.0)) [ inl is' ↦ absurd (p.1 (ap (λ z. z.id) (sym is'))) | inr more ↦ before f more ])
        (rest before)

-- ---- what a list takes, another takes that stands for it

pub enough_alike : {X Y : Type 0} (f : X → Y) (size : X → ℕ) (size_too : Y → ℕ) → ((x : X) → size_too (f x) ≡ size x) → (xs : List X) (wanted : ℕ)
    → map f (first_enough size wanted xs) ≡ first_enough size_too wanted (map f xs)
enough_alike f size size_too same [] wanted = refl
enough_alike f size size_too same (x ∷ xs) wanted =
    by (wanted == 0) (enough_alike f size size_too same xs (wanted - size x) ∙ ap (λ n. first_enough size_too (wanted - n) (map f xs)) (sym (same x)))
  where
    by : (b : Bool) → map f (first_enough size (wanted - size x) xs) ≡ first_enough size_too (wanted - size_too (f x)) (map f xs)
        → map f (cond b [] (x ∷ first_enough size (wanted - size x) xs)) ≡ cond b [] (f x ∷ first_enough size_too (wanted - size_too (f x)) (map f xs))
    by true rest = refl
    by false rest = ap (λ l. f x ∷ l) rest

-- ---- entries whose standings are sorted

sorted_behind : (c : Candidate) (cs : List Candidate) → IsSortedBy comes_first (c ∷ cs) → IsSortedBy comes_first cs
sorted_behind c cs sorted k d low high =
    let is : suc k + 1 ≡ suc (k + 1) = omega arith in
    subst (λ n. comes_first (get_or (c ∷ cs) n d) (get_or cs k d) ≡ false) is (sorted (suc k) d (omega arith) (omega (arith, high)))

pub order_of_sorted : (now : ℕ) (cs : List Candidate) (es : List PlainEntry) → map standing cs ≡ map (standing_of now) es → IsSortedBy comes_first cs → IsDistinct eqb (map (λ e. e.id) es) → AreInOrder now es
order_of_sorted now [] [] alike sorted apart = tt
order_of_sorted now [] (e ∷ es) alike sorted apart = absurd (cc)
order_of_sorted now (c ∷ cs) [] alike sorted apart = absurd (cc)
order_of_sorted now (c ∷ cs) (e ∷ es) alike sorted apart =
    let others : map standing cs ≡ map (standing_of now) es = cc in
    let own : standing c ≡ standing_of now e = cc in
    (next cs es own others sorted apart, order_of_sorted now cs es others (sorted_behind c cs sorted) (IsDistinct-tail eqb e.id (map (λ f. f.id) es) apart))
  where
    next : (ds : List Candidate) (fs : List PlainEntry) → standing c ≡ standing_of now e → map standing ds ≡ map (standing_of now) fs → IsSortedBy comes_first (c ∷ ds) → IsDistinct eqb (map (λ f. f.id) (e ∷ fs))
        → GoesBeforeNext now e fs
    next ds [] own others sorted apart = tt
    next [] (f ∷ fs) own others sorted apart = absurd (cc)
    next (d ∷ ds) (f ∷ fs) own others sorted apart =
        let too : standing d ≡ standing_of now f = cc in
        let order : is_lt (standing_cmp (standing d) (standing c)) ≡ false = sorted 0 c (omega arith) (omega arith) in
        let moved : is_lt (standing_cmp (standing_of now f) (standing_of now e)) ≡ false =
        subst (λ s. is_lt (standing_cmp s (standing_of now e)) ≡ false) too (subst (λ s. is_lt (standing_cmp (standing d) s) ≡ false) own order) in
        let ids : e.id ≡ f.id → ⊥ = not_from_Decides (eqb e.id f.id) (Decides-eqb e.id f.id) (IsDistinct-head eqb e.id (map (λ g. g.id) (f ∷ fs)) apart).0 in
        elim (not_behind_from_cmp (standing_of now f) (standing_of now e) moved) [
          | inl greater ↦ inl greater
          | inr same ↦ inr (same.0, (let most = same.1 in omega (arith, most, ids)))
        ]
