-- That standings are in a total order, where no divisor is 0.
use Rattle.std.proofs.Common.{◌≡◌, refl, sym, ℕ, ◌*◌, ◌<◌, ◌≤◌, ◌⊎◌, inl, inr, Bool, true, false, arith}
use Rattle.std.specs.Ordering.{MatchOrdering, ordering_then, nat_cmp, is_lt}
use Rattle.std.specs.declared.cmp.Ordering.{Ordering}
use Rattle.std.specs.declared.cmp.Ordering.TheVariants.{Less, Equal, Greater}
use Rattle.std.specs.Cmp.{IsStrictWeakOrder}
use Rattle.std.proofs.Math.Nat.{mul-le-mul_left, le_of_mul-le-mul_left, mul-lt-mul_of_pos_left, lt_of_mul-lt-mul_left}
use Rattle.std.proofs.lemmas.Cmp.{ranked}
use Rattle.collector.specs.Standing.{Standing, standing_cmp}
use Rattle.collector.specs.Candidates.{standing}
use Rattle.collector.specs.declared.candidate.Candidate.{Candidate}

-- ---- products crosswise

cross_le : (a p b q c r : ℕ) → 0 < q → b * p ≤ a * q → c * q ≤ b * r → c * p ≤ a * r
cross_le a p b q c r pos h k =
    let x : r * (b * p) ≤ r * (a * q) = mul-le-mul_left r h in
    let y : p * (c * q) ≤ p * (b * r) = mul-le-mul_left p k in
    let both : q * (c * p) ≤ q * (a * r) = omega (arith, x, y) in
    le_of_mul-le-mul_left both pos

cross_lt_first : (a p b q c r : ℕ) → 0 < r → b * p < a * q → c * q ≤ b * r → c * p < a * r
cross_lt_first a p b q c r pos h k =
    let x : r * (b * p) < r * (a * q) = mul-lt-mul_of_pos_left h pos in
    let y : p * (c * q) ≤ p * (b * r) = mul-le-mul_left p k in
    let both : q * (c * p) < q * (a * r) = omega (arith, x, y) in
    lt_of_mul-lt-mul_left q both

cross_lt_second : (a p b q c r : ℕ) → 0 < p → b * p ≤ a * q → c * q < b * r → c * p < a * r
cross_lt_second a p b q c r pos h k =
    let x : r * (b * p) ≤ r * (a * q) = mul-le-mul_left r h in
    let y : p * (c * q) < p * (b * r) = mul-lt-mul_of_pos_left k pos in
    let both : q * (c * p) < q * (a * r) = omega (arith, x, y) in
    lt_of_mul-lt-mul_left q both

cross_same : (a p b q c r : ℕ) → 0 < q → b * p ≡ a * q → c * q ≡ b * r → c * p ≡ a * r
cross_same a p b q c r pos h k =
    let up : c * p ≤ a * r = cross_le a p b q c r pos (omega (arith, h)) (omega (arith, k)) in
    let down : a * r ≤ c * p = cross_le c r b q a p pos (omega (arith, k)) (omega (arith, h)) in
    omega (arith, up, down)

-- ---- the order

abbrev pub Before : Standing → Standing → Type 0
Before s t = (t.idle_bytes * s.used_time < s.idle_bytes * t.used_time) ⊎ ((t.idle_bytes * s.used_time ≡ s.idle_bytes * t.used_time) × (s.id < t.id))

abbrev pub NotBehind : Standing → Standing → Type 0
NotBehind s t = (t.idle_bytes * s.used_time < s.idle_bytes * t.used_time) ⊎ ((t.idle_bytes * s.used_time ≡ s.idle_bytes * t.used_time) × (s.id ≤ t.id))

abbrev pub Ties : Standing → Standing → Type 0
Ties s t = (t.idle_bytes * s.used_time ≡ s.idle_bytes * t.used_time) × (s.id ≡ t.id)

pub before_itself : (s : Standing) → Before s s → ⊥
before_itself s (inl h) = omega (arith, h)
before_itself s (inr h) = omega (arith, h.1)

pub before_further : (s t w : Standing) → 0 < s.used_time → 0 < t.used_time → 0 < w.used_time → Before s t → Before t w → Before s w
before_further s t w p q r (inl h) (inl k) = inl (cross_lt_first s.idle_bytes s.used_time t.idle_bytes t.used_time w.idle_bytes w.used_time r h (omega (arith, k)))
before_further s t w p q r (inl h) (inr k) = inl (cross_lt_first s.idle_bytes s.used_time t.idle_bytes t.used_time w.idle_bytes w.used_time r h (omega (arith, k.0)))
before_further s t w p q r (inr h) (inl k) = inl (cross_lt_second s.idle_bytes s.used_time t.idle_bytes t.used_time w.idle_bytes w.used_time p (omega (arith, h.0)) k)
before_further s t w p q r (inr h) (inr k) =
    inr (cross_same s.idle_bytes s.used_time t.idle_bytes t.used_time w.idle_bytes w.used_time q h.0 k.0, omega (arith, h.1, k.1))

pub not_behind_further : (s t w : Standing) → 0 < s.used_time → 0 < t.used_time → 0 < w.used_time → NotBehind s t → NotBehind t w → NotBehind s w
not_behind_further s t w p q r (inl h) (inl k) = inl (cross_lt_first s.idle_bytes s.used_time t.idle_bytes t.used_time w.idle_bytes w.used_time r h (omega (arith, k)))
not_behind_further s t w p q r (inl h) (inr k) = inl (cross_lt_first s.idle_bytes s.used_time t.idle_bytes t.used_time w.idle_bytes w.used_time r h (omega (arith, k.0)))
not_behind_further s t w p q r (inr h) (inl k) = inl (cross_lt_second s.idle_bytes s.used_time t.idle_bytes t.used_time w.idle_bytes w.used_time p (omega (arith, h.0)) k)
not_behind_further s t w p q r (inr h) (inr k) =
    inr (cross_same s.idle_bytes s.used_time t.idle_bytes t.used_time w.idle_bytes w.used_time q h.0 k.0, omega (arith, h.1, k.1))

-- ---- what the comparison says

two_cmp : (x y i j : ℕ) → MatchOrdering (ordering_then (nat_cmp x y) (nat_cmp i j)) ((x < y) ⊎ ((x ≡ y) × (i < j))) ((x ≡ y) × (i ≡ j)) ((y < x) ⊎ ((y ≡ x) × (j < i)))
two_cmp x y i j = by (nat_cmp x y) (ranked x y (nat_cmp x y) refl) (nat_cmp i j) (ranked i j (nat_cmp i j) refl)
  where
    by : (r : Ordering) → MatchOrdering r (x < y) (x ≡ y) (y < x) → (o : Ordering) → MatchOrdering o (i < j) (i ≡ j) (j < i)
        → MatchOrdering (ordering_then r o) ((x < y) ⊎ ((x ≡ y) × (i < j))) ((x ≡ y) × (i ≡ j)) ((y < x) ⊎ ((y ≡ x) × (j < i)))
    by Less h o k = inl h
    by Greater h o k = inl h
    by Equal h Less k = inr (h, k)
    by Equal h Equal k = (h, k)
    by Equal h Greater k = inr (sym h, k)

pub cmp_says : (s t : Standing) → MatchOrdering (standing_cmp s t) (Before s t) (Ties s t) (Before t s)
cmp_says s t = two_cmp (t.idle_bytes * s.used_time) (s.idle_bytes * t.used_time) s.id t.id

weaker : (s t : Standing) → Before s t → NotBehind s t
weaker s t (inl h) = inl h
weaker s t (inr h) = inr (h.0, omega (arith, h.1))

one_way : (s t : Standing) → Before s t → NotBehind t s → ⊥
one_way s t (inl h) (inl k) = omega (arith, h, k)
one_way s t (inl h) (inr k) = omega (arith, h, k.0)
one_way s t (inr h) (inl k) = omega (arith, h.0, k)
one_way s t (inr h) (inr k) = omega (arith, h.1, k.1)

pub not_behind_from_cmp : (s t : Standing) → is_lt (standing_cmp s t) ≡ false → NotBehind t s
not_behind_from_cmp s t = by (standing_cmp s t) (cmp_says s t)
  where
    by : (r : Ordering) → MatchOrdering r (Before s t) (Ties s t) (Before t s) → is_lt r ≡ false → NotBehind t s
    by Less h e = absurd (cc)
    by Equal h e = inr (sym h.0, omega (arith, h.1))
    by Greater h e = weaker t s h

cmp_from_not_behind : (s t : Standing) → NotBehind t s → is_lt (standing_cmp s t) ≡ false
cmp_from_not_behind s t not = by (standing_cmp s t) (cmp_says s t)
  where
    by : (r : Ordering) → MatchOrdering r (Before s t) (Ties s t) (Before t s) → is_lt r ≡ false
    by Less h = absurd (one_way s t h not)
    by Equal h = refl
    by Greater h = refl

before_from_cmp : (s t : Standing) → is_lt (standing_cmp s t) ≡ true → Before s t
before_from_cmp s t = by (standing_cmp s t) (cmp_says s t)
  where
    by : (r : Ordering) → MatchOrdering r (Before s t) (Ties s t) (Before t s) → is_lt r ≡ true → Before s t
    by Less h e = h
    by Equal h e = absurd (cc)
    by Greater h e = absurd (cc)

abbrev pub comes_first : Candidate → Candidate → Bool
comes_first c d = is_lt (standing_cmp (standing c) (standing d))

pub candidates_rank : IsStrictWeakOrder comes_first
candidates_rank = record {
  one_way = λ c d is. cmp_from_not_behind (standing d) (standing c) (weaker (standing c) (standing d) (before_from_cmp (standing c) (standing d) is));
  chain = λ c d e first second. cmp_from_not_behind (standing c) (standing e)
      (not_behind_further (standing e) (standing d) (standing c) e.positive d.positive c.positive (not_behind_from_cmp (standing d) (standing e) second) (not_behind_from_cmp (standing c) (standing d) first));
}
