-- What writes and cuts make of a file's bytes.
use Rattle.std.proofs.Common.{◌≡◌, ℕ, ◌+◌, ◌-◌, ◌≤◌, min, max, List, [], ◌++◌, length, take, drop, replicate, refl, sym, ap, ◌∙◌, subst, arith, length-append, length-drop, length-take, take-append-drop, append_assoc}
use Rattle.std.proofs.lemmas.List.{append-nil, take_at, drop_at, take_all, drop_all, take_min, drop-drop, length-replicate}
use Rattle.outside_traits.specs.Calls.{overlaid, Torn, Shortened}

-- a write at the end, or over all that stands from the place on
pub overlaid_behind : (xs old bytes : List ℕ) (at : ℕ) → length xs ≡ at → length old ≤ length bytes → overlaid (xs ++ old) at bytes ≡ xs ++ bytes
unfolding overlaid
overlaid_behind xs old bytes at place short =
    let no_gap : at - length (xs ++ old) ≡ 0 = omega (arith, length-append xs old) in
    let front : take at (xs ++ old) ≡ xs = take_at xs old at place in
    let none : drop (at + length bytes) (xs ++ old) ≡ [] = drop_all (at + length bytes) (xs ++ old) (omega (arith, length-append xs old)) in
    rw (front, no_gap, none) (append-nil ((xs ++ []) ++ bytes) ∙ ap (λ (l : List ℕ). l ++ bytes) (append-nil xs))

pub overlaid_end : (xs bytes : List ℕ) (at : ℕ) → length xs ≡ at → overlaid xs at bytes ≡ xs ++ bytes
overlaid_end xs bytes at place =
    subst (λ (l : List ℕ). overlaid l at bytes ≡ xs ++ bytes) (append-nil xs) (overlaid_behind xs [] bytes at place (omega arith))

-- a write over what stands from the place on, more or less than it has
pub overlaid_over : (xs old bytes : List ℕ) (at : ℕ) → length xs ≡ at → overlaid (xs ++ old) at bytes ≡ xs ++ (bytes ++ drop (length bytes) old)
unfolding overlaid
overlaid_over xs old bytes at place =
    let no_gap : at - length (xs ++ old) ≡ 0 = omega (arith, length-append xs old) in
    let front : take at (xs ++ old) ≡ xs = take_at xs old at place in
    let back : drop (at + length bytes) (xs ++ old) ≡ drop (length bytes) old =
    sym (drop-drop (length bytes) at (xs ++ old)) ∙ ap (λ (l : List ℕ). drop (length bytes) l) (drop_at xs old at place) in
    rw (front, no_gap, back) (ap (λ (l : List ℕ). (l ++ bytes) ++ drop (length bytes) old) (append-nil xs) ∙ append_assoc xs bytes (drop (length bytes) old))

-- a write over as many bytes as it has
pub overlaid_within : (xs old rest bytes : List ℕ) (at : ℕ) → length xs ≡ at → length old ≡ length bytes
    → overlaid (xs ++ (old ++ rest)) at bytes ≡ xs ++ (bytes ++ rest)
unfolding overlaid
overlaid_within xs old rest bytes at place same =
    let no_gap : at - length (xs ++ (old ++ rest)) ≡ 0 = omega (arith, length-append xs (old ++ rest)) in
    let front : take at (xs ++ (old ++ rest)) ≡ xs = take_at xs (old ++ rest) at place in
    let regroup : xs ++ (old ++ rest) ≡ (xs ++ old) ++ rest = sym (append_assoc xs old rest) in
    let back : drop (at + length bytes) (xs ++ (old ++ rest)) ≡ rest =
    ap (λ (l : List ℕ). drop (at + length bytes) l) regroup ∙ drop_at (xs ++ old) rest (at + length bytes) (omega (arith, length-append xs old)) in
    rw (front, no_gap, back) (ap (λ (l : List ℕ). (l ++ bytes) ++ rest) (append-nil xs) ∙ append_assoc xs bytes rest)

-- what a write of n bytes that was cut short leaves in front of it
pub torn_front : (xs old x : List ℕ) (at n : ℕ) → length xs ≡ at → Torn at n (xs ++ old) x → x ≡ xs ++ drop at x
torn_front xs old x at n place torn =
    let in_front : min at (length (xs ++ old)) ≡ at = omega (arith, length-append xs old) in
    let front : take at x ≡ xs = ap (λ (m : ℕ). take m x) (sym in_front) ∙ torn.before ∙ take_at xs old at place in
    sym (take-append-drop at x) ∙ ap (λ (l : List ℕ). l ++ drop at x) front

-- a write of n bytes over n bytes, cut short: n bytes stand there, and all others stay
pub torn_within : (xs old rest x : List ℕ) (at n : ℕ) → length xs ≡ at → length old ≡ n → Torn at n (xs ++ (old ++ rest)) x
    → (mid : List ℕ) × (length mid ≡ n) × (x ≡ xs ++ (mid ++ rest))
torn_within xs old rest x at n place same torn =
    let regroup : xs ++ (old ++ rest) ≡ (xs ++ old) ++ rest = sym (append_assoc xs old rest) in
    let back : drop (at + n) x ≡ rest =
    torn.after ∙ ap (λ (l : List ℕ). drop (at + n) l) regroup ∙ drop_at (xs ++ old) rest (at + n) (omega (arith, length-append xs old)) in
    let back_at : drop n (drop at x) ≡ rest = drop-drop n at x ∙ back in
    let whole : drop at x ≡ take n (drop at x) ++ rest =
    sym (take-append-drop n (drop at x)) ∙ ap (λ (l : List ℕ). take n (drop at x) ++ l) back_at in
    let long : length xs + (length old + length rest) ≤ length x =
    omega (arith, torn.no_shorter, length-append xs (old ++ rest), length-append old rest) in
    let count : length (take n (drop at x)) ≡ n = omega (arith, length-take n (drop at x), length-drop at x) in
    (take n (drop at x), count, torn_front xs (old ++ rest) x at n place torn ∙ ap (λ (l : List ℕ). xs ++ l) whole)

-- a write that changes nothing, and a cut that does, are steps too
pub torn_same : (xs : List ℕ) (at n : ℕ) → Torn at n xs xs
torn_same xs at n = record { before = take_min at xs; after = refl; no_shorter = omega arith; no_longer = omega arith }

pub shortened_same : (xs : List ℕ) (len : ℕ) → Shortened len xs xs
shortened_same xs len = record { front = take_min len xs; no_shorter = omega arith; no_longer = omega arith }

pub shortened_cut : (xs : List ℕ) (len : ℕ) → Shortened len xs (take len xs)
shortened_cut xs len = record {
  front = take_all (min len (length xs)) (take len xs) (omega (arith, length-take len xs));
  no_shorter = omega (arith, length-take len xs);
  no_longer = omega (arith, length-take len xs);
}

-- a finished write is a step
pub torn_done : (xs bytes : List ℕ) (at : ℕ) → Torn at (length bytes) xs (overlaid xs at bytes)
unfolding overlaid
torn_done xs bytes at =
    let gap : List ℕ = replicate (at - length xs) 0 in
    let back : List ℕ = drop (at + length bytes) xs in
    let size : length (take at xs ++ gap) ≡ at = omega (arith, length-append (take at xs) gap, length-take at xs, length-replicate {A = ℕ} (at - length xs) 0) in
    let front : take (min at (length xs)) (((take at xs ++ gap) ++ bytes) ++ back) ≡ take at xs =
    ap (λ (l : List ℕ). take (min at (length xs)) l) (append_assoc (take at xs ++ gap) bytes back ∙ append_assoc (take at xs) gap (bytes ++ back))
    ∙ take_at (take at xs) (gap ++ (bytes ++ back)) (min at (length xs)) (length-take at xs) in
    let whole : length (((take at xs ++ gap) ++ bytes) ++ back) ≡ (at + length bytes) + (length xs - (at + length bytes)) =
    omega (arith, length-append ((take at xs ++ gap) ++ bytes) back, length-append (take at xs ++ gap) bytes, size, length-drop (at + length bytes) xs) in
    record {
      before = front;
      after = drop_at ((take at xs ++ gap) ++ bytes) back (at + length bytes) (omega (arith, length-append (take at xs ++ gap) bytes, size));
      no_shorter = omega (arith, whole);
      no_longer = omega (arith, whole);
    }

-- how long a file is after a write
pub length-overlaid : (xs bytes : List ℕ) (at : ℕ) → length (overlaid xs at bytes) ≡ max (length xs) (at + length bytes)
unfolding overlaid
length-overlaid xs bytes at =
    let gap : List ℕ = replicate (at - length xs) 0 in
    let back : List ℕ = drop (at + length bytes) xs in
    let size : length (take at xs ++ gap) ≡ at = omega (arith, length-append (take at xs) gap, length-take at xs, length-replicate {A = ℕ} (at - length xs) 0) in
    omega (arith, length-append ((take at xs ++ gap) ++ bytes) back, length-append (take at xs ++ gap) bytes, size, length-drop (at + length bytes) xs)
