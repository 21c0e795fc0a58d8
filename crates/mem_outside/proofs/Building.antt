-- Lists built byte by byte.
use Rattle.std.proofs.Common.{◌≡◌, ℕ, zero, suc, ◌+◌, ◌-◌, ◌<◌, min, List, [], ◌∷◌, ◌++◌, Option, None, length, take, get_or, replicate, sym, ap, ◌∙◌, arith, length-append, length-take}
use Rattle.std.proofs.lemmas.Bool.Decides.{nat_tests}
use Rattle.std.proofs.lemmas.List.{take_more, length-replicate, replicate_more, append-nil, append_assoc, take_min}
use Rattle.mem_outside.specs.Outcomes.{freed, freed_byte}

freed_first : (at n : ℕ) (p : Option ℕ) → freed at n (p ∷ []) ≡ freed_byte at n 0 p ∷ []
freed_first zero zero p = grind (arith, nat_tests)
freed_first zero (suc n) p = grind (arith, nat_tests)
freed_first (suc at) n p = grind (arith, nat_tests)

byte_later : (n i : ℕ) (p : Option ℕ) → freed_byte 0 n i p ≡ freed_byte 0 (suc n) (suc i) p
byte_later n i p = grind (arith, nat_tests)

byte_further : (at n i : ℕ) (p : Option ℕ) → freed_byte at n i p ≡ freed_byte (suc at) n (suc i) p
byte_further at n i p = grind (arith, nat_tests)

byte_kept : (i : ℕ) (p : Option ℕ) → p ≡ freed_byte 0 0 i p
byte_kept i p = grind (arith, nat_tests)

freed_push : (at n : ℕ) (ps : List (Option ℕ)) (p : Option ℕ) → freed at n (ps ++ p ∷ []) ≡ freed at n ps ++ freed_byte at n (length ps) p ∷ []
freed_push at n [] p = freed_first at n p
freed_push zero zero (q ∷ ps) p = ap (λ (r : Option ℕ). q ∷ (ps ++ r ∷ [])) (byte_kept (length (q ∷ ps)) p)
freed_push zero (suc n) (q ∷ ps) p =
    ap (λ (l : List (Option ℕ)). None ∷ l) (freed_push zero n ps p) ∙ ap (λ (r : Option ℕ). None ∷ (freed zero n ps ++ r ∷ [])) (byte_later n (length ps) p)
freed_push (suc at) n (q ∷ ps) p =
    ap (λ (l : List (Option ℕ)). q ∷ l) (freed_push at n ps p) ∙ ap (λ (r : Option ℕ). q ∷ (freed at n ps ++ r ∷ [])) (byte_further at n (length ps) p)

-- one byte more
pub freed_more : (at n i : ℕ) (ps : List (Option ℕ)) (p : Option ℕ) → i < length ps → p ≡ get_or ps i p → freed at n (take (i + 1) ps) ≡ freed at n (take i ps) ++ freed_byte at n i p ∷ []
freed_more at n i ps p within is =
    let size : length (take i ps) ≡ i = omega (arith, length-take i ps, within) in
    ap (λ (l : List (Option ℕ)). freed at n l) (take_more ps i p within ∙ ap (λ (q : Option ℕ). take i ps ++ q ∷ []) (sym is))
    ∙ freed_push at n (take i ps) p
    ∙ ap (λ (m : ℕ). freed at n (take i ps) ++ freed_byte at n m p ∷ []) size

-- the gap before a write, one zero byte more
pub gap_start : (old : List ℕ) (at : ℕ) (out : List ℕ) → out ≡ take (min at (length old)) old → out ≡ take at old ++ replicate (length out - length old) 0
gap_start old at out is =
    let size : length out ≡ min at (length old) = ap length is ∙ (omega (arith, length-take (min at (length old)) old)) in
    let none : length out - length old ≡ 0 = omega (arith, size) in
    is ∙ take_min at old ∙ sym (append-nil (take at old)) ∙ ap (λ (m : ℕ). take at old ++ replicate m 0) (sym none)

pub gap_more : (old out next : List ℕ) (at : ℕ) → out ≡ take at old ++ replicate (length out - length old) 0 → length out < at → next ≡ out ++ 0 ∷ []
    → next ≡ take at old ++ replicate (length next - length old) 0
gap_more old out next at is less next_is =
    let size : length next ≡ length out + 1 = omega (arith, ap length next_is, length-append out (0 ∷ [])) in
    let count : length out ≡ min at (length old) + (length out - length old) =
    omega (arith, ap length is, length-append (take at old) (replicate (length out - length old) 0), length-take at old, length-replicate {A = ℕ} (length out - length old) 0) in
    let more : (length out - length old) + 1 ≡ length next - length old = omega (arith, size, count, less) in
    next_is ∙ ap (λ (l : List ℕ). l ++ 0 ∷ []) is
    ∙ append_assoc (take at old) (replicate (length out - length old) 0) (0 ∷ [])
    ∙ ap (λ (l : List ℕ). take at old ++ l) (replicate_more (length out - length old) 0)
    ∙ ap (λ (m : ℕ). take at old ++ replicate m 0) more
