-- What is read of a field is spelled so, and what is spelled so is read.
use Rattle.std.proofs.Common.{◌≡◌, ℕ, ◌^◌, ◌<◌, ◌≤◌, Bool, true, false, ◌||◌, cond, ltb, List, ◌++◌, length, take, drop, Ok, Err, refl, sym, ap, subst, ◌∙◌, arith}
use Rattle.std.specs.Int.{Width, w32, w64, byte_len, from_be_bytes, to_be_bytes}
use Rattle.std.proofs.lemmas.Bool.{ltb-false, le-ltb, or_parts}
use Rattle.std.proofs.lemmas.List.{take_at, drop_at, take-append-drop, length-append, length-take}
use Rattle.std.proofs.lemmas.Nat.{be_bytes_4, be_bytes_8, from_be_bytes-to_be_bytes_4, from_be_bytes-to_be_bytes_8}
use Rattle.byte_formats.specs.Reading.{number_at, bounded_at, left_between}
use Rattle.byte_formats.proofs.Readers.{IsBytes, IsBytes-drop, IsBytes-take, guard_ok, ok_is, HasFront, IsReader}

pub record IsWide (w : Width) (limit : ℕ) : Type 0 where
  pub len : (n : ℕ) → length (to_be_bytes w n) ≡ byte_len w
  pub back : (bytes : List ℕ) → length bytes ≡ byte_len w → IsBytes bytes → to_be_bytes w (from_be_bytes w bytes) ≡ bytes
  pub again : (n : ℕ) → n < limit → from_be_bytes w (to_be_bytes w n) ≡ n
  pub below : (bytes : List ℕ) → IsBytes bytes → from_be_bytes w bytes < limit

pub wide32 : IsWide w32 (2 ^ 32)
wide32 = record {
  len = λ n. refl;
  back = λ bytes len fits. be_bytes_4 bytes _ len fits refl;
  again = λ n lt. from_be_bytes-to_be_bytes_4 n lt;
  below = λ bytes fits. omega (arith, fits 0, fits 1, fits 2, fits 3);
}

pub wide64 : IsWide w64 (2 ^ 64)
wide64 = record {
  len = λ n. refl;
  back = λ bytes len fits. be_bytes_8 bytes _ len fits refl;
  again = λ n lt. from_be_bytes-to_be_bytes_8 n lt;
  below = λ bytes fits. omega (arith, fits 0, fits 1, fits 2, fits 3, fits 4, fits 5, fits 6, fits 7);
}

number_takes : (w : Width) (limit : ℕ) (wide : IsWide w limit) (bytes : List ℕ) (x : ℕ × List ℕ) → IsBytes bytes → number_at w bytes ≡ Ok x → HasFront (to_be_bytes w) (λ n. n < limit) bytes x
number_takes w limit wide bytes x fits e =
    let g = guard_ok (ltb (length bytes) (byte_len w)) 0 (Ok (from_be_bytes w (take (byte_len w) bytes), drop (byte_len w) bytes)) x e in
    let long : byte_len w ≤ length bytes = ltb-false _ _ g.0 in
    let front : to_be_bytes w (from_be_bytes w (take (byte_len w) bytes)) ≡ take (byte_len w) bytes = wide.back (take (byte_len w) bytes) (omega (arith, length-take (byte_len w) bytes)) (IsBytes-take (byte_len w) bytes fits) in
    subst (λ y. HasFront (to_be_bytes w) (λ n. n < limit) bytes y) (ok_is (from_be_bytes w (take (byte_len w) bytes), drop (byte_len w) bytes) x g.1)
    (record { parts = sym (ap (λ (l : List ℕ). l ++ drop (byte_len w) bytes) front ∙ take-append-drop (byte_len w) bytes); rest = IsBytes-drop (byte_len w) bytes fits; fits = wide.below (take (byte_len w) bytes) (IsBytes-take (byte_len w) bytes fits) })

number_again : (w : Width) (limit : ℕ) (wide : IsWide w limit) (n : ℕ) (rest : List ℕ) → n < limit → number_at w (to_be_bytes w n ++ rest) ≡ Ok (n, rest)
number_again w limit wide n rest lt =
    let len = wide.len n in
    let long : ltb (length (to_be_bytes w n ++ rest)) (byte_len w) ≡ false = le-ltb _ _ (omega (arith, length-append (to_be_bytes w n) rest)) in
    rw (long, take_at (to_be_bytes w n) rest (byte_len w) len, drop_at (to_be_bytes w n) rest (byte_len w) len, wide.again n lt) refl

pub number_reader : (w : Width) (limit : ℕ) → IsWide w limit → IsReader (number_at w) (to_be_bytes w) (λ n. n < limit)
number_reader w limit wide = record { takes = number_takes w limit wide; again = number_again w limit wide }

-- ---- numbers of a range

abbrev pub IsBetween : ℕ → ℕ → ℕ → Type 0
IsBetween low high n = (low ≤ n) × (n ≤ high)

bounded_takes : (w : Width) (limit : ℕ) (wide : IsWide w limit) (low high : ℕ) (bytes : List ℕ) (x : ℕ × List ℕ) → IsBytes bytes → bounded_at w low high bytes ≡ Ok x → HasFront (to_be_bytes w) (IsBetween low high) bytes x
unfolding bounded_at
bounded_takes w limit wide low high bytes x fits e =
    let left = left_between (to_be_bytes w low) (to_be_bytes w high) bytes true true in
    let n = from_be_bytes w (take (byte_len w) bytes) in
    let g = guard_ok (ltb (length bytes) (byte_len w)) left (cond (ltb n low || ltb high n) (Err left) (Ok (n, drop (byte_len w) bytes))) x e in
    let f = guard_ok (ltb n low || ltb high n) left (Ok (n, drop (byte_len w) bytes)) x g.1 in
    let bounds = or_parts (ltb n low) (ltb high n) f.0 in
    let at_least : low ≤ n = ltb-false _ _ bounds.0 in
    let at_most : n ≤ high = ltb-false _ _ bounds.1 in
    let plain : number_at w bytes ≡ Ok x = ap (λ (b : Bool). cond b (Err 0) (Ok (n, drop (byte_len w) bytes))) g.0 ∙ f.1 in
    let t = number_takes w limit wide bytes x fits plain in
    let is : n ≡ x.0 = ap (λ (y : ℕ × List ℕ). y.0) (ok_is (n, drop (byte_len w) bytes) x f.1) in
    record { parts = t.parts; rest = t.rest; fits = (omega arith, omega arith) }

bounded_again : (w : Width) (limit : ℕ) (wide : IsWide w limit) (low high : ℕ) → high < limit → (n : ℕ) (rest : List ℕ) → IsBetween low high n → bounded_at w low high (to_be_bytes w n ++ rest) ≡ Ok (n, rest)
unfolding bounded_at
bounded_again w limit wide low high small n rest between =
    let len = wide.len n in
    let long : ltb (length (to_be_bytes w n ++ rest)) (byte_len w) ≡ false = le-ltb _ _ (omega (arith, length-append (to_be_bytes w n) rest)) in
    let least : ltb n low ≡ false = le-ltb _ _ between.0 in
    let greatest : ltb high n ≡ false = le-ltb _ _ between.1 in
    rw (long, take_at (to_be_bytes w n) rest (byte_len w) len, drop_at (to_be_bytes w n) rest (byte_len w) len, wide.again n (omega (arith, between.1))) (rw (least, greatest) refl)

pub bounded_reader : (w : Width) (limit : ℕ) → IsWide w limit → (low high : ℕ) → high < limit → IsReader (bounded_at w low high) (to_be_bytes w) (IsBetween low high)
bounded_reader w limit wide low high small = record { takes = bounded_takes w limit wide low high; again = bounded_again w limit wide low high small }
