-- A sum that is read is spelled so, and what is spelled so is read.
use Rattle.std.proofs.Common.{◌≡◌, ℕ, ℤ, pos, negsuc, suc, ◌-◌, ◌/◌, ◌%◌, ◌^◌, ◌<◌, ◌≤◌, Bool, true, false, cond, ltb, List, ◌++◌, Ok, refl, sym, ap, subst, ◌∙◌, arith}
use Rattle.std.specs.Prelude.{slice_index}
use Rattle.std.specs.Int.{w128, to_be_bytes, cast_signed, cast_unsigned}
use Rattle.std.proofs.lemmas.Bool.{lt-ltb, le-ltb}
use Rattle.std.proofs.lemmas.Int.{to_z_pos}
use mir.ValLaws.{to_z-neg}
use Rattle.byte_formats.specs.Format.{signed}
use Rattle.byte_formats.specs.Reading.{◌>>=◌, bounded_at}
use Rattle.row_blob.specs.Reading.{sum_at, sum_bound, sum_low, sum_high}
use Rattle.row_blob.specs.Kept.{IsSum}
use Rattle.byte_formats.proofs.Readers.{IsBytes, bind_ok, ok_is, HasFront, IsReader}
use Rattle.byte_formats.proofs.Fields.{IsBetween, bounded_reader}
use Rattle.byte_formats.proofs.Wide.{wide128}

positives : IsReader (bounded_at w128 0 sum_bound) (to_be_bytes w128) (IsBetween 0 (2 ^ 95))
unfolding sum_bound
positives = bounded_reader w128 (2 ^ 128) wide128 0 (2 ^ 95) (omega arith)

negatives : IsReader (bounded_at w128 sum_low sum_high) (to_be_bytes w128) (IsBetween (2 ^ 128 - 2 ^ 95) (2 ^ 128 - 1))
unfolding sum_low sum_high
negatives = bounded_reader w128 (2 ^ 128) wide128 (2 ^ 128 - 2 ^ 95) (2 ^ 128 - 1) (omega arith)

pub from_positive : (n : ℕ) → n ≤ 2 ^ 95 → IsSum (cast_signed w128 n) × (cast_unsigned w128 (cast_signed w128 n) ≡ n)
from_positive n le =
    subst (λ (z : ℤ). IsSum z × (cast_unsigned w128 z ≡ n)) (sym (to_z_pos w128 n (omega arith))) (le, refl)

pub from_negative : (n : ℕ) → IsBetween (2 ^ 128 - 2 ^ 95) (2 ^ 128 - 1) n → IsSum (cast_signed w128 n) × (cast_unsigned w128 (cast_signed w128 n) ≡ n)
from_negative n between =
    let k = 2 ^ 128 - 1 - n in
    let small : k < 2 ^ 95 = omega (arith, between.0, between.1) in
    let is : 2 ^ 128 - suc k ≡ n = omega (arith, between.0, between.1) in
    let z : cast_signed w128 n ≡ negsuc k = ap (λ (m : ℕ). cast_signed w128 m) (sym is) ∙ to_z-neg w128 k (omega arith) in
    subst (λ (z : ℤ). IsSum z × (cast_unsigned w128 z ≡ n)) (sym z) (small, is)

pub chosen : {A : Type 0} (b : Bool) (x y z : A) (P : Type 0) → cond b x y ≡ z → (x ≡ z → P) → (y ≡ z → P) → P
chosen true x y z P e f g = f e
chosen false x y z P e f g = g e

sum_takes : (bytes : List ℕ) (x : ℤ × List ℕ) → IsBytes bytes → sum_at bytes ≡ Ok x → HasFront (signed w128) IsSum bytes x
unfolding sum_at
sum_takes bytes x fits e =
    let b = bind_ok (cond (ltb (slice_index bytes 0) 128) (bounded_at w128 0 sum_bound bytes) (bounded_at w128 sum_low sum_high bytes)) (λ n. Ok (cast_signed w128 n.0, n.1)) x e in
    let n = b.0 in
    let made = λ (t : HasFront (to_be_bytes w128) (λ m. IsSum (cast_signed w128 m) × (cast_unsigned w128 (cast_signed w128 m) ≡ m)) bytes n).
    subst (λ y. HasFront (signed w128) IsSum bytes y) (ok_is (cast_signed w128 n.0, n.1) x b.2)
    (record { parts = t.parts ∙ ap (λ (m : ℕ). to_be_bytes w128 m ++ n.1) (sym t.fits.1); rest = t.rest; fits = t.fits.0 }) in
    chosen (ltb (slice_index bytes 0) 128) (bounded_at w128 0 sum_bound bytes) (bounded_at w128 sum_low sum_high bytes) (Ok n) (HasFront (signed w128) IsSum bytes x) b.1
    (λ h. let t = positives.takes bytes n fits h in made (record { parts = t.parts; rest = t.rest; fits = from_positive n.0 t.fits.1 }))
    (λ h. let t = negatives.takes bytes n fits h in made (record { parts = t.parts; rest = t.rest; fits = from_negative n.0 t.fits }))

-- the first byte tells the two ranges apart
pub first_of_positive : (n : ℕ) → n ≤ 2 ^ 95 → n / 256 ^ 15 % 256 < 128
first_of_positive n le = omega arith

pub first_of_negative : (n : ℕ) → 2 ^ 128 - 2 ^ 95 ≤ n → n < 2 ^ 128 → 128 ≤ n / 256 ^ 15 % 256
first_of_negative n low high = omega arith

sum_again : (s : ℤ) (rest : List ℕ) → IsSum s → sum_at (signed w128 s ++ rest) ≡ Ok (s, rest)
unfolding sum_at
sum_again (pos n) rest fits =
    let bytes = to_be_bytes w128 n ++ rest in
    ap (λ (b : Bool). cond b (bounded_at w128 0 sum_bound bytes) (bounded_at w128 sum_low sum_high bytes) >>= λ m. Ok (cast_signed w128 m.0, m.1)) (lt-ltb _ _ (first_of_positive n fits))
    ∙ ap (λ r. r >>= λ m. Ok (cast_signed w128 m.0, m.1)) (positives.again n rest (omega arith, fits))
    ∙ ap (λ (z : ℤ). Ok (z, rest)) (to_z_pos w128 n (omega arith))
sum_again (negsuc k) rest fits =
    let n = 2 ^ 128 - suc k in
    let bytes = to_be_bytes w128 n ++ rest in
    ap (λ (b : Bool). cond b (bounded_at w128 0 sum_bound bytes) (bounded_at w128 sum_low sum_high bytes) >>= λ m. Ok (cast_signed w128 m.0, m.1)) (le-ltb _ _ (first_of_negative n (omega arith) (omega arith)))
    ∙ ap (λ r. r >>= λ m. Ok (cast_signed w128 m.0, m.1)) (negatives.again n rest (omega arith, omega arith))
    ∙ ap (λ (z : ℤ). Ok (z, rest)) (to_z-neg w128 k (omega arith))

pub sum_reader : IsReader sum_at (signed w128) IsSum
sum_reader = record { takes = sum_takes; again = sum_again }
