-- Numbers of 16 bytes, as bytes and back.
use Rattle.std.proofs.Common.{◌≡◌, ℕ, zero, suc, ◌+◌, ◌*◌, ◌/◌, ◌%◌, ◌^◌, ◌<◌, List, [], ◌∷◌, length, refl, sym, ap, subst, ◌∙◌, arith}
use Rattle.std.specs.Int.{w128, byte_at, bytes_high_first, from_be_bytes, to_be_bytes}
use Rattle.std.proofs.lemmas.List.{append-nil}
use Rattle.std.proofs.lemmas.Nat.{div-mul-add}
use Rattle.std.proofs.Math.Nat.{one-le-pow, pow-suc}
use Rattle.byteorder.specs.Endian.{big_from}
use Rattle.byteorder.specs.Numbers.{big_from-cons, big_from-lt, big_number-reads_back}
use Rattle.byte_formats.proofs.Readers.{IsBytes}
use Rattle.byte_formats.proofs.Fields.{IsWide}

-- what stands above a byte doesn't change it
quotient : (a q p r n : ℕ) → r < p → n ≡ (a * 256 + q) * p + r → n / p % 256 ≡ q % 256
quotient a q p r n below is =
    let e : n / p ≡ a * 256 + q = ap (λ (m : ℕ). m / p) is ∙ div-mul-add (a * 256 + q) p r below in
    ap (λ (m : ℕ). m % 256) e ∙ omega arith

shifted : (a p m : ℕ) → 0 < p → (a * 256 * p + m) / p % 256 ≡ m / p % 256
shifted a p m positive =
    let whole : p * (m / p) + m % p ≡ m = omega arith in
    let below : m % p < p = omega arith in
    quotient a (m / p) p (m % p) (a * 256 * p + m) below (omega (arith, whole))

byte_at-above : (k a m : ℕ) → byte_at k (a * 256 * 256 ^ k + m) ≡ byte_at k m
byte_at-above zero a m = omega arith
byte_at-above (suc k) a m = shifted a (256 ^ suc k) m (omega (arith, one-le-pow (suc k) 256 (omega arith)))

high_first-above : (k a m : ℕ) → bytes_high_first k (a * 256 ^ k + m) ≡ bytes_high_first k m
high_first-above zero a m = refl
high_first-above (suc k) a m =
    let regrouped : a * 256 ^ suc k + m ≡ a * 256 * 256 ^ k + m = omega (arith, ap (λ (p : ℕ). a * p) (pow-suc 256 k)) in
    ap (λ (n : ℕ). byte_at k n ∷ bytes_high_first k n) regrouped
    ∙ ap (λ (b : ℕ). b ∷ bytes_high_first k (a * 256 * 256 ^ k + m)) (byte_at-above k a m)
    ∙ ap (λ (l : List ℕ). byte_at k m ∷ l) (high_first-above k (a * 256) m)

byte_at-top : (k x r : ℕ) → x < 256 → r < 256 ^ k → byte_at k (x * 256 ^ k + r) ≡ x
byte_at-top zero x r small below = omega arith
byte_at-top (suc k) x r small below =
    ap (λ (m : ℕ). m % 256) (div-mul-add x (256 ^ suc k) r below) ∙ omega arith

high_first-back : (xs : List ℕ) → IsBytes xs → bytes_high_first (length xs) (big_from 0 (length xs) xs) ≡ xs
high_first-back [] fits = refl
high_first-back (x ∷ xs) fits =
    let n = length xs in
    let r = big_from 0 n xs in
    let others : IsBytes xs = λ i. fits (suc i) in
    let below : r < 256 ^ n = big_from-lt 0 n xs others in
    let is : big_from 0 (suc n) (x ∷ xs) ≡ x * 256 ^ n + r = ap (λ (m : ℕ). x * 256 ^ n + m) (big_from-cons 0 n x xs) in
    ap (λ (m : ℕ). byte_at n m ∷ bytes_high_first n m) is
    ∙ ap (λ (b : ℕ). b ∷ bytes_high_first n (x * 256 ^ n + r)) (byte_at-top n x r (fits 0) below)
    ∙ ap (λ (l : List ℕ). x ∷ l) (high_first-above n x r ∙ high_first-back xs others)

from_is_big : (bytes : List ℕ) → from_be_bytes w128 bytes ≡ big_from 0 16 bytes
from_is_big bytes = omega arith

pub wide128 : IsWide w128 (2 ^ 128)
wide128 = record {
  len = λ n. refl;
  back = λ bytes len fits.
      ap (λ (n : ℕ). bytes_high_first 16 n) (from_is_big bytes)
      ∙ subst (λ (k : ℕ). bytes_high_first k (big_from 0 k bytes) ≡ bytes) len (high_first-back bytes fits);
  again = λ n lt. from_is_big (to_be_bytes w128 n) ∙ ap (λ (l : List ℕ). big_from 0 16 l) (sym (append-nil (to_be_bytes w128 n))) ∙ big_number-reads_back 16 n [] lt;
  below = λ bytes fits. subst (λ (n : ℕ). n < 2 ^ 128) (sym (from_is_big bytes)) (big_from-lt 0 16 bytes fits);
}
