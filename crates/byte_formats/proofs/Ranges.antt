-- Where a number of a range stops.
use Rattle.std.proofs.Common.{◌≡◌, ℕ, zero, suc, ◌+◌, ◌-◌, ◌*◌, ◌/◌, ◌%◌, ◌^◌, ◌<◌, ◌≤◌, ◌⊎◌, Bool, true, false, ◌||◌, ◌&&◌, cond, ltb, eqb, List, [], ◌∷◌, ◌++◌, length, take, drop, Result, Ok, Err, refl, sym, ap, subst, ◌∙◌, arith, inl, inr}
use Rattle.std.specs.Int.{Width, w32, w64, w128, byte_len, byte_at, bytes_high_first, from_be_bytes, to_be_bytes}
use Rattle.std.proofs.lemmas.Bool.{ltb-true, ltb-false, eqb-true, eq-eqb, cases_lt, cases_Bool, or_parts, or_cases, and_parts, and_from, cond_both}
use Rattle.std.proofs.lemmas.List.{take-append-drop, length-take}
use Rattle.std.proofs.Math.Nat.{mul-le-mul_right}
use Rattle.byteorder.specs.Endian.{big_from}
use Rattle.byteorder.specs.Numbers.{big_from-cons, big_from-lt}
use Rattle.byte_formats.specs.Reading.{number_at, bounded_at, left_between}
use Rattle.byte_formats.proofs.Readers.{IsBytes, IsBytes-take}
use Rattle.byte_formats.proofs.Fields.{IsWide, IsBetween}
use Rattle.byte_formats.proofs.Same.{Same}
use Rattle.byte_formats.proofs.Stopping.{GoesTo, IsExact}

-- the number that the bytes spell
abbrev value : List ℕ → ℕ
value xs = big_from 0 (length xs) xs

value_cons : (x : ℕ) (xs : List ℕ) → value (x ∷ xs) ≡ x * 256 ^ length xs + value xs
value_cons x xs = ap (λ (m : ℕ). x * 256 ^ length xs + m) (big_from-cons 0 (length xs) x xs)

value_below : (xs : List ℕ) → IsBytes xs → value xs < 256 ^ length xs
value_below xs fits = big_from-lt 0 (length xs) xs fits

rest_bytes : (x : ℕ) (xs : List ℕ) → IsBytes (x ∷ xs) → IsBytes xs
rest_bytes x xs fits = λ i. fits (suc i)

-- a lesser first byte makes a lesser number
less : (x y : ℕ) (xs ys : List ℕ) → length xs ≡ length ys → IsBytes xs → x < y → value (x ∷ xs) < value (y ∷ ys)
less x y xs ys len fits lt =
    let p = 256 ^ length ys in
    let a : value (x ∷ xs) ≡ x * p + value xs = value_cons x xs ∙ ap (λ (n : ℕ). x * 256 ^ n + value xs) len in
    let b : value (y ∷ ys) ≡ y * p + value ys = value_cons y ys in
    let below : value xs < p = subst (λ (n : ℕ). value xs < 256 ^ n) len (value_below xs fits) in
    let step : suc x * p ≤ y * p = mul-le-mul_right p (omega arith) in
    let split : suc x * p ≡ x * p + p = omega arith in
    omega (arith, a, b, below, step, split)

-- after the same first byte the others decide
same_first : (x : ℕ) (xs ys : List ℕ) → length xs ≡ length ys → (value (x ∷ xs) < value (x ∷ ys) → value xs < value ys) × (value xs < value ys → value (x ∷ xs) < value (x ∷ ys))
same_first x xs ys len =
    let a : value (x ∷ xs) ≡ x * 256 ^ length ys + value xs = value_cons x xs ∙ ap (λ (n : ℕ). x * 256 ^ n + value xs) len in
    let b : value (x ∷ ys) ≡ x * 256 ^ length ys + value ys = value_cons x ys in
    (λ h. omega (arith, a, b, h), λ h. omega (arith, a, b, h))

no_greater : (x y : ℕ) (xs ys : List ℕ) → length xs ≡ length ys → IsBytes xs → x ≤ y → (x ≡ y → value xs ≤ value ys) → value (x ∷ xs) ≤ value (y ∷ ys)
no_greater x y xs ys len fits le rest = elim (cases_lt x y) [
  | inl lt ↦ let h = less x y xs ys len fits lt in omega arith
  | inr ge ↦
      let same : x ≡ y = omega arith in
      let a : value (x ∷ xs) ≡ x * 256 ^ length ys + value xs = value_cons x xs ∙ ap (λ (n : ℕ). x * 256 ^ n + value xs) len in
      let b : value (y ∷ ys) ≡ x * 256 ^ length ys + value ys = value_cons y ys ∙ ap (λ (m : ℕ). m * 256 ^ length ys + value ys) (sym same) in
      omega (arith, a, b, rest same)
]

no_less : (x y : ℕ) (xs ys : List ℕ) → length xs ≡ length ys → x ≡ y → value (x ∷ xs) ≤ value (y ∷ ys) → value xs ≤ value ys
no_less x y xs ys len same le =
    let a : value (x ∷ xs) ≡ x * 256 ^ length ys + value xs = value_cons x xs ∙ ap (λ (n : ℕ). x * 256 ^ n + value xs) len in
    let b : value (y ∷ ys) ≡ x * 256 ^ length ys + value ys = value_cons y ys ∙ ap (λ (m : ℕ). m * 256 ^ length ys + value ys) (sym same) in
    omega (arith, a, b, le)

less_behind : (x y : ℕ) (xs ys : List ℕ) → length xs ≡ length ys → x ≡ y → value xs < value ys → value (x ∷ xs) < value (y ∷ ys)
less_behind x y xs ys len same lt =
    let a : value (x ∷ xs) ≡ x * 256 ^ length ys + value xs = value_cons x xs ∙ ap (λ (n : ℕ). x * 256 ^ n + value xs) len in
    let b : value (y ∷ ys) ≡ x * 256 ^ length ys + value ys = value_cons y ys ∙ ap (λ (m : ℕ). m * 256 ^ length ys + value ys) (sym same) in
    omega (arith, a, b, lt)

bytes_cons : (x : ℕ) (xs : List ℕ) → x < 256 → IsBytes xs → IsBytes (x ∷ xs)
bytes_cons x xs lt fits zero = lt
bytes_cons x xs lt fits (suc i) = fits i

byte_below : (k n : ℕ) → byte_at k n < 256
byte_below zero n = omega arith
byte_below (suc k) n = let m = n / 256 ^ suc k in let h : m % 256 < 256 = omega arith in h

spelled_bytes : (k n : ℕ) → IsBytes (bytes_high_first k n)
spelled_bytes zero n = λ i. omega arith
spelled_bytes (suc k) n = bytes_cons (byte_at k n) (bytes_high_first k n) (byte_below k n) (spelled_bytes k n)

-- ---- the test at a byte

abbrev leaves : Bool → Bool → ℕ → ℕ → ℕ → Bool
leaves al ah l h b = (al && ltb b l) || (ah && ltb h b)

stays : (al ah : Bool) (l h b : ℕ) → leaves al ah l h b ≡ false → (al ≡ true → l ≤ b) × (ah ≡ true → b ≤ h)
stays al ah l h b e =
    let p = or_parts (al && ltb b l) (ah && ltb h b) e in
    (λ t. ltb-false b l (subst (λ (a : Bool). (a && ltb b l) ≡ false) t p.0), λ t. ltb-false h b (subst (λ (a : Bool). (a && ltb h b) ≡ false) t p.1))

left_by : (al ah : Bool) (l h b : ℕ) → leaves al ah l h b ≡ true → ((al ≡ true) × (b < l)) ⊎ ((ah ≡ true) × (h < b))
left_by al ah l h b e = elim (or_cases (al && ltb b l) (ah && ltb h b) e) [
  | inl p ↦ let q = and_parts al (ltb b l) p in inl (q.0, ltb-true b l q.1)
  | inr p ↦ let q = and_parts ah (ltb h b) p in inr (q.0, ltb-true h b q.1)
]

-- what is left after a byte that stays
abbrev behind : ℕ → List ℕ → ℕ → List ℕ → ℕ → List ℕ → Bool → Bool → ℕ
behind l ls h hs b bs al ah = left_between ls hs bs (al && eqb b l) (ah && eqb b h)

stayed : (l h b : ℕ) (ls hs bs : List ℕ) (al ah : Bool) → leaves al ah l h b ≡ false → left_between (l ∷ ls) (h ∷ hs) (b ∷ bs) al ah ≡ behind l ls h hs b bs al ah
stayed l h b ls hs bs al ah e = ap (λ (t : Bool). cond t (suc (length bs)) (behind l ls h hs b bs al ah)) e

left_there : (l h b : ℕ) (ls hs bs : List ℕ) (al ah : Bool) → leaves al ah l h b ≡ true → left_between (l ∷ ls) (h ∷ hs) (b ∷ bs) al ah ≡ suc (length bs)
left_there l h b ls hs bs al ah e = ap (λ (t : Bool). cond t (suc (length bs)) (behind l ls h hs b bs al ah)) e

-- ---- a number whose bytes all stay is in the range, and one that leaves it is not

between_in : (ls hs xs rest : List ℕ) (al ah : Bool) → length hs ≡ length ls → length xs ≡ length ls → IsBytes ls → IsBytes xs → left_between ls hs (xs ++ rest) al ah ≡ 0
    → (al ≡ true → value ls ≤ value xs) × (ah ≡ true → value xs ≤ value hs)
between_in [] [] [] rest al ah p q f g e = (λ t. omega arith, λ t. omega arith)
between_in [] (h ∷ hs) xs rest al ah p q f g e = absurd (omega arith)
between_in [] [] (x ∷ xs) rest al ah p q f g e = absurd (omega arith)
between_in (l ∷ ls) [] xs rest al ah p q f g e = absurd (omega arith)
between_in (l ∷ ls) (h ∷ hs) [] rest al ah p q f g e = absurd (omega arith)
between_in (l ∷ ls) (h ∷ hs) (x ∷ xs) rest al ah p q f g e = elim (cases_Bool (leaves al ah l h x)) [
  | inl t ↦ absurd (let clash = left_there l h x ls hs (xs ++ rest) al ah t in omega arith)
  | inr t ↦
      let s = stays al ah l h x t in
      let a : length hs ≡ length ls = omega arith in
      let b : length xs ≡ length ls = omega arith in
      let c : length ls ≡ length xs = omega arith in
      let d : length xs ≡ length hs = omega arith in
      let ih = between_in ls hs xs rest (al && eqb x l) (ah && eqb x h) a b (rest_bytes l ls f) (rest_bytes x xs g) (sym (stayed l h x ls hs (xs ++ rest) al ah t) ∙ e) in (
        λ u. no_greater l x ls xs c (rest_bytes l ls f) (s.0 u) (λ same. ih.0 (and_from al (eqb x l) u (eq-eqb x l (sym same)))),
        λ u. no_greater x h xs hs d (rest_bytes x xs g) (s.1 u) (λ same. ih.1 (and_from ah (eqb x h) u (eq-eqb x h same))),
      )
]

between_out : (ls hs xs rest : List ℕ) (al ah : Bool) (m : ℕ) → length hs ≡ length ls → length xs ≡ length ls → IsBytes xs → IsBytes hs → left_between ls hs (xs ++ rest) al ah ≡ suc m
    → ((al ≡ true) × (value xs < value ls)) ⊎ ((ah ≡ true) × (value hs < value xs))
between_out [] hs xs rest al ah m p q f g e = absurd (omega arith)
between_out (l ∷ ls) [] xs rest al ah m p q f g e = absurd (omega arith)
between_out (l ∷ ls) (h ∷ hs) [] rest al ah m p q f g e = absurd (omega arith)
between_out (l ∷ ls) (h ∷ hs) (x ∷ xs) rest al ah m p q f g e =
    let a : length hs ≡ length ls = omega arith in
    let b : length xs ≡ length ls = omega arith in
    let c : length hs ≡ length xs = omega arith in
    elim (cases_Bool (leaves al ah l h x)) [
      | inl t ↦ elim (left_by al ah l h x t) [
        | inl u ↦ inl (u.0, less x l xs ls b (rest_bytes x xs f) u.1)
        | inr u ↦ inr (u.0, less h x hs xs c (rest_bytes h hs g) u.1)
      ]
      | inr t ↦
          elim (between_out ls hs xs rest (al && eqb x l) (ah && eqb x h) m a b (rest_bytes x xs f) (rest_bytes h hs g) (sym (stayed l h x ls hs (xs ++ rest) al ah t) ∙ e)) [
            | inl u ↦ let v = and_parts al (eqb x l) u.0 in inl (v.0, less_behind x l xs ls b (eqb-true x l v.1) u.1)
            | inr u ↦ let v = and_parts ah (eqb x h) u.0 in inr (v.0, less_behind h x hs xs c (sym (eqb-true x h v.1)) u.1)
          ]
    ]

between_within : (ls hs bytes : List ℕ) (al ah : Bool) → left_between ls hs bytes al ah ≤ length bytes
between_within [] hs bytes al ah = omega arith
between_within (l ∷ ls) [] bytes al ah = omega arith
between_within (l ∷ ls) (h ∷ hs) [] al ah = omega arith
between_within (l ∷ ls) (h ∷ hs) (b ∷ bs) al ah =
    cond_both (leaves al ah l h b) (suc (length bs)) (behind l ls h hs b bs al ah) (λ n. n ≤ suc (length bs)) (λ _. omega arith)
    (λ _. let ih = between_within ls hs bs (al && eqb b l) (ah && eqb b h) in omega arith)

-- the place depends on no byte behind it
between_local : (ls hs bytes other : List ℕ) (al ah : Bool) (left : ℕ) → left_between ls hs bytes al ah ≡ suc left → Same (length bytes - left) other bytes → (m : ℕ) × (left_between ls hs other al ah ≡ suc m)
between_local [] hs bytes other al ah left e same = absurd (omega arith)
between_local (l ∷ ls) [] bytes other al ah left e same = absurd (omega arith)
between_local (l ∷ ls) (h ∷ hs) [] other al ah left e same = absurd (omega arith)
between_local (l ∷ ls) (h ∷ hs) (b ∷ bs) [] al ah left e same =
    let within = between_within (l ∷ ls) (h ∷ hs) (b ∷ bs) al ah in
    let k : length (b ∷ bs) - left ≡ suc (length bs - left) = omega arith in
    absurd (let clash : Same (suc (length bs - left)) [] (b ∷ bs) = subst (λ (n : ℕ). Same n [] (b ∷ bs)) k same in cc)
between_local (l ∷ ls) (h ∷ hs) (b ∷ bs) (c ∷ cs) al ah left e same =
    let within = between_within (l ∷ ls) (h ∷ hs) (b ∷ bs) al ah in
    let k : length (b ∷ bs) - left ≡ suc (length bs - left) = omega arith in
    let both : Same (suc (length bs - left)) (c ∷ cs) (b ∷ bs) = subst (λ (n : ℕ). Same n (c ∷ cs) (b ∷ bs)) k same in
    let first : b ≡ c = cc in
    let rest : Same (length bs - left) cs bs = cc in
    subst (λ (x : ℕ). (m : ℕ) × (left_between (l ∷ ls) (h ∷ hs) (x ∷ cs) al ah ≡ suc m)) first
    (elim (cases_Bool (leaves al ah l h b)) [
      | inl t ↦ (length cs, left_there l h b ls hs cs al ah t)
      | inr t ↦
          let ih = between_local ls hs bs cs (al && eqb b l) (ah && eqb b h) left (sym (stayed l h b ls hs bs al ah t) ∙ e) rest in
          (ih.0, stayed l h b ls hs cs al ah t ∙ ih.1)
    ])

-- ---- some number of the range has the bytes up to the place

pub record Goes (ls hs : List ℕ) (al ah : Bool) (n : ℕ) (bytes : List ℕ) : Type 0 where
  pub number : List ℕ
  pub len : length number ≡ length ls
  pub fits : IsBytes number
  pub low : al ≡ true → value ls ≤ value number
  pub high : ah ≡ true → value number ≤ value hs
  pub same : Same n number bytes

-- the least or the greatest number is in the range
bound : (ls hs bytes : List ℕ) (al ah : Bool) (n : ℕ) → length hs ≡ length ls → IsBytes ls → IsBytes hs → (al ≡ true → ah ≡ true → value ls ≤ value hs) → n ≡ 0 → Goes ls hs al ah n bytes
bound ls hs bytes true ah n p f g le is = record { number = ls; len = refl; fits = f; low = λ _. omega arith; high = λ u. le refl u; same = subst (λ (m : ℕ). Same m ls bytes) (sym is) refl }
bound ls hs bytes false ah n p f g le is = record { number = hs; len = p; fits = g; low = λ u. absurd (let clash = u in cc); high = λ _. omega arith; same = subst (λ (m : ℕ). Same m hs bytes) (sym is) refl }

pub between_goes : (ls hs bytes : List ℕ) (al ah : Bool) → length hs ≡ length ls → IsBytes ls → IsBytes hs → IsBytes bytes → (al ≡ true → ah ≡ true → value ls ≤ value hs)
    → (length bytes < length ls) ⊎ (0 < left_between ls hs bytes al ah) → Goes ls hs al ah (length bytes - left_between ls hs bytes al ah) bytes
between_goes [] hs bytes al ah p f g h le short = absurd (elim short [ inl lt ↦ omega arith | inr lt ↦ omega arith ])
between_goes (l ∷ ls) [] bytes al ah p f g h le short = absurd (omega arith)
between_goes (l ∷ ls) (h ∷ hs) [] al ah p f g fb le short = bound (l ∷ ls) (h ∷ hs) [] al ah (0 - 0) p f g le (omega arith)
between_goes (l ∷ ls) (h ∷ hs) (b ∷ bs) al ah p f g fb le short = elim (cases_Bool (leaves al ah l h b)) [
  | inl t ↦
      let e = left_there l h b ls hs bs al ah t in
      bound (l ∷ ls) (h ∷ hs) (b ∷ bs) al ah (length (b ∷ bs) - left_between (l ∷ ls) (h ∷ hs) (b ∷ bs) al ah) p f g le (omega (arith, e))
  | inr t ↦
      let s = stays al ah l h b t in
      let e = stayed l h b ls hs bs al ah t in
      let R = behind l ls h hs b bs al ah in
      let within : R ≤ length bs = between_within ls hs bs (al && eqb b l) (ah && eqb b h) in
      let p2 : length hs ≡ length ls = omega arith in
      let p3 : length ls ≡ length hs = omega arith in
      let inner = λ (u : (al && eqb b l) ≡ true) (v : (ah && eqb b h) ≡ true).
      let u2 = and_parts al (eqb b l) u in
      let v2 = and_parts ah (eqb b h) v in
      no_less l h ls hs p3 (sym (eqb-true b l u2.1) ∙ eqb-true b h v2.1) (le u2.0 v2.0) in
      let short2 : (length bs < length ls) ⊎ (0 < R) = elim short [ inl lt ↦ inl (omega arith) | inr lt ↦ inr (omega (arith, e)) ] in
      let ih = between_goes ls hs bs (al && eqb b l) (ah && eqb b h) p2 (rest_bytes l ls f) (rest_bytes h hs g) (rest_bytes b bs fb) inner short2 in
      let len1 : length ls ≡ length ih.number = sym ih.len in
      let len2 : length ih.number ≡ length hs = ih.len ∙ p3 in
      let n : suc (length bs - R) ≡ length (b ∷ bs) - left_between (l ∷ ls) (h ∷ hs) (b ∷ bs) al ah = omega (arith, e) in
      record {
        number = b ∷ ih.number;
        len = ap suc ih.len;
        fits = bytes_cons b ih.number (fb 0) ih.fits;
        low = λ u. no_greater l b ls ih.number len1 (rest_bytes l ls f) (s.0 u) (λ same. ih.low (and_from al (eqb b l) u (eq-eqb b l (sym same))));
        high = λ u. no_greater b h ih.number hs len2 ih.fits (s.1 u) (λ same. ih.high (and_from ah (eqb b h) u (eq-eqb b h same)));
        same = subst (λ (m : ℕ). Same m (b ∷ ih.number) (b ∷ bs)) n (ap (λ (l : List ℕ). b ∷ l) ih.same);
      }
]

-- ---- numbers as they are read

abbrev pub IsBig : Width → Type 0
IsBig w = (bytes : List ℕ) → from_be_bytes w bytes ≡ big_from 0 (byte_len w) bytes

pub big32 : IsBig w32
big32 bytes = omega arith

pub big64 : IsBig w64
big64 bytes = omega arith

pub big128 : IsBig w128
big128 bytes = omega arith

pub err_cases : {A : Type 0} (b : Bool) (l left : ℕ) (r : Result A ℕ) → cond b (Err l) r ≡ Err left → ((b ≡ true) × (l ≡ left)) ⊎ ((b ≡ false) × (r ≡ Err left))
err_cases true l left r e = inl (refl, cc)
err_cases false l left r e = inr (refl, e)

module _ (w : Width) (limit : ℕ) (wide : IsWide w limit) (big : IsBig w) where
  value_is : (xs : List ℕ) → length xs ≡ byte_len w → from_be_bytes w xs ≡ value xs
  value_is xs len = big xs ∙ ap (λ (n : ℕ). big_from 0 n xs) (sym len)

  value_back : (n : ℕ) → n < limit → value (to_be_bytes w n) ≡ n
  value_back n lt = sym (value_is (to_be_bytes w n) (wide.len n)) ∙ wide.again n lt

  spelled_back : (xs : List ℕ) → length xs ≡ byte_len w → IsBytes xs → to_be_bytes w (value xs) ≡ xs
  spelled_back xs len fits = ap (λ (n : ℕ). to_be_bytes w n) (sym (value_is xs len)) ∙ wide.back xs len fits

  nothing_leaves : (ls hs bytes : List ℕ) → left_between ls hs bytes false false ≡ 0
  nothing_leaves [] hs bytes = refl
  nothing_leaves (l ∷ ls) [] bytes = refl
  nothing_leaves (l ∷ ls) (h ∷ hs) [] = refl
  nothing_leaves (l ∷ ls) (h ∷ hs) (b ∷ bs) = nothing_leaves ls hs bs

  number_goes : (bytes : List ℕ) (left : ℕ) → IsBytes bytes → number_at w bytes ≡ Err left → GoesTo (to_be_bytes w) (λ n. n < limit) bytes left
  number_goes bytes left fits e =
      elim (err_cases (ltb (length bytes) (byte_len w)) 0 left (Ok (from_be_bytes w (take (byte_len w) bytes), drop (byte_len w) bytes)) e) [
        | inl p ↦
            let zs = to_be_bytes w 0 in
            let len : length zs ≡ byte_len w = wide.len 0 in
            let short : length bytes < length zs = let lt = ltb-true (length bytes) (byte_len w) p.0 in omega arith in
            let none = nothing_leaves zs zs bytes in
            let g = between_goes zs zs bytes false false refl (spelled_bytes (byte_len w) 0) (spelled_bytes (byte_len w) 0) fits (λ u v. absurd (let clash = u in cc)) (inl short) in
            let back : to_be_bytes w (value g.number) ≡ g.number = spelled_back g.number (g.len ∙ len) g.fits in
            let is : left_between zs zs bytes false false ≡ left = none ∙ p.1 in
            record {
              within = omega (arith, p.1);
              item = value g.number;
              fits = subst (λ (n : ℕ). n < limit) (value_is g.number (g.len ∙ len)) (wide.below g.number g.fits);
              same = subst (λ (l : List ℕ). Same (length bytes - left) l bytes) (sym back) (subst (λ (m : ℕ). Same (length bytes - m) g.number bytes) is g.same);
            }
        | inr p ↦ absurd (let clash = p.1 in cc)
      ]

  number_stops : (bytes : List ℕ) (left n : ℕ) (r : List ℕ) → IsBytes bytes → number_at w bytes ≡ Err (suc left) → n < limit → Same (length bytes - left) (to_be_bytes w n ++ r) bytes → ⊥
  number_stops bytes left n r fits e lt same =
      elim (err_cases (ltb (length bytes) (byte_len w)) 0 (suc left) (Ok (from_be_bytes w (take (byte_len w) bytes), drop (byte_len w) bytes)) e) [
        | inl p ↦ omega (arith, p.1)
        | inr p ↦ let clash = p.1 in cc
      ]

  pub number_exact : 0 < limit → IsExact (number_at w) (to_be_bytes w) (λ n. n < limit)
  number_exact positive = record { some = 0; some_fits = positive; goes = number_goes; stops = number_stops }

  module _ (low high : ℕ) (order : low ≤ high) (small : high < limit) where
    abbrev lows : List ℕ
    lows = to_be_bytes w low

    abbrev highs : List ℕ
    highs = to_be_bytes w high

    lens : length highs ≡ length lows
    lens = wide.len high ∙ sym (wide.len low)

    low_is : value lows ≡ low
    low_is = value_back low (omega arith)

    high_is : value highs ≡ high
    high_is = value_back high small

    abbrev left_of : List ℕ → ℕ
    left_of bytes = left_between lows highs bytes true true

    -- all bytes are there, and the number is not in the range
    leaves_range : (bytes : List ℕ) → IsBytes bytes → byte_len w ≤ length bytes → (ltb (from_be_bytes w (take (byte_len w) bytes)) low || ltb high (from_be_bytes w (take (byte_len w) bytes))) ≡ true
        → 0 < left_of bytes
    leaves_range bytes fits long t = elim (cases_lt 0 (left_of bytes)) [
      | inl lt ↦ lt
      | inr le ↦
          let k = byte_len w in
          let xs = take k bytes in
          let n = from_be_bytes w xs in
          let len : length xs ≡ k = omega (arith, length-take k bytes) in
          let len2 : length xs ≡ length lows = len ∙ sym (wide.len low) in
          let stays_in : left_between lows highs (xs ++ drop k bytes) true true ≡ 0 =
          ap (λ (l : List ℕ). left_between lows highs l true true) (take-append-drop k bytes) ∙ omega arith in
          let in' = between_in lows highs xs (drop k bytes) true true lens len2 (spelled_bytes k low) (IsBytes-take k bytes fits) stays_in in
          let is : n ≡ value xs = value_is xs len in
          let at_least : value lows ≤ value xs = in'.0 refl in
          let at_most : value xs ≤ value highs = in'.1 refl in
          let a = low_is in
          let b = high_is in
          absurd (elim (or_cases (ltb n low) (ltb high n) t) [
            | inl u ↦ let lt = ltb-true n low u in omega arith
            | inr u ↦ let lt = ltb-true high n u in omega arith
          ])
    ]

    left_is : (bytes : List ℕ) (left : ℕ) → IsBytes bytes → bounded_at w low high bytes ≡ Err left → (left_of bytes ≡ left) × ((length bytes < length lows) ⊎ (0 < left_of bytes))
    unfolding bounded_at
    left_is bytes left fits e =
        let k = byte_len w in
        let n = from_be_bytes w (take k bytes) in
        let found : Result (ℕ × List ℕ) ℕ = Ok (n, drop k bytes) in
        let len : length lows ≡ k = wide.len low in
        elim (err_cases (ltb (length bytes) k) (left_of bytes) left (cond (ltb n low || ltb high n) (Err (left_of bytes)) found) e) [
          | inl p ↦ (p.1, inl (let lt = ltb-true (length bytes) k p.0 in omega arith))
          | inr p ↦ elim (err_cases (ltb n low || ltb high n) (left_of bytes) left found p.1) [
            | inl q ↦ (q.1, inr (leaves_range bytes fits (ltb-false (length bytes) k p.0) q.0))
            | inr q ↦ absurd (let clash = q.1 in cc)
          ]
        ]

    bounded_goes : (bytes : List ℕ) (left : ℕ) → IsBytes bytes → bounded_at w low high bytes ≡ Err left → GoesTo (to_be_bytes w) (IsBetween low high) bytes left
    bounded_goes bytes left fits e =
        let k = byte_len w in
        let is = left_is bytes left fits e in
        let within = between_within lows highs bytes true true in
        let a = low_is in
        let b = high_is in
        let g = between_goes lows highs bytes true true lens (spelled_bytes k low) (spelled_bytes k high) fits (λ _ _. omega arith) is.1 in
        let len : length g.number ≡ k = g.len ∙ wide.len low in
        let back : to_be_bytes w (value g.number) ≡ g.number = spelled_back g.number len g.fits in
        let at_least : value lows ≤ value g.number = g.low refl in
        let at_most : value g.number ≤ value highs = g.high refl in
        record {
          within = omega (arith, is.0);
          item = value g.number;
          fits = (omega arith, omega arith);
          same = subst (λ (l : List ℕ). Same (length bytes - left) l bytes) (sym back) (subst (λ (m : ℕ). Same (length bytes - m) g.number bytes) is.0 g.same);
        }

    bounded_stops : (bytes : List ℕ) (left n : ℕ) (r : List ℕ) → IsBytes bytes → bounded_at w low high bytes ≡ Err (suc left) → IsBetween low high n → Same (length bytes - left) (to_be_bytes w n ++ r) bytes → ⊥
    bounded_stops bytes left n r fits e between same =
        let k = byte_len w in
        let xs = to_be_bytes w n in
        let is = left_is bytes (suc left) fits e in
        let there = between_local lows highs bytes (xs ++ r) true true left is.0 same in
        let len : length xs ≡ length lows = wide.len n ∙ sym (wide.len low) in
        let v : value xs ≡ n = value_back n (omega (arith, between.1)) in
        let a = low_is in
        let b = high_is in
        elim (between_out lows highs xs r true true there.0 lens len (spelled_bytes k n) (spelled_bytes k high) there.1) [
          | inl u ↦ omega (arith, u.1, between.0)
          | inr u ↦ omega (arith, u.1, between.1)
        ]

    pub bounded_exact : IsExact (bounded_at w low high) (to_be_bytes w) (IsBetween low high)
    bounded_exact = record { some = low; some_fits = (omega arith, order); goes = bounded_goes; stops = bounded_stops }
