-- What a reader that fails owes: some spelling has the bytes up to the place where it stops, and none has the byte there.
use Rattle.std.proofs.Common.{◌≡◌, ℕ, suc, ◌+◌, ◌-◌, ◌<◌, ◌≤◌, ◌⊎◌, List, ◌++◌, length, take, drop, Result, Ok, Err, refl, sym, ap, subst, ◌∙◌, arith, inl, inr}
use Rattle.std.proofs.lemmas.Bool.{cases_lt}
use Rattle.std.proofs.lemmas.List.{take-append-drop, length-append}
use Rattle.std.proofs.Math.Seq.{take-length}
use Rattle.byte_formats.specs.Reading.{◌>>=◌, Read}
use Rattle.byte_formats.proofs.Readers.{IsBytes, IsReader, HasFront}
use Rattle.byte_formats.proofs.Same.{Same, same_less, same_longer, same_behind, read_same}

-- a step that failed, or that succeeded and was followed by one that failed
pub bind_err : {A B : Type 0} (r : Result A ℕ) (f : A → Result B ℕ) (left : ℕ) → (r >>= f) ≡ Err left → (r ≡ Err left) ⊎ ((x : A) × (r ≡ Ok x) × (f x ≡ Err left))
bind_err (Ok x) f left e = inr (x, refl, e)
bind_err (Err d) f left e = inl (let p : d ≡ left = cc in ap (λ (n : ℕ). Err n) p)

pub record GoesTo {A : Type 0} (spell : A → List ℕ) (P : A → Type 0) (bytes : List ℕ) (left : ℕ) : Type 0 where
  pub within : left ≤ length bytes
  pub item : A
  pub fits : P item
  pub same : Same (length bytes - left) (spell item) bytes

pub record IsExact {A : Type 0} (read : List ℕ → Read A) (spell : A → List ℕ) (P : A → Type 0) : Type 0 where
  pub some : A
  pub some_fits : P some
  pub goes : (bytes : List ℕ) (left : ℕ) → IsBytes bytes → read bytes ≡ Err left → GoesTo spell P bytes left
  pub stops : (bytes : List ℕ) (left : ℕ) (a : A) (r : List ℕ) → IsBytes bytes → read bytes ≡ Err (suc left) → P a → Same (length bytes - left) (spell a ++ r) bytes → ⊥

-- the spelling goes on past the place
pub proper : {A : Type 0} (read : List ℕ → Read A) (spell : A → List ℕ) (P : A → Type 0) → IsReader read spell P → (bytes : List ℕ) (left n : ℕ) (a : A) → read bytes ≡ Err left → P a
    → n ≤ length bytes → Same n (spell a) bytes → n < length (spell a)
proper read spell P law bytes left n a e fits within same =
    elim (cases_lt n (length (spell a))) [
      | inl lt ↦ lt
      | inr le ↦
          let s = spell a in
          let k = length s in
          let front : s ≡ take k bytes = sym (take-length s) ∙ same_less k n s bytes le same in
          let parts : s ++ drop k bytes ≡ bytes = ap (λ (l : List ℕ). l ++ drop k bytes) front ∙ take-append-drop k bytes in
          absurd (let clash : Ok (a, drop k bytes) ≡ Err left = sym (law.again a (drop k bytes) fits) ∙ ap read parts ∙ e in cc)
    ]

pub goes_longer : {A : Type 0} (read : List ℕ → Read A) (spell : A → List ℕ) (P : A → Type 0) → IsReader read spell P → (bytes : List ℕ) (left : ℕ) → read bytes ≡ Err left → (g : GoesTo spell P bytes left) (more : List ℕ)
    → Same (length bytes - left) (spell g.item ++ more) bytes
goes_longer read spell P law bytes left e g more =
    let n = length bytes - left in
    let lt = proper read spell P law bytes left n g.item e g.fits (omega arith) g.same in
    same_longer n (spell g.item) more bytes (omega arith) g.same

-- behind a part that was read
module _ {A : Type 0} (read : List ℕ → Read A) (spell : A → List ℕ) (P : A → Type 0) (law : IsReader read spell P) (bytes : List ℕ) (x : A × List ℕ) (t : HasFront spell P bytes x) where
  parts_len : length bytes ≡ length (spell x.0) + length x.1
  parts_len = ap length t.parts ∙ length-append (spell x.0) x.1

  place_behind : (left : ℕ) → length x.1 - left ≡ length bytes - left - length (spell x.0)
  place_behind left = let e = parts_len in omega arith

  pub behind_goes : (n : ℕ) (ys : List ℕ) → Same (n - length (spell x.0)) ys x.1 → Same n (spell x.0 ++ ys) bytes
  behind_goes n ys same = same_behind n (spell x.0) ys x.1 same ∙ ap (λ (l : List ℕ). take n l) (sym t.parts)

  pub behind_stops : (n : ℕ) (a : A) (ys : List ℕ) → P a → length (spell x.0) ≤ n → Same n (spell a ++ ys) bytes → (a ≡ x.0) × Same (n - length (spell x.0)) ys x.1
  behind_stops n a ys fits le same =
      read_same read spell P law a x.0 n ys x.1 fits t.fits le (same ∙ ap (λ (l : List ℕ). take n l) t.parts)

  pub behind_within : (left : ℕ) → left ≤ length x.1 → left ≤ length bytes
  behind_within left le = let e = parts_len in omega arith

  pub behind_left_goes : (left : ℕ) (ys : List ℕ) → Same (length x.1 - left) ys x.1 → Same (length bytes - left) (spell x.0 ++ ys) bytes
  behind_left_goes left ys same = behind_goes (length bytes - left) ys (subst (λ (m : ℕ). Same m ys x.1) (place_behind left) same)

  pub behind_left_stops : (left : ℕ) (a : A) (ys : List ℕ) → P a → left ≤ length x.1 → Same (length bytes - left) (spell a ++ ys) bytes → (a ≡ x.0) × Same (length x.1 - left) ys x.1
  behind_left_stops left a ys fits le same =
      let e = parts_len in
      let b = behind_stops (length bytes - left) a ys fits (omega arith) same in
      (b.0, subst (λ (m : ℕ). Same m ys x.1) (sym (place_behind left)) b.1)
