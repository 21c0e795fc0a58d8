-- A name behind its length is exact.
use Rattle.std.proofs.Common.{◌≡◌, ℕ, suc, ◌+◌, ◌-◌, ◌<◌, ◌≤◌, Bool, true, ◌&&◌, ◌||◌, ◌==◌, not, leb, cond, List, [], ◌∷◌, length, Some, None, Ok, Err, inl, inr, refl, sym, ap, ◌∙◌, arith}
use Rattle.std.specs.Char.{is_ascii_digit, is_ascii_lowercase}
use Rattle.std.specs.List.{flat_map, list_all, AllByRecursion}
use Rattle.std.proofs.lemmas.Bool.{and_parts, and_from, leb-true, le-leb, cases_Bool}
use Rattle.rows_core.specs.Name.{IsName, is_name, begins_with_letter, is_name_byte, is_reserved}
use Rattle.byte_formats.specs.Reading.{Read}
use Rattle.byte_formats.specs.Format.{Format, ◌▷◌, ◌⊗◌, first_of, times, if_it, byte_that, is_name_len, AreLetters, letters, isnt_reserved, passed, passing, name_spelling, name}
use Rattle.byte_formats.proofs.Exact.{Exact, both_exact}
use Rattle.byte_formats.proofs.Laws.{some_if, symbol_exact, made_exact, times_exact}
use Rattle.byte_formats.proofs.Told.{pair_exact}
use Rattle.byte_formats.proofs.Parts.{passing_exact}

pub that_passes : (test : ℕ → Bool) (b : ℕ) → (byte_that test).Fits b → test b ≡ true
that_passes test b fits = (some_if (test b) b b fits).0

pub that_fits : (test : ℕ → Bool) (b : ℕ) → test b ≡ true → (byte_that test).Fits b
that_fits test b passes = ap (λ (t : Bool). cond t (Some b) None) passes

pub byte_that_exact : (test : ℕ → Bool) → Exact (byte_that test)
byte_that_exact test = symbol_exact (λ b. b) (if_it test) (λ b a e. (some_if (test b) b a e).1)

-- bytes one after the other are the bytes
pub singly : (bytes : List ℕ) → bytes ≡ flat_map (λ b. b ∷ []) bytes
singly [] = refl
singly (b ∷ bytes) = ap (λ (l : List ℕ). b ∷ l) (singly bytes)

all_pass : (test : ℕ → Bool) (bytes : List ℕ) → AllByRecursion (byte_that test).Fits bytes → list_all test bytes ≡ true
all_pass test [] fits = refl
all_pass test (b ∷ bytes) fits = and_from (test b) (list_all test bytes) (that_passes test b fits.0) (all_pass test bytes fits.1)

all_fit : (test : ℕ → Bool) (bytes : List ℕ) → list_all test bytes ≡ true → AllByRecursion (byte_that test).Fits bytes
all_fit test [] passes = tt
all_fit test (b ∷ bytes) passes = let p = and_parts (test b) (list_all test bytes) passes in (that_fits test b p.0, all_fit test bytes p.1)

-- a letter is a byte of a name
letter_is : (b : ℕ) → is_ascii_lowercase b ≡ true → is_name_byte b ≡ true
letter_is b e = ap (λ (t : Bool). t || is_ascii_digit b || (b == 95)) e

pub letters_to : (n : ℕ) → 1 ≤ n → (b : ℕ) (bytes : List ℕ) → (byte_that is_ascii_lowercase ⊗ times (n - 1) (byte_that is_name_byte)).Fits (b, bytes) → AreLetters n (b ∷ bytes)
letters_to n some b bytes fits =
    let letter = that_passes is_ascii_lowercase b fits.0 in
    ((let len = fits.1.0 in omega arith), letter, and_from (is_name_byte b) (list_all is_name_byte bytes) (letter_is b letter) (all_pass is_name_byte bytes fits.1.1))

pub letters_from : (n : ℕ) → 1 ≤ n → (bytes : List ℕ) → AreLetters n bytes → (p : ℕ × List ℕ) × (byte_that is_ascii_lowercase ⊗ times (n - 1) (byte_that is_name_byte)).Fits p × (first_of p ≡ bytes)
letters_from n some [] fits = absurd (let len = fits.0 in omega arith)
letters_from n some (b ∷ bytes) fits =
    let p = and_parts (is_name_byte b) (list_all is_name_byte bytes) fits.2 in
    ((b, bytes), (that_fits is_ascii_lowercase b fits.1, ((let len = fits.0 in omega arith), all_fit is_name_byte bytes p.1)), refl)

pub letters_exact : (n : ℕ) → 1 ≤ n → Exact (letters n)
letters_exact n some =
    made_exact first_of (AreLetters n) (λ bytes. bytes) (byte_that is_ascii_lowercase ⊗ times (n - 1) (byte_that is_name_byte))
    (pair_exact (byte_that is_ascii_lowercase) (times (n - 1) (byte_that is_name_byte)) (byte_that_exact is_ascii_lowercase) (times_exact (byte_that is_name_byte) (byte_that_exact is_name_byte) (n - 1)))
    (record { to = λ p fits. (letters_to n some p.0 p.1 fits, ap (λ (l : List ℕ). p.0 ∷ l) (singly p.1)); from = letters_from n some })

-- ---- the length in front

pub record IsLen (n : ℕ) : Type 0 where
  pub some : 1 ≤ n
  pub few : n ≤ 64

pub len_is : (n : ℕ) → (byte_that is_name_len).Fits n → IsLen n
len_is n fits =
    let p = and_parts (leb 1 n) (leb n 64) (that_passes is_name_len n fits) in
    record { some = leb-true 1 n p.0; few = leb-true n 64 p.1 }

-- letters of a name's length that aren't reserved are a name
pub name_is : (bytes : List ℕ) → length bytes ≤ 64 → begins_with_letter bytes ≡ true → list_all is_name_byte bytes ≡ true → not (is_reserved bytes) ≡ true → IsName bytes
unfolding is_name
name_is bytes few letter all own =
    and_from (begins_with_letter bytes && list_all is_name_byte bytes && leb (length bytes) 64) (not (is_reserved bytes))
    (and_from (begins_with_letter bytes && list_all is_name_byte bytes) (leb (length bytes) 64) (and_from (begins_with_letter bytes) (list_all is_name_byte bytes) letter all) (le-leb (length bytes) 64 few)) own

pub record NameParts (bytes : List ℕ) : Type 0 where
  pub letter : begins_with_letter bytes ≡ true
  pub all : list_all is_name_byte bytes ≡ true
  pub few : length bytes ≤ 64
  pub own : not (is_reserved bytes) ≡ true

pub name_parts : (bytes : List ℕ) → IsName bytes → NameParts bytes
unfolding is_name
name_parts bytes is =
    let a = and_parts (begins_with_letter bytes && list_all is_name_byte bytes && leb (length bytes) 64) (not (is_reserved bytes)) is in
    let b = and_parts (begins_with_letter bytes && list_all is_name_byte bytes) (leb (length bytes) 64) a.0 in
    let c = and_parts (begins_with_letter bytes) (list_all is_name_byte bytes) b.0 in
    record { letter = c.0; all = c.1; few = leb-true (length bytes) 64 b.1; own = a.1 }

begun : (bytes : List ℕ) → begins_with_letter bytes ≡ true → 1 ≤ length bytes
begun [] e = absurd cc
begun (b ∷ bytes) e = omega arith

abbrev parts : Format (ℕ × List ℕ)
parts = byte_that is_name_len ▷ λ n. passing isnt_reserved (letters n)

name_to : (p : ℕ × List ℕ) → parts.Fits p → IsName p.1 × (name_spelling p.1 ≡ parts.spell p)
name_to p fits =
    let len = len_is p.0 fits.0 in
    let is = fits.1.0 in
    (name_is p.1 (let e = is.0 in let few = len.few in omega arith) is.1 is.2 fits.1.1, ap (λ (n : ℕ). n ∷ p.1) is.0)

name_from : (bytes : List ℕ) → IsName bytes → (p : ℕ × List ℕ) × parts.Fits p × (p.1 ≡ bytes)
name_from bytes is =
    let n = name_parts bytes is in
    let some = begun bytes n.letter in
    ((length bytes, bytes), (that_fits is_name_len (length bytes) (and_from (leb 1 (length bytes)) (leb (length bytes) 64) (le-leb 1 (length bytes) some) (le-leb (length bytes) 64 n.few)), ((refl, n.letter, n.all), n.own)), refl)

some_letters : (n : ℕ) → 1 ≤ n → (bytes : List ℕ) → (letters n).Fits bytes → 0 < length bytes
some_letters n some bytes fits = let len = fits.0 in omega arith

pub name_exact : Exact name
name_exact =
    made_exact (λ (p : ℕ × List ℕ). p.1) IsName name_spelling parts
    (both_exact (byte_that is_name_len) (λ n. passing isnt_reserved (letters n)) (byte_that_exact is_name_len)
    (λ n fits. let some = (len_is n fits).some in passing_exact isnt_reserved (letters n) (letters_exact n some) (some_letters n some)))
    (record { to = name_to; from = name_from })

-- ---- what is read of the letters

pub name_passes : (r : Read (List ℕ)) (bytes name rest : List ℕ) → r ≡ Ok (bytes, rest) → name ≡ bytes → IsName name → passed isnt_reserved r ≡ Ok (name, rest)
name_passes r bytes name rest e same is =
    ap (passed isnt_reserved) (e ∙ ap (λ (l : List ℕ). Ok (l, rest)) (sym same)) ∙ ap (λ (t : Bool). cond t (Ok (name, rest)) (Err (suc (length rest)))) (name_parts name is).own

pub other_stops : (n : ℕ) (r : Read (List ℕ)) (bytes rest : List ℕ) → n ≤ 64 → r ≡ Ok (bytes, rest) → AreLetters n bytes → (IsName bytes → ⊥) → passed isnt_reserved r ≡ Err (length rest + 1)
other_stops n r bytes rest few e are isnt =
    elim (cases_Bool (isnt_reserved bytes)) [
      | inl t ↦ absurd (isnt (name_is bytes (let len = are.0 in omega arith) are.1 are.2 t))
      | inr f ↦ ap (passed isnt_reserved) e ∙ ap (λ (t : Bool). cond t (Ok (bytes, rest)) (Err (suc (length rest)))) f ∙ ap (λ (m : ℕ). Err m) (let one : suc (length rest) ≡ length rest + 1 = omega arith in one)
    ]
