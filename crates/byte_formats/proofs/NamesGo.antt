-- What begins the spelling of a name is the front of one: the bytes so far and then `z`, which ends no reserved word.
use Rattle.std.proofs.Common.{◌≡◌, ℕ, zero, suc, ◌+◌, ◌-◌, ◌≤◌, inl, inr, Bool, true, false, ◌==◌, not, List, [], ◌∷◌, ◌++◌, length, refl, sym, ap, subst, ◌∙◌, append_assoc, arith}
use Rattle.std.specs.Prelude.{bytes_eq}
use Rattle.std.specs.Char.{is_ascii_lowercase}
use Rattle.std.specs.List.{list_all, list_any}
use Rattle.std.proofs.lemmas.Bool.{and_parts, and_from, or_from, cases_Bool, cases_lt}
use Rattle.std.proofs.lemmas.List.{append-nil, length-append, nil_from_length}
use Rattle.std.proofs.lemmas.List.Folds.{list_all-append}
use Rattle.std.proofs.lemmas.Slice.Eq.{bytes_eq-Decides}
use Rattle.rows_core.specs.Name.{IsName, begins_with_letter, is_name_byte, is_reserved, reserved_words}
use Rattle.byte_formats.specs.Format.{◌⊗◌, first_of, times, byte_that, is_name_len, AreLetters, letters, isnt_reserved, passing, name_spelling, name, if_it}
use Rattle.byte_formats.proofs.Readers.{IsBytes}
use Rattle.byte_formats.proofs.Exact.{bytes_behind}
use Rattle.byte_formats.proofs.Laws.{some_if}
use Rattle.byte_formats.proofs.Goes.{Front, Goes, symbol_goes, pair_goes, times_goes, made_goes}
use Rattle.byte_formats.proofs.Names.{that_fits, letters_to, singly, len_is, name_is}

byte_that_goes : (test : ℕ → Bool) (some : ℕ) → test some ≡ true → Goes (byte_that test) (byte_that test).Fits
byte_that_goes test some passes = symbol_goes (λ b. b) (if_it test) (λ b a e. (some_if (test b) b a e).1) some (that_fits test some passes)

letters_goes : (n : ℕ) → 1 ≤ n → Goes (letters n) (AreLetters n)
letters_goes n some =
    made_goes first_of (AreLetters n) (λ bytes. bytes) (byte_that is_ascii_lowercase ⊗ times (n - 1) (byte_that is_name_byte))
    (byte_that is_ascii_lowercase ⊗ times (n - 1) (byte_that is_name_byte)).Fits (AreLetters n)
    (pair_goes (byte_that is_ascii_lowercase) (times (n - 1) (byte_that is_name_byte)) (byte_that is_ascii_lowercase).Fits (times (n - 1) (byte_that is_name_byte)).Fits (byte_that_goes is_ascii_lowercase 97 refl)
    (times_goes (byte_that is_name_byte) (byte_that is_name_byte).Fits (byte_that_goes is_name_byte 97 refl) (n - 1)))
    (λ p fits. (letters_to n some p.0 p.1 fits, ap (λ (l : List ℕ). p.0 ∷ l) (singly p.1))) (λ bytes fits. fits)

-- ---- no reserved word ends with `z`

ends_with_z : List ℕ → Bool
ends_with_z [] = false
ends_with_z (x ∷ []) = x == 122
ends_with_z (x ∷ y ∷ ys) = ends_with_z (y ∷ ys)

z_behind : (xs : List ℕ) → ends_with_z (xs ++ 122 ∷ []) ≡ true
unfolding ends_with_z
z_behind [] = refl
z_behind (x ∷ []) = refl
z_behind (x ∷ y ∷ xs) = z_behind (y ∷ xs)

no_word : (words : List (List ℕ)) (xs : List ℕ) → list_all (λ word. not (ends_with_z word)) words ≡ true → list_any (λ word. bytes_eq word (xs ++ 122 ∷ [])) words ≡ false
no_word [] xs none = refl
no_word (word ∷ words) xs none =
    let p = and_parts (not (ends_with_z word)) (list_all (λ word. not (ends_with_z word)) words) none in
    elim (cases_Bool (bytes_eq word (xs ++ 122 ∷ []))) [
      | inl t ↦ absurd (let is = (bytes_eq-Decides word (xs ++ 122 ∷ [])).0 t in let z : ends_with_z word ≡ true = ap ends_with_z is ∙ z_behind xs in let clash : false ≡ true = ap not (sym z) ∙ p.0 in cc)
      | inr t ↦ or_from (bytes_eq word (xs ++ 122 ∷ [])) (list_any (λ word. bytes_eq word (xs ++ 122 ∷ [])) words) t (no_word words xs p.1)
    ]

words_end_otherwise : list_all (λ word. not (ends_with_z word)) reserved_words ≡ true
unfolding ends_with_z
words_end_otherwise = refl

own_with_z : (xs : List ℕ) → not (is_reserved (xs ++ 122 ∷ [])) ≡ true
unfolding is_reserved
own_with_z xs = ap not (no_word reserved_words xs words_end_otherwise)

-- ---- so many `z`

zs : ℕ → List ℕ
zs zero = []
zs (suc n) = 122 ∷ zs n

length-zs : (n : ℕ) → length (zs n) ≡ n
unfolding zs
length-zs zero = refl
length-zs (suc n) = ap suc (length-zs n)

all-zs : (n : ℕ) → list_all is_name_byte (zs n) ≡ true
unfolding zs
all-zs zero = refl
all-zs (suc n) = all-zs n

zs-last : (n : ℕ) → zs (suc n) ≡ zs n ++ 122 ∷ []
unfolding zs
zs-last zero = refl
zs-last (suc n) = ap (λ (l : List ℕ). 122 ∷ l) (zs-last n)

letter_first : (front more : List ℕ) (n : ℕ) → begins_with_letter (front ++ more) ≡ true → begins_with_letter (front ++ zs (suc n)) ≡ true
unfolding zs
letter_first [] more n e = refl
letter_first (f ∷ front) more n e = e

-- letters and then `z` are a name
filled : (n k : ℕ) (front more : List ℕ) → n ≤ 64 → AreLetters n (front ++ more) → length front + suc k ≡ n → IsName (front ++ zs (suc k))
filled n k front more few are len =
    let all = and_parts (list_all is_name_byte front) (list_all is_name_byte more) (sym (list_all-append is_name_byte front more) ∙ are.2) in
    let size : length (front ++ zs (suc k)) ≡ n = length-append front (zs (suc k)) ∙ ap (λ (m : ℕ). length front + m) (length-zs (suc k)) ∙ len in
    name_is (front ++ zs (suc k)) (omega arith) (letter_first front more k are.1)
    (list_all-append is_name_byte front (zs (suc k)) ∙ and_from (list_all is_name_byte front) (list_all is_name_byte (zs (suc k))) all.0 (all-zs (suc k)))
    (subst (λ (l : List ℕ). not (is_reserved l) ≡ true) (sym (ap (λ (l : List ℕ). front ++ l) (zs-last k) ∙ sym (append_assoc front (zs k) (122 ∷ [])))) (own_with_z (front ++ zs k)))

record Behind (n : ℕ) (front : List ℕ) : Type 0 where
  whole : List ℕ
  more : List ℕ
  is : IsName whole
  len : length whole ≡ n
  parts : whole ≡ front ++ more

behind_len : (n : ℕ) (front : List ℕ) → 1 ≤ n → n ≤ 64 → IsBytes front → (passing isnt_reserved (letters n)).Begins front → Behind n front
behind_len n front some few wide begins =
    let g = (letters_goes n some).goes front wide begins.0 in
    let are : AreLetters n (front ++ g.more) = subst (AreLetters n) g.spelled g.fits in
    let both : length front + length g.more ≡ n = sym (length-append front g.more) ∙ are.0 in
    elim (cases_lt (length front) n) [
      | inl lt ↦
          let k = n - length front - 1 in
          let len : length front + suc k ≡ n = omega arith in
          record { whole = front ++ zs (suc k); more = zs (suc k); is = filled n k front g.more few are len; len = length-append front (zs (suc k)) ∙ ap (λ (m : ℕ). length front + m) (length-zs (suc k)) ∙ len; parts = refl }
      | inr le ↦
          let none : g.more ≡ [] = nil_from_length g.more (omega arith) in
          let same : g.value ≡ front = g.spelled ∙ ap (λ (l : List ℕ). front ++ l) none ∙ append-nil front in
          let fits = g.fits in
          record {
            whole = g.value;
            more = [];
            is = name_is g.value (let e = fits.0 in omega arith) fits.1 fits.2 (begins.1 g.value fits same);
            len = fits.0;
            parts = same ∙ sym (append-nil front);
          }
    ]

-- the length alone
alone : (front : List ℕ) → (byte_that is_name_len).Begins front → Front name IsName front
alone [] begins = let z = filled 1 0 [] (97 ∷ []) (omega arith) (refl, refl, refl) refl in record { value = zs 1; fits = z; more = name_spelling (zs 1); spelled = refl }
alone (n ∷ []) begins =
    let is = some_if (is_name_len n) n begins.0 begins.1 in
    let len = len_is n (that_fits is_name_len n is.0) in
    let g = (letters_goes n len.some) in
    let k = n - 1 in
    let some = len.some in
    let size : length (zs (suc k)) ≡ n = length-zs (suc k) ∙ (let e : suc k ≡ n = omega arith in e) in
    record { value = zs (suc k); fits = filled n k [] g.some len.few g.some_fits (omega arith); more = zs (suc k); spelled = (λ i. size i ∷ zs (suc k)) }
alone (n ∷ b ∷ front) begins = absurd begins

name_front : (front : List ℕ) → IsBytes front → name.Begins front → Front name IsName front
name_front front wide begins = elim begins [
  | inl h ↦ alone front h
  | inr h ↦
      let len = len_is h.0 h.1 in
      let b = behind_len h.0 h.2.0 len.some len.few (bytes_behind (h.0 ∷ []) h.2.0 (subst IsBytes h.2.1 wide)) h.2.2 in
      record { value = b.whole; fits = b.is; more = b.more; spelled = (λ i. b.len i ∷ b.parts i) ∙ ap (λ (l : List ℕ). l ++ b.more) (sym h.2.1) }
]

pub name_goes : Goes name IsName
name_goes = record {
  some = zs 1;
  some_fits = filled 1 0 [] (97 ∷ []) (omega arith) (refl, refl, refl) refl;
  tight = λ bytes is. is;
  goes = name_front;
}
