-- The number whose decimal a word is.
use Rattle.std.proofs.Common.{◌≡◌, ℕ, ◌^◌, ◌<◌, Bool, true, false, cond, ◌&&◌, nat_lt, List, decimal, Option, Some, None, bytes_eq, refl, ap, ◌∙◌, subst}
use Rattle.std.specs.Str.Parse.{AllDigits, digits_value}
use Rattle.std.proofs.lemmas.Bool.Decides.{Decides-ltb}
use Rattle.std.proofs.lemmas.Fmt.{digits_value-decimal}
use Rattle.std.proofs.lemmas.Slice.Eq.{bytes_eq-Decides}
use Rattle.std.proofs.lemmas.Str.Parse.{numerals_by_value, tells_digits}
use Rattle.script_text.specs.CollectLine.{number_if, number_of}

pub number_of-decimal : (n : ℕ) → n < 2 ^ 64 → number_of (decimal n) ≡ Some n
unfolding number_of
number_of-decimal n fits =
    ap (number_if (decimal n)) (digits_value-decimal (numerals_by_value (AllDigits 10) tells_digits) n fits)
    ∙ ap (λ b. cond (b && bytes_eq (decimal n) (decimal n)) (Some n) None) ((Decides-ltb n (2 ^ 64)).1 fits)
    ∙ ap (λ b. cond b (Some n) None) ((bytes_eq-Decides (decimal n) (decimal n)).1 refl)

pub record IsNumberOf (word : List ℕ) (n : ℕ) : Type 0 where
  pub fits : n < 2 ^ 64
  pub is : word ≡ decimal n

pub IsNumberOf-read : (word : List ℕ) (n : ℕ) → number_of word ≡ Some n → IsNumberOf word n
unfolding number_of
IsNumberOf-read word n e = by (digits_value 10 word) (nat_lt (digits_value 10 word) (2 ^ 64)) refl (bytes_eq word (decimal (digits_value 10 word))) refl e
  where
    by : (m : ℕ) (a : Bool) → nat_lt m (2 ^ 64) ≡ a → (b : Bool) → bytes_eq word (decimal m) ≡ b → cond (a && b) (Some m) None ≡ Some n → IsNumberOf word n
    by m true less true same e =
        let is : m ≡ n = cc in
        record { fits = subst (λ k. k < 2 ^ 64) is ((Decides-ltb m (2 ^ 64)).0 less); is = (bytes_eq-Decides word (decimal m)).0 same ∙ ap decimal is }
    by m true less false same e = absurd (cc)
    by m false less b same e = absurd (cc)

pub number_of-none : (word : List ℕ) → ((n : ℕ) → n < 2 ^ 64 → word ≡ decimal n → ⊥) → number_of word ≡ None
number_of-none word none = by (number_of word) refl
  where
    by : (o : Option ℕ) → number_of word ≡ o → number_of word ≡ None
    by None is = is
    by (Some n) is = let read = IsNumberOf-read word n is in absurd (none n read.fits read.is)
