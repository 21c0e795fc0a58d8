-- No two values, and no two rows, share a spelling.
use Prim.Native.Nat.{suc}
use Rattle.std.proofs.Common.{◌≡◌, ◌≢◌, refl, sym, ap, ◌∙◌, subst, ℕ, ◌<◌, ◌≤◌, Bool, true, false, cond, List, [], ◌∷◌, ◌++◌, length, ℤ, pos, negsuc, FitsSigned, w64, arith, append_assoc, append-nil}
use Rattle.std.proofs.lemmas.Bool.Decides.{nat_tests}
use Rattle.std.specs.List.{flat_map, AllByRecursion}
use Rattle.std.specs.Fmt.{signed_decimal}
use Rattle.rows_core.specs.Txt.{IsText}
use Rattle.rows_core.specs.declared.value.Value.{Value}
use Rattle.rows_core.specs.declared.value.Value.TheVariants.{Int, Text, Bool as Truth}
use Rattle.row_text.specs.RowSpelling.{is_escaped, byte_spelling, text_spelling, truth_spelling, value_spelling, IsLoose}
use Rattle.row_text.specs.Fields.{Ends, HasNoComma}
use Rattle.std.specs.Str.Parse.{AllDigits}
use Rattle.std.proofs.lemmas.Str.Parse.{digit_from_value}
use Rattle.std.proofs.lemmas.Fmt.{decimal_is_IsNumeral, decimal_nonempty, signed_decimal_injective}

-- a byte is spelled behind a `\`, or is neither `"` nor `\`
pub data Spelled (byte : ℕ) : List ℕ → Type 0 where
  Escaped : is_escaped byte ≡ true → Spelled byte (92 ∷ byte ∷ [])
  Plain : byte ≢ 34 → byte ≢ 92 → Spelled byte (byte ∷ [])

pub byte_is : (byte : ℕ) → Spelled byte (byte_spelling byte)
byte_is byte = go (is_escaped byte) refl
  where
    go : (escaped : Bool) → is_escaped byte ≡ escaped → Spelled byte (cond escaped (92 ∷ byte ∷ []) (byte ∷ []))
    go true e = Escaped e
    go false e = Plain (λ p. grind (arith, nat_tests)) (λ p. grind (arith, nat_tests))

-- no byte's spelling begins with a `"`
byte-no_quote : (byte : ℕ) (xs ys : List ℕ) → byte_spelling byte ++ xs ≢ 34 ∷ ys
byte-no_quote byte xs ys = go (byte_is byte)
  where
    go : {s : List ℕ} → Spelled byte s → s ++ xs ≢ 34 ∷ ys
    go (Escaped e) h = let slash : ℕ = 92 in let quote : ℕ = 34 in let same : slash ≡ quote = cc in absurd (omega (arith, same))
    go (Plain quote slash) h = quote cc

byte_apart : (a b : ℕ) (xs ys : List ℕ) → byte_spelling a ++ xs ≡ byte_spelling b ++ ys → (a ≡ b) × (xs ≡ ys)
byte_apart a b xs ys = go (byte_is a) (byte_is b)
  where
    go : {s t : List ℕ} → Spelled a s → Spelled b t → s ++ xs ≡ t ++ ys → (a ≡ b) × (xs ≡ ys)
    go (Escaped e) (Escaped f) h = (cc, cc)
    go (Escaped e) (Plain quote slash) h = absurd (slash cc)
    go (Plain quote slash) (Escaped f) h = absurd (slash cc)
    go (Plain quote slash) (Plain quote2 slash2) h = (cc, cc)

-- what was read of a text is the front of it
pub text_front : (s t rest after : List ℕ) → flat_map byte_spelling s ++ rest ≡ flat_map byte_spelling t ++ 34 ∷ after →
    (u : List ℕ) × (t ≡ s ++ u) × (rest ≡ flat_map byte_spelling u ++ 34 ∷ after)
text_front [] t rest after h = (t, refl, h)
text_front (a ∷ s) [] rest after h = absurd (byte-no_quote a _ _ (sym (append_assoc (byte_spelling a) (flat_map byte_spelling s) rest) ∙ h))
text_front (a ∷ s) (b ∷ t) rest after h =
    let both : byte_spelling a ++ (flat_map byte_spelling s ++ rest) ≡ byte_spelling b ++ (flat_map byte_spelling t ++ 34 ∷ after) =
    sym (append_assoc (byte_spelling a) (flat_map byte_spelling s) rest) ∙ h ∙ append_assoc (byte_spelling b) (flat_map byte_spelling t) (34 ∷ after) in
    let parts = byte_apart a b _ _ both in
    let more = text_front s t rest after parts.1 in
    (more.0, (λ i. sym parts.0 i ∷ more.1 i), more.2)

pub text_apart : (s t rest after : List ℕ) → flat_map byte_spelling s ++ 34 ∷ rest ≡ flat_map byte_spelling t ++ 34 ∷ after → (s ≡ t) × (rest ≡ after)
text_apart s t rest after h =
    let front = text_front s t (34 ∷ rest) after h in
    go front.0 front.1 front.2
  where
    go : (u : List ℕ) → t ≡ s ++ u → 34 ∷ rest ≡ flat_map byte_spelling u ++ 34 ∷ after → (s ≡ t) × (rest ≡ after)
    go [] e f = (sym (e ∙ append-nil s), cc)
    go (b ∷ u) e f = absurd (byte-no_quote b _ _ (sym (f ∙ append_assoc (byte_spelling b) (flat_map byte_spelling u) (34 ∷ after))))

-- no text is spelled where the reading of its bytes stops before a `"`
pub no_text : (text rest bytes : List ℕ) → bytes ≡ flat_map byte_spelling text ++ rest → ((byte : ℕ) (after : List ℕ) → rest ≢ byte_spelling byte ++ after) →
    ((after : List ℕ) → rest ≢ 34 ∷ after) → (t after : List ℕ) → bytes ≢ flat_map byte_spelling t ++ 34 ∷ after
no_text text rest bytes e no_byte no_end t after h =
    let front = text_front text t rest after (sym e ∙ h) in
    go front.0 front.2
  where
    go : (u : List ℕ) → rest ≡ flat_map byte_spelling u ++ 34 ∷ after → ⊥
    go [] f = no_end after f
    go (b ∷ u) f = no_byte b _ (f ∙ append_assoc (byte_spelling b) (flat_map byte_spelling u) (34 ∷ after))

-- what stands before a comma is determined
before_comma : (xs ys rest after : List ℕ) → HasNoComma xs → HasNoComma ys → Ends rest → Ends after → xs ++ rest ≡ ys ++ after → (xs ≡ ys) × (rest ≡ after)
before_comma [] [] rest after p q e f h = (refl, h)
before_comma [] (y ∷ ys) rest after p q e f h = absurd (q.0 (subst Ends h e))
before_comma (x ∷ xs) [] rest after p q e f h = absurd (p.0 (subst Ends (sym h) f))
before_comma (x ∷ xs) (y ∷ ys) rest after p q e f h =
    let more = before_comma xs ys rest after p.1 q.1 e f cc in
    let same : x ≡ y = cc in
    ((λ i. same i ∷ more.0 i), more.1)

-- the bytes of a number are digits or `-`
abbrev AllFrom45 : List ℕ → Type 0
AllFrom45 bytes = AllByRecursion (λ byte. 45 ≤ byte) bytes

from_digits : (ds : List ℕ) → AllDigits 10 ds → AllFrom45 ds
from_digits [] d = tt
from_digits (c ∷ cs) d = let range = digit_from_value c d.0 in (omega (arith, range.0), from_digits cs d.1)

AllFrom45-signed_decimal : (number : ℤ) → FitsSigned w64 number → AllFrom45 (signed_decimal number)
AllFrom45-signed_decimal (pos n) fits = from_digits _ (decimal_is_IsNumeral n (omega (arith, fits.sfits))).0.1
AllFrom45-signed_decimal (negsuc n) fits = (omega arith, from_digits _ (decimal_is_IsNumeral (suc n) (omega (arith, fits.sfits))).0.1)

HasNoComma-from45 : (bytes : List ℕ) → AllFrom45 bytes → HasNoComma bytes
HasNoComma-from45 [] a = tt
HasNoComma-from45 (c ∷ cs) a = ((λ e. omega (arith, a.0, e)), HasNoComma-from45 cs a.1)

pub signed_decimal-nonempty : (number : ℤ) → FitsSigned w64 number → 0 < length (signed_decimal number)
signed_decimal-nonempty (pos n) fits = decimal_nonempty n (omega (arith, fits.sfits))
signed_decimal-nonempty (negsuc n) fits = omega arith

no_quote-from45 : (bytes rest after : List ℕ) → 0 < length bytes → AllFrom45 bytes → bytes ++ rest ≢ 34 ∷ after
no_quote-from45 [] rest after n a h = absurd (omega arith)
no_quote-from45 (c ∷ cs) rest after n a h =
    let quote : ℕ = 34 in
    let same : c ≡ quote = cc in
    absurd (omega (arith, a.0, same))

pub number_apart : (m n : ℤ) (rest after : List ℕ) → FitsSigned w64 m → FitsSigned w64 n → Ends rest → Ends after → signed_decimal m ++ rest ≡ signed_decimal n ++ after → (m ≡ n) × (rest ≡ after)
number_apart m n rest after p q e f h =
    let parts = before_comma _ _ rest after (HasNoComma-from45 _ (AllFrom45-signed_decimal m p)) (HasNoComma-from45 _ (AllFrom45-signed_decimal n q)) e f h in
    (signed_decimal_injective m n p.sfits q.sfits parts.0, parts.1)

-- what is up to the first comma is the number, where one stands there
pub number_before_comma : (field rest : List ℕ) → HasNoComma field → Ends rest → ((n : ℤ) → FitsSigned w64 n → field ≢ signed_decimal n) →
    (n : ℤ) (after : List ℕ) → FitsSigned w64 n → Ends after → field ++ rest ≢ signed_decimal n ++ after
number_before_comma field rest p e none n after fits f h =
    none n fits (before_comma field (signed_decimal n) rest after p (HasNoComma-from45 _ (AllFrom45-signed_decimal n fits)) e f h).0

-- ---- truth values

AllFrom45-truth : (b : Bool) → AllFrom45 (truth_spelling b)
AllFrom45-truth true = (omega arith, (omega arith, (omega arith, (omega arith, tt))))
AllFrom45-truth false = (omega arith, (omega arith, (omega arith, (omega arith, (omega arith, tt)))))

pub truth-nonempty : (b : Bool) → 0 < length (truth_spelling b)
truth-nonempty true = omega arith
truth-nonempty false = omega arith

-- what is up to the first comma is the truth value, where one stands there
pub truth_before_comma : (field rest : List ℕ) → HasNoComma field → Ends rest → ((b : Bool) → field ≢ truth_spelling b) →
    (b : Bool) (after : List ℕ) → Ends after → field ++ rest ≢ truth_spelling b ++ after
truth_before_comma field rest p e none b after f h =
    none b (before_comma field (truth_spelling b) rest after p (HasNoComma-from45 _ (AllFrom45-truth b)) e f h).0

same_truth : (a b : Bool) → truth_spelling a ≡ truth_spelling b → a ≡ b
same_truth true true h = refl
same_truth true false h = absurd (omega (arith, ap length h))
same_truth false true h = absurd (omega (arith, ap length h))
same_truth false false h = refl

truth_apart : (a b : Bool) (rest after : List ℕ) → Ends rest → Ends after → truth_spelling a ++ rest ≡ truth_spelling b ++ after → (a ≡ b) × (rest ≡ after)
truth_apart a b rest after e f h =
    let parts = before_comma _ _ rest after (HasNoComma-from45 _ (AllFrom45-truth a)) (HasNoComma-from45 _ (AllFrom45-truth b)) e f h in
    (same_truth a b parts.0, parts.1)

-- no byte of a number is a letter
abbrev AllUpTo57 : List ℕ → Type 0
AllUpTo57 bytes = AllByRecursion (λ byte. byte ≤ 57) bytes

up_to_digits : (ds : List ℕ) → AllDigits 10 ds → AllUpTo57 ds
up_to_digits [] d = tt
up_to_digits (c ∷ cs) d = let range = digit_from_value c d.0 in (omega (arith, range.1), up_to_digits cs d.1)

AllUpTo57-signed_decimal : (number : ℤ) → FitsSigned w64 number → AllUpTo57 (signed_decimal number)
AllUpTo57-signed_decimal (pos n) fits = up_to_digits _ (decimal_is_IsNumeral n (omega (arith, fits.sfits))).0.1
AllUpTo57-signed_decimal (negsuc n) fits = (omega arith, up_to_digits _ (decimal_is_IsNumeral (suc n) (omega (arith, fits.sfits))).0.1)

truth-no_number : (b : Bool) → AllUpTo57 (truth_spelling b) → ⊥
truth-no_number true all = omega (arith, all.0)
truth-no_number false all = omega (arith, all.0)

number-no_truth : (n : ℤ) (b : Bool) (rest after : List ℕ) → FitsSigned w64 n → Ends rest → Ends after → signed_decimal n ++ rest ≢ truth_spelling b ++ after
number-no_truth n b rest after fits e f h =
    let same = (before_comma _ _ rest after (HasNoComma-from45 _ (AllFrom45-signed_decimal n fits)) (HasNoComma-from45 _ (AllFrom45-truth b)) e f h).0 in
    truth-no_number b (subst AllUpTo57 same (AllUpTo57-signed_decimal n fits))

-- a value up to a comma or the end is determined
pub value_apart : (v w : Value) (rest after : List ℕ) → IsLoose v → IsLoose w → Ends rest → Ends after → value_spelling v ++ rest ≡ value_spelling w ++ after → (v ≡ w) × (rest ≡ after)
value_apart (Int m) (Int n) rest after p q e f h =
    let parts = number_apart m n rest after p q e f h in
    (ap Int parts.0, parts.1)
value_apart (Int m) (Text t) rest after p q e f h = absurd (no_quote-from45 _ _ _ (signed_decimal-nonempty m p) (AllFrom45-signed_decimal m p) h)
value_apart (Text s) (Int n) rest after p q e f h = absurd (no_quote-from45 _ _ _ (signed_decimal-nonempty n q) (AllFrom45-signed_decimal n q) (sym h))
value_apart (Int m) (Truth b) rest after p q e f h = absurd (number-no_truth m b rest after p e f h)
value_apart (Truth a) (Int n) rest after p q e f h = absurd (number-no_truth n a after rest q f e (sym h))
value_apart (Truth a) (Truth b) rest after p q e f h =
    let parts = truth_apart a b rest after e f h in
    (ap Truth parts.0, parts.1)
value_apart (Truth a) (Text t) rest after p q e f h = absurd (no_quote-from45 _ _ _ (truth-nonempty a) (AllFrom45-truth a) h)
value_apart (Text s) (Truth b) rest after p q e f h = absurd (no_quote-from45 _ _ _ (truth-nonempty b) (AllFrom45-truth b) (sym h))
value_apart (Text s) (Text t) rest after p q e f h =
    let inner : (flat_map byte_spelling s ++ 34 ∷ []) ++ rest ≡ (flat_map byte_spelling t ++ 34 ∷ []) ++ after = cc in
    let bytes : flat_map byte_spelling s ++ 34 ∷ rest ≡ flat_map byte_spelling t ++ 34 ∷ after =
    sym (append_assoc (flat_map byte_spelling s) (34 ∷ []) rest) ∙ inner ∙ append_assoc (flat_map byte_spelling t) (34 ∷ []) after in
    let parts = text_apart s t rest after bytes in
    (ap Text parts.0, parts.1)

-- a text that isn't one, or behind which something else stands, is no field
pub no_text_field : (bytes text rest : List ℕ) → bytes ≡ flat_map byte_spelling text ++ 34 ∷ rest → (IsText text × Ends rest → ⊥) →
    (t after : List ℕ) → IsText t → Ends after → 34 ∷ bytes ≢ text_spelling t ++ after
no_text_field bytes text rest e none t after is_text ends h =
    let inner : bytes ≡ (flat_map byte_spelling t ++ 34 ∷ []) ++ after = cc in
    let both : flat_map byte_spelling text ++ 34 ∷ rest ≡ flat_map byte_spelling t ++ 34 ∷ after =
    sym e ∙ inner ∙ append_assoc (flat_map byte_spelling t) (34 ∷ []) after in
    let parts = text_apart text t rest after both in
    none (subst IsText (sym parts.0) is_text, subst Ends (sym parts.1) ends)
