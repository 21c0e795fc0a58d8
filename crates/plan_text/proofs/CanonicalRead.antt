-- The bytes of the canonical text are read as its tokens.
use Prim.Native.Nat.{zero, suc}
use Rattle.std.proofs.Common.{◌≡◌, ◌≢◌, refl, ap, ◌∙◌, subst, ℕ, ◌+◌, ◌-◌, ◌*◌, ◌/◌, ◌%◌, ◌^◌, ◌<◌, ◌≤◌, Bool, true, false, cond, not, ◌&&◌, ◌||◌, ◌==◌, nat_le, nat_eq, List, [], ◌∷◌, ◌++◌, length, take, drop, get_or, bytes_eq, Some, None, decimal, append_assoc, arith}
use Rattle.std.proofs.lemmas.Bool.Decides.{nat_tests}
use Rattle.std.proofs.Math.Seq.{take-append_seam, drop-append_seam}
use Rattle.std.proofs.lemmas.Fmt.{decimal_is_IsNumeral, decimal_nonempty, decimal_by_steps, decimal_digit, first_decimal}
use Rattle.std.proofs.lemmas.Str.Parse.{digit_from_value}
use Rattle.std.specs.Str.Parse.{AllDigits}
use Rattle.std.specs.List.{flat_map, list_all, find}
use Rattle.std.specs.Option.{option_map}
use Rattle.std.specs.Char.{is_ascii_digit}
use Rattle.std.proofs.lemmas.Bool.{and_parts}
use Rattle.rows_core.specs.Name.{IsName, is_name, is_reserved, begins_with_letter, is_name_byte}
use Rattle.rows_core.specs.Txt.{IsTxt}
use Rattle.plan_text.specs.declared.token.Token.{Token}
use Rattle.plan_text.specs.declared.token.Token.TheVariants.{Name, Word, Number, Text, Mark}
use Rattle.plan_text.specs.declared.token.Mark as the_mark
use Rattle.plan_text.specs.declared.token.Mark.TheVariants as mark
use Rattle.plan_text.specs.declared.token.Word as the_word
use Rattle.plan_text.specs.declared.token.Word.TheVariants as word
use Rattle.plan_text.specs.Token.{word_bytes, mark_bytes, all_words, word_with, greatest_number, fits_digit, number_behind, number_with, name_or_number, word_or, word_token, before, word_len, word_at, begins_with, begins_with_digit, mark_at, is_escaped, with_byte, text_behind, text_at, mark_token, token_at, IsToken, trimmed}
use Rattle.plan_text.specs.Canonical.{escaped, quoted, spelling}

-- a token ends at the end of the text, or before a space, a comma or a parenthesis
abbrev is_end : ℕ → Bool
is_end c = (c == 32) || ((c == 40) || ((c == 41) || (c == 44)))

abbrev pub Ends : List ℕ → Type 0
Ends [] = Unit {0}
Ends (c ∷ rest) = is_end c ≡ true

-- what holds of these four holds of each end
by_end : (P : ℕ → Type 0) (c : ℕ) → is_end c ≡ true → P 32 → P 40 → P 41 → P 44 → P c
by_end P c e space opening closing comma = by (c == 32) refl (c == 40) refl (c == 41) refl (c == 44) refl e
  where
    is : (k : ℕ) → P k → (c == k) ≡ true → P c
    is k p q = let same : k ≡ c = grind (arith, nat_tests, q) in subst P same p

    by : (s : Bool) → (c == 32) ≡ s → (o : Bool) → (c == 40) ≡ o → (l : Bool) → (c == 41) ≡ l → (m : Bool) → (c == 44) ≡ m → (s || (o || (l || m))) ≡ true → P c
    by true q o r l t m u f = is 32 space q
    by false q true r l t m u f = is 40 opening r
    by false q false r true t m u f = is 41 closing t
    by false q false r false t true u f = is 44 comma u
    by false q false r false t false u f = absurd (cc f)

-- a word up to its end
word_len-whole : (w rest : List ℕ) → list_all is_name_byte w ≡ true → Ends rest → word_len (w ++ rest) ≡ length w
word_len-whole [] [] all e = refl
word_len-whole [] (c ∷ rest) all e = by_end (λ c. word_len (c ∷ rest) ≡ 0) c e refl refl refl refl
word_len-whole (x ∷ w) rest all e =
    let p = and_parts (is_name_byte x) (list_all is_name_byte w) all in
    let one_more : 1 + word_len (w ++ rest) ≡ suc (length w) = omega (arith, word_len-whole w rest p.1 e) in
    ap (λ b. cond (not (not b)) (1 + word_len (w ++ rest)) 0) p.0 ∙ one_more

not_space : (x : ℕ) → is_name_byte x ≡ true → (x == 32) ≡ false
not_space x e = by (x == 32) refl
  where
    by : (b : Bool) → (x == 32) ≡ b → b ≡ false
    by true q = let same : x ≡ 32 = grind (arith, nat_tests, q) in absurd (cc (subst (λ x. is_name_byte x ≡ true) same e))
    by false q = refl

-- the token that a word is, at the front of a text
abbrev AtFront : List ℕ → Token → List ℕ → Type 0
AtFront bytes token rest = token_at (trimmed (bytes ++ rest)) ≡ Some (token, rest)

word_read : (w : List ℕ) (token : Token) (rest : List ℕ) → 0 < length w → list_all is_name_byte w ≡ true → word_token w ≡ Some token → Ends rest → AtFront w token rest
unfolding token_at word_at
word_read [] token rest some all is e = absurd (omega (arith, some))
word_read (x ∷ w) token rest some all is e =
    let first = (and_parts (is_name_byte x) (list_all is_name_byte w) all).0 in
    let text = x ∷ (w ++ rest) in
    let untrimmed : trimmed text ≡ text = ap (λ b. cond b (trimmed (w ++ rest)) text) (not_space x first) in
    let whole : word_len text ≡ length (x ∷ w) = word_len-whole (x ∷ w) rest all e in
    let at : token_at text ≡ word_at text = ap (λ b. cond b (word_at text) (cond (x == 34) (text_at (w ++ rest)) (mark_token x (w ++ rest)))) first in
    ap token_at untrimmed ∙ at ∙ ap (λ n. before (drop n text) (word_token (take n text))) whole
    ∙ ap (λ r. before r (word_token (take (length (x ∷ w)) text))) (drop-append_seam (x ∷ w) rest)
    ∙ ap (λ v. before rest (word_token v)) (take-append_seam (x ∷ w) rest)
    ∙ ap (before rest) is

-- a reserved word
reserved_token : (w : the_word.Word) → word_token (word_bytes w) ≡ Some (Word w)
unfolding word_with
reserved_token word.And = refl
reserved_token _ = refl

reserved : (w : the_word.Word) → (0 < length (word_bytes w)) × (list_all is_name_byte (word_bytes w) ≡ true) × (begins_with_letter (word_bytes w) ≡ true)
reserved word.And = (omega arith, refl, refl)
reserved _ = (omega arith, refl, refl)

-- a name as it comes from a text
abbrev pub GoodName : List ℕ → Type 0
GoodName name = IsName name × (word_with name ≡ None)

name_token : (name : List ℕ) → GoodName name → word_token name ≡ Some (Name name)
name_token name good =
    ap (λ w. word_or w (name_or_number name)) good.1 ∙ ap (λ b. cond b (Some (Name name)) (option_map Number (number_with name))) good.0

name_bytes : (name : List ℕ) → IsName name → (0 < length name) × (list_all is_name_byte name ≡ true)
unfolding is_name
name_bytes [] is = absurd (cc is)
name_bytes (c ∷ cs) is =
    let all = list_all is_name_byte (c ∷ cs) in
    let short = nat_le (length (c ∷ cs)) 64 in
    let p = and_parts ((begins_with_letter (c ∷ cs) && all) && short) (not (is_reserved (c ∷ cs))) is in
    let q = and_parts (begins_with_letter (c ∷ cs) && all) short p.0 in
    (omega arith, (and_parts (begins_with_letter (c ∷ cs)) all q.0).1)

-- the digits of a number
digit_bytes : (ds : List ℕ) → AllDigits 10 ds → list_all is_name_byte ds ≡ true
digit_bytes [] d = refl
digit_bytes (c ∷ cs) d =
    let range = digit_from_value c d.0 in
    let first : is_name_byte c ≡ true = grind (arith, nat_tests, range) in
    ap (λ b. b && list_all is_name_byte cs) first ∙ digit_bytes cs d.1

no_letter : (x c : ℕ) (xs cs : List ℕ) → begins_with_letter (x ∷ xs) ≡ true → c ≤ 57 → bytes_eq (x ∷ xs) (c ∷ cs) ≡ false
no_letter x c xs cs letter digit = by (nat_eq x c) refl
  where
    by : (b : Bool) → nat_eq x c ≡ b → (b && bytes_eq xs cs) ≡ false
    by true q = let same : x ≡ c = grind (arith, nat_tests, q) in absurd (grind (arith, nat_tests, letter, digit, same))
    by false q = refl

no_word : (c : ℕ) (cs : List ℕ) → c ≤ 57 → (ws : List the_word.Word) → find (λ w. bytes_eq (word_bytes w) (c ∷ cs)) ws ≡ None
no_word c cs digit [] = refl
no_word c cs digit (w ∷ ws) = ap (λ b. cond b (Some w) (find (λ w. bytes_eq (word_bytes w) (c ∷ cs)) ws)) (differs (word_bytes w) (reserved w).2) ∙ no_word c cs digit ws
  where
    differs : (bytes : List ℕ) → begins_with_letter bytes ≡ true → bytes_eq bytes (c ∷ cs) ≡ false
    differs [] e = absurd (cc e)
    differs (x ∷ xs) e = no_letter x c xs cs e digit

fits : (v d : ℕ) → d < 10 → v * 10 + d ≤ greatest_number → fits_digit v (48 + d) ≡ true
fits v d small le =
    let digit : is_ascii_digit (48 + d) ≡ true = grind (arith, nat_tests, small) in
    let value : nat_le (v * 10 + ((48 + d) - 48)) greatest_number ≡ true = grind (arith, nat_tests, le) in
    ap (λ b. b && nat_le (v * 10 + ((48 + d) - 48)) greatest_number) digit ∙ value

number_behind-digit : (v d : ℕ) → d < 10 → v * 10 + d ≤ greatest_number → number_behind v ((48 + d) ∷ []) ≡ Some (v * 10 + d)
number_behind-digit v d small le =
    let same : v * 10 + ((48 + d) - 48) ≡ v * 10 + d = omega arith in
    ap (λ b. cond b (Some (v * 10 + ((48 + d) - 48))) None) (fits v d small le) ∙ ap Some same

number_behind-append : (v u : ℕ) (ds cs : List ℕ) → number_behind v ds ≡ Some u → number_behind v (ds ++ cs) ≡ number_behind u cs
number_behind-append v u [] cs e = let same : v ≡ u = cc e in ap (λ n. number_behind n cs) same
number_behind-append v u (d ∷ ds) cs e = by (fits_digit v d) (number_behind-append (v * 10 + (d - 48)) u ds cs) e
  where
    by : (b : Bool) → (number_behind (v * 10 + (d - 48)) ds ≡ Some u → number_behind (v * 10 + (d - 48)) (ds ++ cs) ≡ number_behind u cs) → cond b (number_behind (v * 10 + (d - 48)) ds) None ≡ Some u →
        cond b (number_behind (v * 10 + (d - 48)) (ds ++ cs)) None ≡ number_behind u cs
    by true more f = more f
    by false more f = absurd (cc f)

number_behind-decimal : (n : ℕ) → n < 2 ^ 64 → n ≤ greatest_number → number_behind 0 (decimal n) ≡ Some n
number_behind-decimal = decimal_by_steps (λ n ds. n ≤ greatest_number → number_behind 0 ds ≡ Some n)
    (λ n small le. let same : 0 * 10 + n ≡ n = omega arith in number_behind-digit 0 n small (omega (arith, le)) ∙ ap Some same)
    (λ n ds large front le.
    let same : n / 10 * 10 + n % 10 ≡ n = omega arith in
    number_behind-append 0 (n / 10) ds ((48 + n % 10) ∷ []) (front (omega (arith, le))) ∙ number_behind-digit (n / 10) (n % 10) (omega arith) (omega (arith, le)) ∙ ap Some same)

number_with-all : (ds : List ℕ) → 0 < length ds → (1 < length ds → get_or ds 0 0 ≢ 48) → number_with ds ≡ number_behind 0 ds
number_with-all [] some first = absurd (omega (arith, some))
number_with-all (c ∷ []) some first = refl
number_with-all (c ∷ d ∷ cs) some first = by (c == 48) refl
  where
    by : (b : Bool) → (c == 48) ≡ b → cond b None (number_behind 0 (c ∷ d ∷ cs)) ≡ number_behind 0 (c ∷ d ∷ cs)
    by true q = let same : c ≡ 48 = grind (arith, nat_tests, q) in absurd (first (omega arith) same)
    by false q = refl

no_zero_first : (n : ℕ) → n < 2 ^ 64 → 1 < length (decimal n) → get_or (decimal n) 0 0 ≢ 48
no_zero_first zero small longer e = absurd (omega (arith, longer, ap length (decimal_digit 0 (omega arith))))
no_zero_first (suc k) small longer e = omega (arith, e, first_decimal (suc k) (omega arith) small)

number_with-decimal : (n : ℕ) → n ≤ greatest_number → number_with (decimal n) ≡ Some n
number_with-decimal n le =
    let small : n < 2 ^ 64 = omega (arith, le) in
    number_with-all (decimal n) (decimal_nonempty n small) (no_zero_first n small) ∙ number_behind-decimal n small le

number_token : (n : ℕ) → n ≤ greatest_number → word_token (decimal n) ≡ Some (Number n)
unfolding word_with is_name
number_token n le =
    let small : n < 2 ^ 64 = omega (arith, le) in
    by (decimal n) (decimal_nonempty n small) (decimal_is_IsNumeral n small).0.1 (number_with-decimal n le)
  where
    by : (ds : List ℕ) → 0 < length ds → AllDigits 10 ds → number_with ds ≡ Some n → word_token ds ≡ Some (Number n)
    by [] some d is = absurd (omega (arith, some))
    by (c ∷ cs) some d is =
        let range = digit_from_value c d.0 in
        let letter : begins_with_letter (c ∷ cs) ≡ false = grind (arith, nat_tests, range) in
        ap (λ w. word_or w (name_or_number (c ∷ cs))) (no_word c cs (omega (arith, range)) all_words)
        ∙ ap (λ b. cond (((b && list_all is_name_byte (c ∷ cs)) && nat_le (length (c ∷ cs)) 64) && not (is_reserved (c ∷ cs))) (Some (Name (c ∷ cs))) (option_map Number (number_with (c ∷ cs)))) letter
        ∙ ap (option_map Number) is

-- a text between two `"`
quoted_read : (text rest : List ℕ) → text_behind false (flat_map escaped text ++ 34 ∷ rest) ≡ Some (text, rest)
quoted_read [] rest = refl
quoted_read (c ∷ cs) rest = by (is_escaped c) refl (quoted_read cs rest)
  where
    behind : List ℕ
    behind = flat_map escaped cs ++ 34 ∷ rest

    plain : (q : Bool) → (c == 34) ≡ q → (s : Bool) → (c == 92) ≡ s → (q || s) ≡ false → text_behind false behind ≡ Some (cs, rest) →
        cond q (Some ([], behind)) (cond s (text_behind s behind) (with_byte c (text_behind s behind))) ≡ Some (c ∷ cs, rest)
    plain true q s t e more = absurd (cc e)
    plain false q true t e more = absurd (cc e)
    plain false q false t e more = ap (with_byte c) more

    by : (b : Bool) → is_escaped c ≡ b → text_behind false behind ≡ Some (cs, rest) → text_behind false ((cond b (92 ∷ c ∷ []) (c ∷ []) ++ flat_map escaped cs) ++ 34 ∷ rest) ≡ Some (c ∷ cs, rest)
    by true e more = ap (λ b. cond b (with_byte c (text_behind false behind)) None) e ∙ ap (with_byte c) more
    by false e more = plain (c == 34) refl (c == 92) refl e more

text_read : (text rest : List ℕ) → AtFront (quoted text) (Text text) rest
unfolding token_at
text_read text rest =
    ap (λ bytes. option_map (λ f. (Text f.0, f.1)) (text_behind false bytes)) (append_assoc (flat_map escaped text) (34 ∷ []) rest)
    ∙ ap (option_map (λ f. (Text f.0, f.1))) (quoted_read text rest)

-- a mark
abbrev pub is_sign : the_mark.Mark → Bool
is_sign mark.Sign = true
is_sign _ = false

no_equal : (rest : List ℕ) → Ends rest → begins_with 61 rest ≡ false
no_equal [] e = refl
no_equal (c ∷ rest) e = by_end (λ c. begins_with 61 (c ∷ rest) ≡ false) c e refl refl refl refl

no_digit : (rest : List ℕ) → Ends rest → begins_with_digit rest ≡ false
no_digit [] e = refl
no_digit (c ∷ rest) e = by_end (λ c. begins_with_digit (c ∷ rest) ≡ false) c e refl refl refl refl

mark_read : (m : the_mark.Mark) → is_sign m ≡ false → (rest : List ℕ) → Ends rest → AtFront (mark_bytes m) (Mark m) rest
unfolding token_at mark_at
mark_read mark.Sign other rest e = absurd (cc other)
mark_read mark.Less other rest e = rw (no_equal rest e) refl
mark_read mark.Greater other rest e = rw (no_equal rest e) refl
mark_read mark.Minus other rest e = rw (no_digit rest e) refl
mark_read _ other rest e = refl

pub sign_read : (rest : List ℕ) → begins_with_digit rest ≡ true → AtFront (mark_bytes mark.Sign) (Mark mark.Sign) rest
unfolding token_at mark_at
sign_read rest e = rw e refl

pub decimal_digit_first : (n : ℕ) → n < 2 ^ 64 → (rest : List ℕ) → begins_with_digit (decimal n ++ rest) ≡ true
decimal_digit_first n small rest = by (decimal n) (decimal_nonempty n small) (decimal_is_IsNumeral n small).0.1
  where
    by : (ds : List ℕ) → 0 < length ds → AllDigits 10 ds → begins_with_digit (ds ++ rest) ≡ true
    by [] some d = absurd (omega (arith, some))
    by (c ∷ cs) some d = let range = digit_from_value c d.0 in grind (arith, nat_tests, range)

-- a token that is read where it ends
abbrev pub IsGood : Token → Type 0
IsGood (Name name) = GoodName name
IsGood (Word word) = Unit {0}
IsGood (Number number) = number ≤ greatest_number
IsGood (Text text) = IsTxt text
IsGood (Mark mark) = is_sign mark ≡ false

pub token_read : (t : Token) → IsGood t → (rest : List ℕ) → Ends rest → AtFront (spelling t) t rest
token_read (Name name) good rest e = let b = name_bytes name good.0 in word_read name (Name name) rest b.0 b.1 (name_token name good) e
token_read (Word w) good rest e = word_read (word_bytes w) (Word w) rest (reserved w).0 (reserved w).1 (reserved_token w) e
token_read (Number n) good rest e =
    let small : n < 2 ^ 64 = omega (arith, good) in
    word_read (decimal n) (Number n) rest (decimal_nonempty n small) (digit_bytes (decimal n) (decimal_is_IsNumeral n small).0.1) (number_token n good) e
token_read (Text text) good rest e = text_read text rest
token_read (Mark m) good rest e = mark_read m good rest e

pub is_good_token : (t : Token) → IsGood t → IsToken t
is_good_token (Name name) good = tt
is_good_token (Word w) good = tt
is_good_token (Number n) good = tt
is_good_token (Text text) good = good
is_good_token (Mark m) good = tt
