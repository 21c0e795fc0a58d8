-- The tokens of a text are those that `tokens_in` gives.
use Prim.Native.Nat.{zero, suc}
use Rattle.std.proofs.Common.{◌≡◌, refl, ap, ◌∙◌, subst, ℕ, ◌+◌, ◌≤◌, ◌<◌, Bool, true, false, cond, ◌&&◌, ◌==◌, not, nat_le, List, [], ◌∷◌, length, drop, take, Option, Some, None, arith}
use Rattle.std.proofs.lemmas.Bool.Decides.{nat_tests}
use Rattle.std.proofs.lemmas.List.{length-drop}
use Rattle.std.proofs.lemmas.Str.{IsUtf8-from_is_utf8, is_utf8-from_IsUtf8}
use Rattle.std.specs.List.{list_all}
use Rattle.std.specs.Option.{option_map, option_and_then}
use Rattle.std.specs.Str.{is_utf8}
use Rattle.std.proofs.lemmas.Bool.{and_parts}
use Rattle.rows_core.specs.Name.{is_name_byte}
use Rattle.rows_core.specs.Txt.{is_text_byte}
use Rattle.plan_text.specs.declared.token.Token.{Token}
use Rattle.plan_text.specs.declared.token.Token.TheVariants.{Name, Word, Number, Text, Mark}
use Rattle.plan_text.specs.declared.token.Mark as the_mark
use Rattle.plan_text.specs.declared.token.Mark.TheVariants as mark
use Rattle.plan_text.specs.Token.{At, word_len, word_token, word_at, begins_with, begins_with_digit, with_equal, single_mark, mark_at, is_escaped, with_byte, text_behind, text_at, mark_token, token_at, IsToken, trimmed, AreTokens}
use Rattle.plan_text.specs.TextTokens.{is_token, with_token, tokens_step, tokens_by, tokens_in}

pub map_some : {A B : Type 0} (f : A → B) (o : Option A) (y : B) → option_map f o ≡ Some y → (x : A) × (o ≡ Some x) × (f x ≡ y)
map_some f None y q = absurd (cc q)
map_some f (Some x) y q = (x, refl, cc q)

-- the tests are what they test
is_token-from : (t : Token) → IsToken t → is_token t ≡ true
is_token-from (Name name) is = refl
is_token-from (Word word) is = refl
is_token-from (Number number) is = refl
is_token-from (Mark m) is = refl
is_token-from (Text text) is =
    let few : nat_le (length text) 1000 ≡ true = grind (arith, nat_tests, is.1) in
    λ i. (is_utf8-from_IsUtf8 text is.0.0 i && is.0.1 i) && few i

IsToken-from : (t : Token) → is_token t ≡ true → IsToken t
IsToken-from (Name name) is = tt
IsToken-from (Word word) is = tt
IsToken-from (Number number) is = tt
IsToken-from (Mark m) is = tt
IsToken-from (Text text) is =
    let p = and_parts (is_utf8 text && list_all is_text_byte text) (nat_le (length text) 1000) is in
    let q = and_parts (is_utf8 text) (list_all is_text_byte text) p.0 in
    ((IsUtf8-from_is_utf8 text q.0, q.1), grind (arith, nat_tests, p.1))

-- each token has a byte
text_shorter : (escaped : Bool) (bytes : List ℕ) (f : List ℕ × List ℕ) → text_behind escaped bytes ≡ Some f → length f.1 < length bytes
text_shorter escaped [] f q = absurd (cc q)
text_shorter escaped (c ∷ cs) f q = by escaped (is_escaped c) (c == 34) (c == 92) (text_behind (not escaped && (c == 92)) cs) (text_shorter (not escaped && (c == 92)) cs) q
  where
    through : (o : Option (List ℕ × List ℕ)) → ((g : List ℕ × List ℕ) → o ≡ Some g → length g.1 < length cs) → with_byte c o ≡ Some f → length f.1 < length (c ∷ cs)
    through o again q =
        let s = map_some (λ f. (c ∷ f.0, f.1)) o f q in
        let less = again s.0 s.1 in
        let same : s.0.1 ≡ f.1 = ap (λ p. p.1) s.2 in
        omega (arith, less, ap length same)

    by : (escaped is quote back : Bool) (o : Option (List ℕ × List ℕ)) → ((g : List ℕ × List ℕ) → o ≡ Some g → length g.1 < length cs)
        → cond escaped (cond is (with_byte c o) None) (cond quote (Some ([], cs)) (cond back o (with_byte c o))) ≡ Some f → length f.1 < length (c ∷ cs)
    by true true quote back o again q = through o again q
    by true false quote back o again q = absurd (cc q)
    by false is true back o again q = let same : Some ([], cs) ≡ Some f = q in let rest : Some cs ≡ Some f.1 = ap (option_map (λ p. p.1)) same in let is_rest : cs ≡ f.1 = cc rest in omega (arith, ap length is_rest)
    by false is false true o again q = let less = again f q in omega (arith, less)
    by false is false false o again q = through o again q

equal_no_longer : (two one : Option the_mark.Mark) (rest : List ℕ) (m : the_mark.Mark × List ℕ) → with_equal two one rest ≡ Some m → length m.1 ≤ length rest
equal_no_longer two one rest m q = by (begins_with 61 rest) q
  where
    by : (b : Bool) → cond b (option_map (λ m. (m, drop 1 rest)) two) (option_map (λ m. (m, rest)) one) ≡ Some m → length m.1 ≤ length rest
    by true q =
        let s = map_some (λ m. (m, drop 1 rest)) two m q in
        let less = length-drop 1 rest in
        let same : drop 1 rest ≡ m.1 = ap (λ p. p.1) s.2 in
        omega (arith, less, ap length same)
    by false q =
        let s = map_some (λ m. (m, rest)) one m q in
        let same : rest ≡ m.1 = ap (λ p. p.1) s.2 in
        omega (arith, ap length same)

mark_no_longer : (c : ℕ) (rest : List ℕ) (m : the_mark.Mark × List ℕ) → mark_at c rest ≡ Some m → length m.1 ≤ length rest
unfolding mark_at
mark_no_longer c rest m q = by (c == 33) (c == 60) (c == 62) (c == 45) q
  where
    by : (a b d e : Bool)
        → cond a (with_equal (Some mark.NotEqual) None rest) (cond b (with_equal (Some mark.LessEqual) (Some mark.Less) rest)
        (cond d (with_equal (Some mark.GreaterEqual) (Some mark.Greater) rest)
        (cond e (Some (cond (begins_with_digit rest) mark.Sign mark.Minus, rest)) (option_map (λ m. (m, rest)) (single_mark c))))) ≡ Some m
        → length m.1 ≤ length rest
    by true b d e q = equal_no_longer (Some mark.NotEqual) None rest m q
    by false true d e q = equal_no_longer (Some mark.LessEqual) (Some mark.Less) rest m q
    by false false true e q = equal_no_longer (Some mark.GreaterEqual) (Some mark.Greater) rest m q
    by false false false true q =
        let behind : Some rest ≡ Some m.1 = ap (option_map (λ p. p.1)) q in
        let same : rest ≡ m.1 = cc behind in
        omega (arith, ap length same)
    by false false false false q =
        let s = map_some (λ m. (m, rest)) (single_mark c) m q in
        let same : rest ≡ m.1 = ap (λ p. p.1) s.2 in
        omega (arith, ap length same)

word_has_bytes : (c : ℕ) (cs : List ℕ) → is_name_byte c ≡ true → word_len (c ∷ cs) ≡ 1 + word_len cs
word_has_bytes c cs e = ap (λ b. cond (not (not b)) (1 + word_len cs) 0) e

token_shorter : (c : ℕ) (cs : List ℕ) (t : Token) (rest : List ℕ) → token_at (c ∷ cs) ≡ Some (t, rest) → length rest < length (c ∷ cs)
unfolding token_at word_at
token_shorter c cs t rest q = by (is_name_byte c) refl (c == 34) q
  where
    by : (b : Bool) → is_name_byte c ≡ b → (quote : Bool) → cond b (word_at (c ∷ cs)) (cond quote (text_at cs) (mark_token c cs)) ≡ Some (t, rest) → length rest < length (c ∷ cs)
    by true e quote q =
        let s = map_some (λ t. (t, drop (word_len (c ∷ cs)) (c ∷ cs))) (word_token (take (word_len (c ∷ cs)) (c ∷ cs))) (t, rest) q in
        let same : drop (word_len (c ∷ cs)) (c ∷ cs) ≡ rest = ap (λ p. p.1) s.2 in
        let count = length-drop (word_len (c ∷ cs)) (c ∷ cs) in
        let some = word_has_bytes c cs e in
        omega (arith, count, some, ap length same)
    by false e true q =
        let s = map_some (λ f. (Text f.0, f.1)) (text_behind false cs) (t, rest) q in
        let less = text_shorter false cs s.0 s.1 in
        let same : s.0.1 ≡ rest = ap (λ p. p.1) s.2 in
        omega (arith, less, ap length same)
    by false e false q =
        let s = map_some (λ m. (Mark m.0, m.1)) (mark_at c cs) (t, rest) q in
        let less = mark_no_longer c cs s.0 s.1 in
        let same : s.0.1 ≡ rest = ap (λ p. p.1) s.2 in
        omega (arith, less, ap length same)

trimmed_no_longer : (text : List ℕ) → length (trimmed text) ≤ length text
trimmed_no_longer [] = omega arith
trimmed_no_longer (c ∷ cs) = by (c == 32) (trimmed_no_longer cs)
  where
    by : (b : Bool) → length (trimmed cs) ≤ length cs → length (cond b (trimmed cs) (c ∷ cs)) ≤ length (c ∷ cs)
    by true less = omega (arith, less)
    by false less = omega arith

-- nothing but spaces is no token
no_token : (t : Token) (rest : List ℕ) → token_at [] ≡ Some (t, rest) → ⊥
unfolding token_at
no_token t rest e = cc e

-- what stands behind a token is shorter, and so without its spaces too
pub behind_shorter : (text : List ℕ) (t : Token) (rest : List ℕ) → token_at text ≡ Some (t, rest) → length (trimmed rest) < length text
behind_shorter [] t rest e = absurd (no_token t rest e)
behind_shorter (c ∷ cs) t rest e =
    let shorter = token_shorter c cs t rest e in
    let few = trimmed_no_longer rest in
    omega (arith, shorter, few)

-- what it gives are the text's tokens
pub tokens_are : (n : ℕ) (text : List ℕ) (tokens : List Token) → tokens_by n text ≡ Some tokens → AreTokens tokens text
unfolding tokens_by
tokens_are zero text tokens q = absurd (cc q)
tokens_are (suc n) text tokens q = by (trimmed text) refl q (tokens_are n)
  where
    by : (bytes : List ℕ) → trimmed text ≡ bytes → tokens_step (tokens_by n) bytes ≡ Some tokens
        → ((text : List ℕ) (tokens : List Token) → tokens_by n text ≡ Some tokens → AreTokens tokens text) → AreTokens tokens text
    by [] e q again = let none : [] ≡ tokens = cc q in subst (λ ts. AreTokens ts text) none e
    by (c ∷ cs) e q again = some (token_at (c ∷ cs)) refl q
      where
        some : (o : At) → token_at (c ∷ cs) ≡ o → option_and_then (with_token (tokens_by n)) o ≡ Some tokens → AreTokens tokens text
        some None f q = absurd (cc q)
        some (Some found) f q = test (is_token found.0) refl q
          where
            test : (b : Bool) → is_token found.0 ≡ b → cond b (option_map (λ ts. found.0 ∷ ts) (tokens_by n found.1)) None ≡ Some tokens → AreTokens tokens text
            test true is q =
                let s = map_some (λ ts. found.0 ∷ ts) (tokens_by n found.1) tokens q in
                subst (λ ts. AreTokens ts text) s.2 (found.1, ap token_at e ∙ f, IsToken-from found.0 is, again found.1 s.0 s.1)
            test false is q = absurd (cc q)

-- the text's tokens are what it gives
pub tokens_are_given : (n : ℕ) (text : List ℕ) (tokens : List Token) → length text < n → AreTokens tokens text → tokens_by n text ≡ Some tokens
unfolding tokens_by
tokens_are_given zero text tokens less a = absurd (omega (arith, less))
tokens_are_given (suc n) text [] less a = ap (tokens_step (tokens_by n)) a
tokens_are_given (suc n) text (t ∷ tokens) less a = by (trimmed text) refl a.1 (tokens_are_given n a.0 tokens)
  where
    by : (bytes : List ℕ) → trimmed text ≡ bytes → token_at bytes ≡ Some (t, a.0) → (length a.0 < n → AreTokens tokens a.0 → tokens_by n a.0 ≡ Some tokens)
        → tokens_step (tokens_by n) bytes ≡ Some (t ∷ tokens)
    by [] e f again = absurd (no_token t a.0 f)
    by (c ∷ cs) e f again =
        let shorter = token_shorter c cs t a.0 f in
        let few = trimmed_no_longer text in
        let others = again (omega (arith, shorter, few, ap length e, less)) a.3 in
        ap (option_and_then (with_token (tokens_by n))) f
        ∙ ap (λ b. cond b (option_map (λ ts. t ∷ ts) (tokens_by n a.0)) None) (is_token-from t a.2)
        ∙ ap (option_map (λ ts. t ∷ ts)) others

module _ (text : List ℕ) where
  pub tokens_in-some : (tokens : List Token) → AreTokens tokens text → tokens_in text ≡ Some tokens
  tokens_in-some tokens a = tokens_are_given (suc (length text)) text tokens (omega arith) a

  pub tokens_in-none : ((tokens : List Token) → AreTokens tokens text → ⊥) → tokens_in text ≡ None
  tokens_in-none none = by (tokens_in text) refl
    where
      by : (o : Option (List Token)) → tokens_in text ≡ o → tokens_in text ≡ None
      by None e = e
      by (Some tokens) e = absurd (none tokens (tokens_are (suc (length text)) text tokens e))
