-- A text that has tokens is UTF-8: its texts are, and all other bytes are ASCII.
use Rattle.std.proofs.Common.{◌≡◌, refl, sym, ap, subst, ℕ, ◌+◌, ◌≤◌, ◌<◌, Bool, true, false, cond, ◌&&◌, ◌==◌, not, nat_le, List, [], ◌∷◌, ◌++◌, length, drop, take, get_or, codes, Option, Some, None, append_assoc, append-nil, length-append, arith}
use Rattle.std.proofs.Math.Seq.{take-append_seam, drop-append_seam}
use Rattle.std.proofs.lemmas.Bool.Decides.{nat_tests}
use Rattle.std.proofs.lemmas.Grind.{common_steps}
use Rattle.std.proofs.lemmas.List.{take-append-drop}
use Rattle.std.proofs.lemmas.Str.{IsUtf8-nil, IsUtf8-append, IsUtf8-take, IsUtf8-drop, IsUtf8-from_ascii, IsCharBoundary-before_ascii, IsCharBoundary-after_ascii, IsCharBoundary-at_seam}
use Rattle.std.proofs.lemmas.Str.Ascii.{IsAscii-nil, IsAscii-cons}
use Rattle.std.specs.List.{list_all}
use Rattle.std.specs.Option.{option_map}
use Rattle.std.specs.Str.{IsUtf8, IsAscii}
use Rattle.std.proofs.lemmas.Bool.{and_parts}
use Rattle.rows_core.specs.Kind.{kind_word}
use Rattle.rows_core.specs.Name.{is_name, is_reserved, is_name_byte, begins_with_letter, IsName}
use Rattle.rows_core.specs.declared.kind.Kind as the_kind
use Rattle.rows_core.specs.declared.kind.Kind.TheVariants as kind
use Rattle.plan_text.specs.declared.token.Token.{Token}
use Rattle.plan_text.specs.declared.token.Token.TheVariants.{Text, Mark}
use Rattle.plan_text.specs.declared.token.Mark as the_mark
use Rattle.plan_text.specs.declared.token.Mark.TheVariants as mark
use Rattle.plan_text.specs.Token.{ends_word, word_len, word_token, word_at, begins_with, begins_with_digit, with_equal, single_mark, mark_at, is_escaped, with_byte, text_behind, text_at, mark_token, token_at, IsToken, trimmed, AreTokens}
use Rattle.plan_text.proofs.TextTokenLaws.{map_some}

-- ---- a text is put together, and cut, at an ASCII byte

utf8-cons : (c : ℕ) (cs : List ℕ) → c < 128 → IsUtf8 cs → IsUtf8 (c ∷ cs)
utf8-cons c cs low u = IsUtf8-append (c ∷ []) cs (IsUtf8-from_ascii (c ∷ []) (IsAscii-cons c [] low IsAscii-nil)) u

at_seam : (p : List ℕ) (c : ℕ) (cs : List ℕ) → get_or (p ++ c ∷ cs) (length p) 0 ≡ c
at_seam [] c cs = refl
at_seam (d ∷ p) c cs = at_seam p c cs

module _ (p : List ℕ) (c : ℕ) (cs : List ℕ) (low : c < 128) (u : IsUtf8 (p ++ c ∷ cs)) where
  boundary : (length p ≤ length (p ++ c ∷ cs)) × (length p < length (p ++ c ∷ cs) → 128 ≤ get_or (p ++ c ∷ cs) (length p) 0 → 192 ≤ get_or (p ++ c ∷ cs) (length p) 0)
  boundary = (omega (arith, length-append p (c ∷ cs)), λ less high. absurd (omega (arith, low, high, at_seam p c cs)))

  before-ascii : IsUtf8 p
  before-ascii = subst IsUtf8 (take-append_seam p (c ∷ cs)) (IsUtf8-take (p ++ c ∷ cs) (length p) u boundary)

  from-ascii : IsUtf8 (c ∷ cs)
  from-ascii = subst IsUtf8 (drop-append_seam p (c ∷ cs)) (IsUtf8-drop (p ++ c ∷ cs) (length p) u boundary)

  behind-ascii : IsUtf8 cs
  behind-ascii = IsUtf8-drop (c ∷ cs) 1 from-ascii (IsCharBoundary-after_ascii (c ∷ cs) 0 from-ascii (omega arith) low)

-- ---- a text within quotes, with the `\` before each `"` and `\` of it

-- the bytes that stand behind a `\`
escaped_low : (c : ℕ) → is_escaped c ≡ true → c < 128
escaped_low c e = grind (arith, nat_tests, e)

abbrev Found : Type 0
Found = Option (List ℕ × List ℕ)

-- behind a `\` the text may be cut
escaped_cut : (p cs : List ℕ) (f : List ℕ × List ℕ) → text_behind true cs ≡ Some f → IsUtf8 (p ++ f.0) → IsUtf8 p × IsUtf8 f.0
escaped_cut p [] f q u = absurd (cc q)
escaped_cut p (c ∷ cs) f q u = by (is_escaped c) refl (text_behind false cs) q
  where
    by : (is : Bool) → is_escaped c ≡ is → (o : Found) → cond is (with_byte c o) None ≡ Some f → IsUtf8 p × IsUtf8 f.0
    by true e o q =
        let s = map_some (λ f. (c ∷ f.0, f.1)) o f q in
        let front : c ∷ s.0.0 ≡ f.0 = ap (λ g. g.0) s.2 in
        let v = subst (λ bytes. IsUtf8 (p ++ bytes)) (sym front) u in
        (before-ascii p c s.0.0 (escaped_low c e) v, subst IsUtf8 front (from-ascii p c s.0.0 (escaped_low c e) v))
    by false e o q = absurd (cc q)

-- with these bytes before it, which may end within a character
abbrev HasUtf8 : Bool → List ℕ → Type 0
HasUtf8 escaped cs = (p : List ℕ) (f : List ℕ × List ℕ) → text_behind escaped cs ≡ Some f → IsUtf8 (p ++ f.0) → IsUtf8 f.1 → IsUtf8 (p ++ cs)

text_utf8 : (escaped : Bool) (cs : List ℕ) → HasUtf8 escaped cs
text_utf8 escaped [] p f q u v = absurd (cc q)
text_utf8 true (c ∷ cs) p f q u v = by (text_utf8 false cs) (is_escaped c) q
  where
    by : HasUtf8 false cs → (is : Bool) → cond is (with_byte c (text_behind false cs)) None ≡ Some f → IsUtf8 (p ++ c ∷ cs)
    by again true q =
        let s = map_some (λ f. (c ∷ f.0, f.1)) (text_behind false cs) f q in
        let front : c ∷ s.0.0 ≡ f.0 = ap (λ g. g.0) s.2 in
        let rest : s.0.1 ≡ f.1 = ap (λ g. g.1) s.2 in
        let w = subst (λ bytes. IsUtf8 (p ++ bytes)) (sym front) u in
        subst IsUtf8 (append_assoc p (c ∷ []) cs)
        (again (p ++ c ∷ []) s.0 s.1 (subst IsUtf8 (sym (append_assoc p (c ∷ []) s.0.0)) w) (subst IsUtf8 (sym rest) v))
    by again false q = absurd (cc q)
text_utf8 false (c ∷ cs) p f q u v = by (text_utf8 true cs) (text_utf8 false cs) (c == 34) refl (c == 92) refl q
  where
    by : HasUtf8 true cs → HasUtf8 false cs → (quote : Bool) → (c == 34) ≡ quote → (back : Bool) → (c == 92) ≡ back
        → cond quote (Some ([], cs)) (cond back (text_behind back cs) (with_byte c (text_behind back cs))) ≡ Some f → IsUtf8 (p ++ c ∷ cs)
    by escaped again true e back d q =
        let low : c < 128 = grind (arith, nat_tests, e) in
        let none : [] ≡ f.0 = cc (ap (option_map (λ g. g.0)) q) in
        let rest : cs ≡ f.1 = cc (ap (option_map (λ g. g.1)) q) in
        IsUtf8-append p (c ∷ cs) (subst IsUtf8 (append-nil p) (subst (λ bytes. IsUtf8 (p ++ bytes)) (sym none) u))
        (utf8-cons c cs low (subst IsUtf8 (sym rest) v))
    by escaped again false e true d q =
        let low : c < 128 = grind (arith, nat_tests, d) in
        let cut = escaped_cut p cs f q u in
        IsUtf8-append p (c ∷ cs) cut.0 (utf8-cons c cs low (escaped [] f q cut.1 v))
    by escaped again false e false d q =
        let s = map_some (λ f. (c ∷ f.0, f.1)) (text_behind false cs) f q in
        let front : c ∷ s.0.0 ≡ f.0 = ap (λ g. g.0) s.2 in
        let rest : s.0.1 ≡ f.1 = ap (λ g. g.1) s.2 in
        let w = subst (λ bytes. IsUtf8 (p ++ bytes)) (sym front) u in
        subst IsUtf8 (append_assoc p (c ∷ []) cs)
        (again (p ++ c ∷ []) s.0 s.1 (subst IsUtf8 (sym (append_assoc p (c ∷ []) s.0.0)) w) (subst IsUtf8 (sym rest) v))

-- ---- words

name_byte_low : (c : ℕ) → is_name_byte c ≡ true → c < 128
name_byte_low c e = grind (arith, nat_tests, e)

take-more : (n c : ℕ) (cs : List ℕ) → take (1 + n) (c ∷ cs) ≡ c ∷ take n cs
take-more n c cs = grind (arith, common_steps)

word_ascii : (cs : List ℕ) → IsAscii (take (word_len cs) cs)
word_ascii [] = IsAscii-nil
word_ascii (c ∷ cs) = by (is_name_byte c) refl (word_ascii cs)
  where
    by : (is : Bool) → is_name_byte c ≡ is → IsAscii (take (word_len cs) cs) → IsAscii (take (cond (not (not is)) (1 + word_len cs) 0) (c ∷ cs))
    by true e others = rw take-more (IsAscii-cons c (take (word_len cs) cs) (name_byte_low c e) others)
    by false e others = IsAscii-nil

word_utf8 : (cs : List ℕ) (rest : List ℕ) → drop (word_len cs) cs ≡ rest → IsUtf8 rest → IsUtf8 cs
word_utf8 cs rest e u =
    subst IsUtf8 (take-append-drop (word_len cs) cs)
    (IsUtf8-append (take (word_len cs) cs) (drop (word_len cs) cs) (IsUtf8-from_ascii (take (word_len cs) cs) (word_ascii cs)) (subst IsUtf8 (sym e) u))

-- ---- marks

-- a test for an ASCII byte that passes, or the next one
tested : {A : Type 0} (c k : ℕ) (P : Type 0) (b : Bool) → (c == k) ≡ b → (here next : Option A) (m : A) → (c ≡ k → P) → (next ≡ Some m → P) → cond b here next ≡ Some m → P
tested c k P true e here next m on other q = on (grind (arith, nat_tests, e))
tested c k P false e here next m on other q = other q

single_low : (c : ℕ) (m : the_mark.Mark) → single_mark c ≡ Some m → c < 128
single_low c m q =
    test 124 (omega arith) _ _ (test 44 (omega arith) _ _ (test 40 (omega arith) _ _ (test 41 (omega arith) _ _ (test 61 (omega arith) _ _
    (test 43 (omega arith) _ _ (test 42 (omega arith) _ _ (test 47 (omega arith) _ _ (test 37 (omega arith) _ _ (λ q. absurd (cc q)))))))))) q
  where
    test : (k : ℕ) → k < 128 → (here next : Option the_mark.Mark) → (next ≡ Some m → c < 128) → cond (c == k) here next ≡ Some m → c < 128
    test k low here next other q = tested c k (c < 128) (c == k) refl here next m (λ e. omega (arith, low, e)) other q

-- a mark, and a `=` behind it that belongs to it
equal_utf8 : (two one : Option the_mark.Mark) (rest : List ℕ) (m : the_mark.Mark × List ℕ) → with_equal two one rest ≡ Some m → IsUtf8 m.1 → IsUtf8 rest
equal_utf8 two one [] m q u = IsUtf8-nil
equal_utf8 two one (d ∷ rest) m q u = by (d == 61) refl q
  where
    by : (b : Bool) → (d == 61) ≡ b → cond b (option_map (λ m. (m, rest)) two) (option_map (λ m. (m, d ∷ rest)) one) ≡ Some m → IsUtf8 (d ∷ rest)
    by true e q =
        let s = map_some (λ m. (m, rest)) two m q in
        let same : rest ≡ m.1 = ap (λ p. p.1) s.2 in
        utf8-cons d rest (grind (arith, nat_tests, e)) (subst IsUtf8 (sym same) u)
    by false e q =
        let s = map_some (λ m. (m, d ∷ rest)) one m q in
        let same : d ∷ rest ≡ m.1 = ap (λ p. p.1) s.2 in
        subst IsUtf8 (sym same) u

mark_utf8 : (c : ℕ) (rest : List ℕ) (m : the_mark.Mark × List ℕ) → mark_at c rest ≡ Some m → IsUtf8 m.1 → IsUtf8 (c ∷ rest)
unfolding mark_at
mark_utf8 c rest m q u = by (c == 33) refl (c == 60) refl (c == 62) refl (c == 45) refl q
  where
    by : (a : Bool) → (c == 33) ≡ a → (b : Bool) → (c == 60) ≡ b → (d : Bool) → (c == 62) ≡ d → (e : Bool) → (c == 45) ≡ e
        → cond a (with_equal (Some mark.NotEqual) None rest) (cond b (with_equal (Some mark.LessEqual) (Some mark.Less) rest)
        (cond d (with_equal (Some mark.GreaterEqual) (Some mark.Greater) rest)
        (cond e (Some (cond (begins_with_digit rest) mark.Sign mark.Minus, rest)) (option_map (λ m. (m, rest)) (single_mark c))))) ≡ Some m
        → IsUtf8 (c ∷ rest)
    by true is b _ d _ e _ q = utf8-cons c rest (grind (arith, nat_tests, is)) (equal_utf8 (Some mark.NotEqual) None rest m q u)
    by false _ true is d _ e _ q = utf8-cons c rest (grind (arith, nat_tests, is)) (equal_utf8 (Some mark.LessEqual) (Some mark.Less) rest m q u)
    by false _ false _ true is e _ q = utf8-cons c rest (grind (arith, nat_tests, is)) (equal_utf8 (Some mark.GreaterEqual) (Some mark.Greater) rest m q u)
    by false _ false _ false _ true is q =
        let same : rest ≡ m.1 = cc (ap (option_map (λ p. p.1)) q) in
        utf8-cons c rest (grind (arith, nat_tests, is)) (subst IsUtf8 (sym same) u)
    by false _ false _ false _ false _ q =
        let s = map_some (λ m. (m, rest)) (single_mark c) m q in
        let same : rest ≡ m.1 = ap (λ p. p.1) s.2 in
        utf8-cons c rest (single_low c s.0 s.1) (subst IsUtf8 (sym same) u)

-- ---- tokens

text_token : (t : List ℕ) (token : Token) → Text t ≡ token → IsToken token → IsUtf8 t
text_token t token e is = (subst IsToken (sym e) is).0.0

token_utf8 : (text : List ℕ) (t : Token) (rest : List ℕ) → token_at text ≡ Some (t, rest) → IsToken t → IsUtf8 rest → IsUtf8 text
unfolding token_at word_at
token_utf8 [] t rest q is u = IsUtf8-nil
token_utf8 (c ∷ cs) t rest q is u = by (is_name_byte c) (c == 34) refl q
  where
    by : (name quote : Bool) → (c == 34) ≡ quote → cond name (word_at (c ∷ cs)) (cond quote (text_at cs) (mark_token c cs)) ≡ Some (t, rest) → IsUtf8 (c ∷ cs)
    by true quote e q =
        let s = map_some (λ t. (t, drop (word_len (c ∷ cs)) (c ∷ cs))) (word_token (take (word_len (c ∷ cs)) (c ∷ cs))) (t, rest) q in
        word_utf8 (c ∷ cs) rest (ap (λ p. p.1) s.2) u
    by false true e q =
        let s = map_some (λ f. (Text f.0, f.1)) (text_behind false cs) (t, rest) q in
        let behind : s.0.1 ≡ rest = ap (λ p. p.1) s.2 in
        utf8-cons c cs (grind (arith, nat_tests, e))
        (text_utf8 false cs [] s.0 s.1 (text_token s.0.0 t (ap (λ p. p.0) s.2) is) (subst IsUtf8 (sym behind) u))
    by false false e q =
        let s = map_some (λ m. (Mark m.0, m.1)) (mark_at c cs) (t, rest) q in
        let behind : s.0.1 ≡ rest = ap (λ p. p.1) s.2 in
        mark_utf8 c cs s.0 s.1 (subst IsUtf8 (sym behind) u)

-- with spaces before it
spaced_utf8 : (text : List ℕ) → IsUtf8 (trimmed text) → IsUtf8 text
spaced_utf8 [] u = u
spaced_utf8 (c ∷ cs) u = by (spaced_utf8 cs) (c == 32) refl u
  where
    by : (IsUtf8 (trimmed cs) → IsUtf8 cs) → (b : Bool) → (c == 32) ≡ b → IsUtf8 (cond b (trimmed cs) (c ∷ cs)) → IsUtf8 (c ∷ cs)
    by again true e u = utf8-cons c cs (grind (arith, nat_tests, e)) (again u)
    by again false e u = u

pub tokens-utf8 : (tokens : List Token) (text : List ℕ) → AreTokens tokens text → IsUtf8 text
tokens-utf8 [] text a = spaced_utf8 text (subst IsUtf8 (sym a) IsUtf8-nil)
tokens-utf8 (t ∷ tokens) text a = spaced_utf8 text (token_utf8 (trimmed text) t a.0 a.1 a.2 (tokens-utf8 tokens a.0 a.3))

-- ---- names and the words of kinds

all-name_bytes-ascii : (cs : List ℕ) → list_all is_name_byte cs ≡ true → IsAscii cs
all-name_bytes-ascii [] e = IsAscii-nil
all-name_bytes-ascii (c ∷ cs) e = let p = and_parts (is_name_byte c) (list_all is_name_byte cs) e in IsAscii-cons c cs (name_byte_low c p.0) (all-name_bytes-ascii cs p.1)

pub name-utf8 : (name : List ℕ) → IsName name → IsUtf8 name
unfolding is_name
name-utf8 name is =
    let p = and_parts (begins_with_letter name && list_all is_name_byte name && nat_le (length name) 64) (not (is_reserved name)) is in
    let q = and_parts (begins_with_letter name && list_all is_name_byte name) (nat_le (length name) 64) p.0 in
    let r = and_parts (begins_with_letter name) (list_all is_name_byte name) q.0 in
    IsUtf8-from_ascii name (all-name_bytes-ascii name r.1)

pub word-utf8 : (kind : the_kind.Kind) → IsUtf8 (kind_word kind)
word-utf8 kind.Int = IsUtf8-from_ascii (codes "int") (all-name_bytes-ascii (codes "int") refl)
word-utf8 kind.Text = IsUtf8-from_ascii (codes "text") (all-name_bytes-ascii (codes "text") refl)
word-utf8 kind.Bool = IsUtf8-from_ascii (codes "bool") (all-name_bytes-ascii (codes "bool") refl)
