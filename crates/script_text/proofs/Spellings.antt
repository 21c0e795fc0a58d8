-- Words between spaces, and texts that a mark parts.
use Rattle.std.proofs.Common.{◌≡◌, ℕ, ◌+◌, ◌<◌, ◌≤◌, Bool, true, false, cond, ◌&&◌, not, nat_eq, nat_lt, List, [], ◌∷◌, ◌++◌, length, take, drop, get_or, Some, None, refl, sym, ap, ◌∙◌, subst, append-nil, length-append, inl, inr, arith}
use Rattle.std.specs.List.{position_or_len, before_first, after_first, AllByRecursion}
use Rattle.std.specs.Option.{option_map}
use Rattle.std.proofs.Math.Seq.{drop-append-add}
use Rattle.std.proofs.lemmas.Bool.Decides.{Decides-ltb, nat_tests}
use Rattle.std.specs.Prelude.{◌⊎◌}
use Rattle.std.proofs.lemmas.List.{take_at, take_all, drop_all}
use Rattle.std.proofs.lemmas.List.Sums.{split_at_first, passes_at_first}
use Rattle.script_text.specs.Spelling.{AreSpaces, Padded}
use Rattle.script_text.specs.StreamLine.{is_mark, Parts, parts_round, parts_at}
use Rattle.script_text.specs.Words.{is_space, is_blank, trimmed, ends_word, behind_word, word_alone, only_word}

pub same_byte : (a b : ℕ) → nat_eq a b ≡ true → a ≡ b
same_byte a b e = grind (arith, nat_tests)

same_itself : (a : ℕ) → nat_eq a a ≡ true
same_itself a = grind (arith, nat_tests)

-- spaces
pub is_blank-spaces : (text : List ℕ) → AreSpaces text → is_blank text ≡ true
is_blank-spaces [] spaces = refl
is_blank-spaces (c ∷ cs) spaces = subst (λ x. nat_eq x 32 && is_blank cs ≡ true) (sym spaces.0) (is_blank-spaces cs spaces.1)

pub AreSpaces-blank : (text : List ℕ) → is_blank text ≡ true → AreSpaces text
AreSpaces-blank [] e = tt
AreSpaces-blank (c ∷ cs) e = by (AreSpaces-blank cs) (nat_eq c 32) refl e
  where
    by : (is_blank cs ≡ true → AreSpaces cs) → (b : Bool) → nat_eq c 32 ≡ b → b && is_blank cs ≡ true → AreSpaces (c ∷ cs)
    by rest true test e = (same_byte c 32 test, rest e)
    by rest false test e = absurd (cc)

pub trimmed-spaces : (front rest : List ℕ) → AreSpaces front → trimmed (front ++ rest) ≡ trimmed rest
trimmed-spaces [] rest spaces = refl
trimmed-spaces (c ∷ cs) rest spaces = subst (λ x. cond (nat_eq x 32) (trimmed (cs ++ rest)) (x ∷ (cs ++ rest)) ≡ trimmed rest) (sym spaces.0) (trimmed-spaces cs rest spaces.1)

-- a text is spaces and what is left without them
pub record IsTrimmed (text : List ℕ) : Type 0 where
  pub front : List ℕ
  pub before : AreSpaces front
  pub whole : text ≡ front ++ trimmed text

pub trimmed-whole : (text : List ℕ) → IsTrimmed text
trimmed-whole [] = record { front = []; before = tt; whole = refl }
trimmed-whole (c ∷ cs) = by (trimmed-whole cs) (nat_eq c 32) refl
  where
    by : IsTrimmed cs → (b : Bool) → nat_eq c 32 ≡ b → IsTrimmed (c ∷ cs)
    by rest true test =
        let step : trimmed (c ∷ cs) ≡ trimmed cs = ap (λ b. cond b (trimmed cs) (c ∷ cs)) test in
        record { front = c ∷ rest.front; before = (same_byte c 32 test, rest.before); whole = ap (λ t. c ∷ t) rest.whole ∙ ap (λ t. c ∷ (rest.front ++ t)) (sym step) }
    by rest false test = record { front = []; before = tt; whole = sym (ap (λ b. cond b (trimmed cs) (c ∷ cs)) test) }

-- no byte of these passes the test
abbrev pub Lacks : (ℕ → Bool) → List ℕ → Type 0
Lacks p text = AllByRecursion (λ c. p c ≡ false) text

pub Lacks-append : (p : ℕ → Bool) (front back : List ℕ) → Lacks p front → Lacks p back → Lacks p (front ++ back)
Lacks-append p [] back none more = more
Lacks-append p (c ∷ cs) back none more = (none.0, Lacks-append p cs back none.1 more)

-- the first byte that passes stands behind those that don't
position_behind : (p : ℕ → Bool) (front back : List ℕ) → Lacks p front → position_or_len p (front ++ back) ≡ length front + position_or_len p back
position_behind p [] back none = omega arith
position_behind p (c ∷ cs) back none =
    let step : position_or_len p (c ∷ (cs ++ back)) ≡ 1 + position_or_len p (cs ++ back) = ap (λ b. cond (not b) (1 + position_or_len p (cs ++ back)) 0) none.0 in
    omega (arith, step, position_behind p cs back none.1)

position_at : (p : ℕ → Bool) (front : List ℕ) (c : ℕ) (back : List ℕ) → Lacks p front → p c ≡ true → position_or_len p (front ++ c ∷ back) ≡ length front
position_at p front c back none is =
    let here : position_or_len p (c ∷ back) ≡ 0 = ap (λ b. cond (not b) (1 + position_or_len p back) 0) is in
    omega (arith, here, position_behind p front (c ∷ back) none)

-- a text that a mark parts
pub parts_at-first : (mark : ℕ) (before behind : List ℕ) → Lacks (is_mark mark) before → parts_at mark (before ++ mark ∷ behind) ≡ Some (record { before = before; behind = behind })
unfolding parts_at
parts_at-first mark before behind none =
    let text : List ℕ = before ++ mark ∷ behind in
    let place = position_at (is_mark mark) before mark behind none (same_itself mark) in
    let within : nat_lt (length before) (length (before ++ mark ∷ behind)) ≡ true = (Decides-ltb (length before) (length (before ++ mark ∷ behind))).1 (omega (arith, length-append before (mark ∷ behind))) in
    ap (λ k. option_map (parts_round (before ++ mark ∷ behind)) (cond (nat_lt k (length (before ++ mark ∷ behind))) (Some k) None)) place
    ∙ ap (λ b. option_map (parts_round (before ++ mark ∷ behind)) (cond b (Some (length before)) None)) within
    ∙ ap (λ t. Some (record { before = t; behind = drop (length before + 1) (before ++ mark ∷ behind) })) (take_at before (mark ∷ behind) (length before) refl)
    ∙ ap (λ t. Some (record { before = before; behind = t })) (drop-append-add before (mark ∷ behind) 1)

pub parts_at-lacking : (mark : ℕ) (text : List ℕ) → Lacks (is_mark mark) text → parts_at mark text ≡ None
unfolding parts_at
parts_at-lacking mark text none =
    let whole : position_or_len (is_mark mark) text ≡ length text = ap (position_or_len (is_mark mark)) (sym (append-nil text)) ∙ omega (arith, position_behind (is_mark mark) text [] none) in
    let out : nat_lt (length text) (length text) ≡ false = grind (arith, nat_tests) in
    ap (λ k. option_map (parts_round text) (cond (nat_lt k (length text)) (Some k) None)) whole
    ∙ ap (λ b. option_map (parts_round text) (cond b (Some (length text)) None)) out

pub parts_at-whole : (mark : ℕ) (text : List ℕ) (parts : Parts) → parts_at mark text ≡ Some parts → text ≡ parts.before ++ mark ∷ parts.behind
unfolding parts_at
parts_at-whole mark text parts e = by (nat_lt (position_or_len (is_mark mark) text) (length text)) refl e
  where
    by : (b : Bool) → nat_lt (position_or_len (is_mark mark) text) (length text) ≡ b → option_map (parts_round text) (cond b (Some (position_or_len (is_mark mark) text)) None) ≡ Some parts → text ≡ parts.before ++ mark ∷ parts.behind
    by true test e =
        let is : parts_round text (position_or_len (is_mark mark) text) ≡ parts = cc in
        let within = (Decides-ltb (position_or_len (is_mark mark) text) (length text)).0 test in
        let here : get_or text (position_or_len (is_mark mark) text) 0 ≡ mark = same_byte _ mark (passes_at_first (is_mark mark) text 0 within) in
        subst (λ p. text ≡ p.before ++ mark ∷ p.behind) is (split_at_first (is_mark mark) text 0 within ∙ ap (λ c. before_first (is_mark mark) text ++ c ∷ after_first (is_mark mark) text) here)
    by false test e = absurd (cc)

-- one word
pub trimmed-word : (word back : List ℕ) → 0 < length word → Lacks is_space word → trimmed (word ++ back) ≡ word ++ back
trimmed-word [] back some none = absurd (omega (arith, some))
trimmed-word (c ∷ cs) back some none = ap (λ b. cond b (trimmed (cs ++ back)) (c ∷ (cs ++ back))) none.0

word_alone-spaces : (word back : List ℕ) → Lacks is_space word → AreSpaces back → word_alone (word ++ back) ≡ Some word
word_alone-spaces word back none spaces =
    let place : position_or_len is_space (word ++ back) ≡ length word = by back spaces in
    ap (λ k. cond (is_blank (drop (k + 1) (word ++ back))) (Some (take k (word ++ back))) None) place
    ∙ ap (λ t. cond (is_blank t) (Some (take (length word) (word ++ back))) None) (drop-append-add word back 1)
    ∙ ap (λ b. cond b (Some (take (length word) (word ++ back))) None) (rest back spaces)
    ∙ ap Some (take_at word back (length word) refl)
  where
    by : (back : List ℕ) → AreSpaces back → position_or_len is_space (word ++ back) ≡ length word
    by [] spaces = omega (arith, position_behind is_space word [] none)
    by (c ∷ cs) spaces = position_at is_space word c cs none (subst (λ x. nat_eq x 32 ≡ true) (sym spaces.0) refl)

    rest : (back : List ℕ) → AreSpaces back → is_blank (drop 1 back) ≡ true
    rest [] spaces = refl
    rest (c ∷ cs) spaces = is_blank-spaces cs spaces.1

pub only_word-padded : (word text : List ℕ) → 0 < length word → Lacks is_space word → Padded word text → only_word text ≡ Some word
unfolding only_word
only_word-padded word text some none padded =
    ap word_alone (ap trimmed padded.whole ∙ trimmed-spaces padded.front (word ++ padded.back) padded.before ∙ trimmed-word word padded.back some none) ∙ word_alone-spaces word padded.back none padded.behind

-- what stands behind a word that stands alone
pub record StandsAlone (word text : List ℕ) : Type 0 where
  pub back : List ℕ
  pub behind : AreSpaces back
  pub whole : text ≡ word ++ back

word_alone-whole : (text word : List ℕ) → word_alone text ≡ Some word → StandsAlone word text
word_alone-whole text word e = by (is_blank (after_first is_space text)) refl e
  where
    whole : before_first is_space text ≡ word → is_blank (after_first is_space text) ≡ true → (b : Bool) → nat_lt (position_or_len is_space text) (length text) ≡ b → StandsAlone word text
    whole is blank true test =
        let within = (Decides-ltb (position_or_len is_space text) (length text)).0 test in
        let here : get_or text (position_or_len is_space text) 0 ≡ 32 = same_byte _ 32 (passes_at_first is_space text 0 within) in
        record {
          back = 32 ∷ after_first is_space text;
          behind = (refl, AreSpaces-blank (after_first is_space text) blank);
          whole = split_at_first is_space text 0 within ∙ ap (λ c. before_first is_space text ++ c ∷ after_first is_space text) here ∙ ap (λ w. w ++ 32 ∷ after_first is_space text) is;
        }
    whole is blank false test =
        let all : length text ≤ (position_or_len is_space text) = grind (arith, nat_tests) in
        record { back = []; behind = tt; whole = sym (append-nil word ∙ sym is ∙ take_all (position_or_len is_space text) text all) }

    by : (b : Bool) → is_blank (after_first is_space text) ≡ b → cond b (Some (before_first is_space text)) None ≡ Some word → StandsAlone word text
    by true blank e = let is : before_first is_space text ≡ word = cc in whole is blank (nat_lt (position_or_len is_space text) (length text)) refl
    by false blank e = absurd (cc)

pub Padded-only_word : (text word : List ℕ) → only_word text ≡ Some word → Padded word text
unfolding only_word
Padded-only_word text word e =
    let cut = trimmed-whole text in
    let alone = word_alone-whole (trimmed text) word e in
    record { front = cut.front; back = alone.back; before = cut.before; behind = alone.behind; whole = cut.whole ∙ ap (λ t. cut.front ++ t) alone.whole }

-- the first word of a text that begins with it, and what stands behind it
pub before_first-space : (word rest : List ℕ) → Lacks is_space word → before_first is_space (word ++ 32 ∷ rest) ≡ word
before_first-space word rest none = ap (λ k. take k (word ++ 32 ∷ rest)) (position_at is_space word 32 rest none refl) ∙ take_at word (32 ∷ rest) (length word) refl

pub after_first-space : (word rest : List ℕ) → Lacks is_space word → after_first is_space (word ++ 32 ∷ rest) ≡ rest
after_first-space word rest none = ap (λ k. drop (k + 1) (word ++ 32 ∷ rest)) (position_at is_space word 32 rest none refl) ∙ drop-append-add word (32 ∷ rest) 1

pub before_first-spaces : (word back : List ℕ) → Lacks is_space word → AreSpaces back → before_first is_space (word ++ back) ≡ word
before_first-spaces word [] none spaces =
    let whole : position_or_len is_space (word ++ []) ≡ length word = omega (arith, position_behind is_space word [] none) in
    ap (λ k. take k (word ++ [])) whole ∙ take_at word [] (length word) refl
before_first-spaces word (c ∷ cs) none spaces = ap (λ b. before_first is_space (word ++ b ∷ cs)) spaces.0 ∙ before_first-space word cs none

pub after_first-spaces : (word back : List ℕ) → Lacks is_space word → AreSpaces back → AreSpaces (after_first is_space (word ++ back))
after_first-spaces word [] none spaces =
    let whole : position_or_len is_space (word ++ []) ≡ length word = omega (arith, position_behind is_space word [] none) in
    subst AreSpaces (sym (ap (λ k. drop (k + 1) (word ++ [])) whole ∙ drop-append-add word [] 1)) tt
after_first-spaces word (c ∷ cs) none spaces = subst AreSpaces (sym (ap (λ b. after_first is_space (word ++ b ∷ cs)) spaces.0 ∙ after_first-space word cs none)) spaces.1

-- a text is its first word, a space and what stands behind it, or the one word
pub first_word-whole : (text : List ℕ) → (text ≡ before_first is_space text ++ 32 ∷ after_first is_space text) ⊎ ((text ≡ before_first is_space text) × (after_first is_space text ≡ []))
first_word-whole text = by (nat_lt (position_or_len is_space text) (length text)) refl
  where
    by : (b : Bool) → nat_lt (position_or_len is_space text) (length text) ≡ b → (text ≡ before_first is_space text ++ 32 ∷ after_first is_space text) ⊎ ((text ≡ before_first is_space text) × (after_first is_space text ≡ []))
    by true test =
        let within = (Decides-ltb (position_or_len is_space text) (length text)).0 test in
        let here : get_or text (position_or_len is_space text) 0 ≡ 32 = same_byte _ 32 (passes_at_first is_space text 0 within) in
        inl (split_at_first is_space text 0 within ∙ ap (λ c. before_first is_space text ++ c ∷ after_first is_space text) here)
    by false test =
        let all : length text ≤ (position_or_len is_space text) = grind (arith, nat_tests) in
        inr (sym (take_all (position_or_len is_space text) text all), drop_all (position_or_len is_space text + 1) text (omega (arith, all)))

-- spaces alone have no word
pub only_word-spaces : (text : List ℕ) → AreSpaces text → only_word text ≡ Some []
unfolding only_word
only_word-spaces text spaces = ap word_alone (ap trimmed (sym (append-nil text)) ∙ trimmed-spaces text [] spaces)

-- what stands behind a word
pub record StandsBehind (word text rest : List ℕ) : Type 0 where
  pub whole : text ≡ word ++ rest
  pub ends : ends_word rest ≡ true

pub behind_word-whole : (word text rest : List ℕ) → behind_word word text ≡ Some rest → StandsBehind word text rest
behind_word-whole [] text rest e = by (ends_word text) refl e
  where
    by : (b : Bool) → ends_word text ≡ b → cond b (Some text) None ≡ Some rest → StandsBehind [] text rest
    by true ends e = let same : text ≡ rest = cc in record { whole = same; ends = ap ends_word (sym same) ∙ ends }
    by false ends e = absurd (cc)
behind_word-whole (w ∷ ws) [] rest e = absurd (cc)
behind_word-whole (w ∷ ws) (c ∷ cs) rest e = by (behind_word-whole ws cs rest) (nat_eq c w) refl e
  where
    by : (behind_word ws cs ≡ Some rest → StandsBehind ws cs rest) → (b : Bool) → nat_eq c w ≡ b → cond b (behind_word ws cs) None ≡ Some rest → StandsBehind (w ∷ ws) (c ∷ cs) rest
    by later true test e =
        let behind = later e in
        record { whole = ap (λ b. b ∷ cs) (same_byte c w test) ∙ ap (λ t. w ∷ t) behind.whole; ends = behind.ends }
    by later false test e = absurd (cc)

-- what stands at the front of a line
pub begun : (front text : List ℕ) → AreSpaces front → (line : List ℕ) → line ≡ front ++ text → trimmed line ≡ trimmed text
begun front text before line whole = ap trimmed whole ∙ trimmed-spaces front text before
