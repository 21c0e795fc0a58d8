-- Lines that were read, and the heads among them.
use Prim.Native.Nat.{zero, suc}
use Rattle.std.proofs.Common.{◌≡◌, ◌≢◌, ◌⊎◌, ℕ, ◌+◌, ◌-◌, ◌^◌, ◌<◌, Bool, true, false, cond, nat_eq, List, [], ◌∷◌, ◌++◌, length, Option, Some, None, refl, sym, ap, ◌∙◌, subst, inl, inr, arith, append_assoc, append-nil, length-append}
use Rattle.std.proofs.lemmas.Bool.{cases_lt}
use Rattle.std.proofs.lemmas.Bool.Decides.{nat_tests}
use Rattle.std.proofs.lemmas.Grind.{flat_map-append}
use Rattle.std.specs.Io.BufRead.{drop_through, take_through}
use Rattle.std.specs.List.{flat_map, AllByRecursion}
use Rattle.std.specs.Option.{IfNone, IfSome, MatchOption}
use Rattle.csv_script.specs.Blocks.{ended}
use Rattle.csv_rows.specs.Lines.{head_of, lines_text, HaveHeads, IsHead, IsLine, IsNext}
use Rattle.csv_rows.specs.Refusals.{HasNoResult}
use Rattle.csv_rows.specs.Results.{IsFound}

pub flat_map-more : {A B : Type 0} (f : A → List B) (xs : List A) (x : A) → flat_map f (xs ++ x ∷ []) ≡ flat_map f xs ++ f x
flat_map-more f xs x = flat_map-append f xs (x ∷ []) ∙ ap (λ m. flat_map f xs ++ m) (append-nil (f x))

pub all-more : {A : Type 0} (P : A → Type 0) (xs : List A) (x : A) → AllByRecursion P xs → P x → AllByRecursion P (xs ++ x ∷ [])
all-more P [] x all p = (p, tt)
all-more P (y ∷ ys) x all p = (all.0, all-more P ys x all.1 p)

-- what was read up to an LF
record IsThrough (bytes line : List ℕ) : Type 0 where
  whole : bytes ≡ line ++ 10 ∷ drop_through 10 bytes
  is_line : IsLine line

through : (bytes line : List ℕ) → take_through 10 bytes ≡ line ++ 10 ∷ [] → IsThrough bytes line
through [] [] h = absurd (cc)
through [] (l ∷ line) h = absurd (cc)
through (x ∷ xs) line h = by (through xs) (nat_eq x 10) refl line h
  where
    is_ten : (x : ℕ) → nat_eq x 10 ≡ false → x ≡ 10 → ⊥
    is_ten x e same = grind (arith, nat_tests)

    by : ((line : List ℕ) → take_through 10 xs ≡ line ++ 10 ∷ [] → IsThrough xs line) → (b : Bool) → nat_eq x 10 ≡ b → (line : List ℕ) → cond b (x ∷ []) (x ∷ take_through 10 xs) ≡ line ++ 10 ∷ [] → IsThrough (x ∷ xs) line
    by rest true e [] h =
        let same : x ≡ 10 = cc in
        record { whole = ap (λ y. y ∷ xs) same ∙ ap (λ b. 10 ∷ cond b xs (drop_through 10 xs)) (sym e); is_line = tt }
    by rest true e (l ∷ line) h = absurd (omega (arith, ap length h, length-append line (10 ∷ [])))
    by rest false e [] h = absurd (is_ten x e (cc))
    by rest false e (l ∷ line) h =
        let same : x ≡ l = cc in
        let more = rest line (cc) in
        record {
          whole = ap (λ y. y ∷ xs) same ∙ ap (λ t. l ∷ t) more.whole ∙ ap (λ b. l ∷ (line ++ 10 ∷ cond b xs (drop_through 10 xs))) (sym e);
          is_line = (subst (λ y. nat_eq y 10 ≡ false) same e, more.is_line);
        }

pub IsNext-read : (bytes items line : List ℕ) (left : Option (List ℕ)) → items ≡ take_through 10 bytes → items ≡ line ++ 10 ∷ [] → left ≡ Some (drop_through 10 bytes) → IsNext bytes line left
IsNext-read bytes items line left read popped rest =
    let is = through bytes line (sym read ∙ popped) in
    record { rest = drop_through 10 bytes; bytes_are = is.whole ∙ sym (append_assoc line (10 ∷ []) (drop_through 10 bytes)); is_line = is.is_line; left_is = rest }

-- no line is ended
pub IsLine-whole : (bytes : List ℕ) → ((front : List ℕ) → take_through 10 bytes ≢ front ++ 10 ∷ []) → IsLine bytes
IsLine-whole [] none = tt
IsLine-whole (x ∷ xs) none = by (IsLine-whole xs) (nat_eq x 10) refl none
  where
    by : (((front : List ℕ) → take_through 10 xs ≢ front ++ 10 ∷ []) → IsLine xs) → (b : Bool) → nat_eq x 10 ≡ b → ((front : List ℕ) → cond b (x ∷ []) (x ∷ take_through 10 xs) ≢ front ++ 10 ∷ [])
        → IsLine (x ∷ xs)
    by rest true e missing =
        let same : x ≡ 10 = grind (arith, nat_tests) in
        absurd (missing [] (ap (λ y. y ∷ []) same))
    by rest false e missing = (e, rest (λ front h. missing (x ∷ front) (ap (λ t. x ∷ t) h)))

-- heads
HaveHeads-head : (lines : List (List ℕ)) (number : ℕ) (line : List ℕ) → HaveHeads lines number → IsHead line → HaveHeads (lines ++ line ∷ []) (number + 1)
HaveHeads-head [] number line none is = inl (0, ap (λ n. n + 1) none, is, refl)
HaveHeads-head (l ∷ lines) number line (inl h) is = inl (h.0 + 1, ap (λ n. n + 1) h.1, h.2, HaveHeads-head lines h.0 line h.3 is)
HaveHeads-head (l ∷ lines) number line (inr h) is = inr (h.0, HaveHeads-head lines number line h.1 is)

HaveHeads-other : (lines : List (List ℕ)) (number : ℕ) (line : List ℕ) → HaveHeads lines number → (IsHead line → ⊥) → HaveHeads (lines ++ line ∷ []) number
HaveHeads-other [] number line none is = inr (is, none)
HaveHeads-other (l ∷ lines) number line (inl h) is = inl (h.0, h.1, h.2, HaveHeads-other lines h.0 line h.3 is)
HaveHeads-other (l ∷ lines) number line (inr h) is = inr (h.0, HaveHeads-other lines number line h.1 is)

-- lines that were passed over
pub record IsPassed (bytes : List ℕ) (number left : ℕ) (known : Option (List ℕ)) : Type 0 where
  pub lines : List (List ℕ)
  pub before : ℕ
  pub rest : List ℕ
  pub bytes_are : bytes ≡ lines_text lines ++ rest
  pub are_lines : AllByRecursion IsLine lines
  pub left_is : left ≡ number - before
  pub few : (number ≡ 0) ⊎ (before < number)
  pub heads : HaveHeads lines before
  pub known_is : known ≡ Some rest

pub IsPassed-none : (bytes : List ℕ) (number : ℕ) (known : Option (List ℕ)) → known ≡ Some bytes → IsPassed bytes number number known
IsPassed-none bytes number known is = record { lines = []; before = 0; rest = bytes; bytes_are = refl; are_lines = tt; left_is = omega arith; few = none_or_some number; heads = refl; known_is = is }
  where
    none_or_some : (number : ℕ) → (number ≡ 0) ⊎ (0 < number)
    none_or_some zero = inl refl
    none_or_some (suc n) = inr (omega arith)

passed_bytes : (bytes : List ℕ) (lines : List (List ℕ)) (line rest more : List ℕ) → bytes ≡ lines_text lines ++ rest → rest ≡ ended line ++ more → bytes ≡ lines_text (lines ++ line ∷ []) ++ more
passed_bytes bytes lines line rest more is next =
    is ∙ ap (λ r. lines_text lines ++ r) next ∙ sym (append_assoc (lines_text lines) (ended line) more) ∙ ap (λ t. t ++ more) (sym (flat_map-more ended lines line))

-- one more line
pub IsPassed-line : (bytes : List ℕ) (number left after : ℕ) (known now : Option (List ℕ)) (line : List ℕ) (head : Option ℕ) → (is : IsPassed bytes number left known) → IsNext is.rest line now
    → IfSome head (λ count. count < 2 ^ 64) → IfSome head (λ count. line ≡ head_of count) → IfNone head (IsHead line → ⊥)
    → MatchOption head (after ≡ left) (λ count. after ≡ left - 1) → (IfSome head (λ count. left ≢ 1)) → IsPassed bytes number after now
IsPassed-line bytes number left after known now line None is next fits some none same other = record {
  lines = is.lines ++ line ∷ [];
  before = is.before;
  rest = next.rest;
  bytes_are = passed_bytes bytes is.lines line is.rest next.rest is.bytes_are next.bytes_are;
  are_lines = all-more IsLine is.lines line is.are_lines next.is_line;
  left_is = same ∙ is.left_is;
  few = is.few;
  heads = HaveHeads-other is.lines is.before line is.heads none;
  known_is = next.left_is;
}
IsPassed-line bytes number left after known now line (Some count) is next fits some none less other = record {
  lines = is.lines ++ line ∷ [];
  before = is.before + 1;
  rest = next.rest;
  bytes_are = passed_bytes bytes is.lines line is.rest next.rest is.bytes_are next.bytes_are;
  are_lines = all-more IsLine is.lines line is.are_lines next.is_line;
  left_is = (let was = is.left_is in omega (arith, less, was));
  few = still is.few;
  heads = HaveHeads-head is.lines is.before line is.heads (count, fits, some);
  known_is = next.left_is;
}
  where
    still : (number ≡ 0) ⊎ (is.before < number) → (number ≡ 0) ⊎ (is.before + 1 < number)
    still (inl none) = inl none
    still (inr below) = elim (cases_lt (is.before + 1) number) [
      | inl h ↦ inr h
      | inr h ↦ (let was = is.left_is in absurd (other (omega (arith, was, below, h))))
    ]

-- the head of the result that was asked for
pub IsFound-head : (bytes : List ℕ) (number left count : ℕ) (known now : Option (List ℕ)) (line : List ℕ) → (is : IsPassed bytes number left known) → left ≡ 1 → IsNext is.rest line now → line ≡ head_of count
    → IsFound bytes number count now
IsFound-head bytes number left count known now line is one next head = record {
  lines = is.lines;
  before = is.before;
  rest = next.rest;
  bytes_are = is.bytes_are ∙ ap (λ r. lines_text is.lines ++ r) (next.bytes_are ∙ ap (λ l. ended l ++ next.rest) head);
  are_lines = is.are_lines;
  number_is = (let was = is.left_is in omega (arith, one, was));
  heads = is.heads;
  left_is = next.left_is;
}

-- all lines were passed over
pub HasNoResult-passed : (bytes : List ℕ) (number left : ℕ) (known : Option (List ℕ)) → (is : IsPassed bytes number left known) → IsLine is.rest → HasNoResult bytes number
HasNoResult-passed bytes number left known is unended = record {
  lines = is.lines;
  results = is.before;
  rest = is.rest;
  bytes_are = is.bytes_are;
  are_lines = is.are_lines;
  unended = unended;
  heads = is.heads;
  few = is.few;
}
