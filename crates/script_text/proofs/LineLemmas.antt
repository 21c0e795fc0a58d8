-- What the reader keeps of a line, as the line goes on and when it ends.
use Rattle.std.proofs.Common.{◌≡◌, ℕ, ◌+◌, ◌-◌, ◌^◌, ◌<◌, ◌≤◌, min, Bool, true, false, cond, List, [], ◌∷◌, ◌++◌, length, take, drop, refl, sym, ap, ◌∙◌, append_assoc, append-nil, take-append-drop, length-append, length-take, length-drop, arith}
use Rattle.script_text.specs.Words.{is_space, trimmed}
use Rattle.script_text.specs.Script.{longest_line}
use Rattle.script_text.specs.Line.{kept, counted, Holds}

pub kept-append : (outside : Bool) (bytes piece : List ℕ) → kept outside (bytes ++ piece) ≡ kept outside bytes ++ counted outside (kept outside bytes) piece
kept-append false bytes piece = refl
kept-append true [] piece = refl
kept-append true (c ∷ cs) piece =
    elim (is_space c) as (λ b. cond b (trimmed (cs ++ piece)) (c ∷ cs ++ piece) ≡ cond b (trimmed cs) (c ∷ cs) ++ counted true (cond b (trimmed cs) (c ∷ cs)) piece) [
      | true ↦ kept-append true cs piece
      | false ↦ refl
    ]

-- all of the line was kept so far
push_whole : (outside : Bool) (text piece bytes more : List ℕ) (len n : ℕ) → length text ≤ longest_line → more ≡ counted outside text piece → n ≡ min (length more) (longest_line - length text)
    → len ≡ min (length bytes) (2 ^ 64 - 1) → kept outside bytes ≡ text → Holds outside (text ++ take n more) (min (len + length piece) (2 ^ 64 - 1)) (bytes ++ piece)
push_whole outside text piece bytes more len n bound is_more is_n is_len is_kept = record {
  len_is = omega (arith, length-append bytes piece);
  rest = drop n more;
  front = kept-append outside bytes piece ∙ ap (λ k. k ++ counted outside k piece) is_kept ∙ ap (λ m. text ++ m) (sym is_more ∙ sym (take-append-drop n more)) ∙ sym (append_assoc text (take n more) (drop n more));
  full = λ some. omega (arith, length-drop n more, length-take n more, length-append text (take n more));
}

-- as much as a line may have was kept before
push_full : (outside : Bool) (text rest piece bytes more : List ℕ) (len n : ℕ) → longest_line ≤ length text → n ≡ min (length more) (longest_line - length text)
    → len ≡ min (length bytes) (2 ^ 64 - 1) → kept outside bytes ≡ text ++ rest → Holds outside (text ++ take n more) (min (len + length piece) (2 ^ 64 - 1)) (bytes ++ piece)
push_full outside text rest piece bytes more len n full is_n is_len is_kept =
    let none : n ≡ 0 = omega arith in
    let text_is : text ++ take n more ≡ text = ap (λ k. text ++ take k more) none ∙ append-nil text in
    record {
      len_is = omega (arith, length-append bytes piece);
      rest = rest ++ counted outside (text ++ rest) piece;
      front = kept-append outside bytes piece ∙ ap (λ k. k ++ counted outside k piece) is_kept ∙ append_assoc text rest (counted outside (text ++ rest) piece) ∙ ap (λ t. t ++ (rest ++ counted outside (text ++ rest) piece)) (sym text_is);
      full = λ some. omega (arith, ap length text_is);
    }

-- the line goes on with a piece, of which so much is kept as there is room for
pub Holds-push : (outside : Bool) (text piece bytes more text' : List ℕ) (len n len' : ℕ) → length text ≤ longest_line → more ≡ counted outside text piece → n ≡ min (length more) (longest_line - length text)
    → text' ≡ text ++ take n more → len' ≡ min (len + length piece) (2 ^ 64 - 1) → Holds outside text len bytes → Holds outside text' len' (bytes ++ piece)
Holds-push outside text piece bytes more text' len n len' bound is_more is_n is_text is_len held = rw (is_text, is_len) (by held.rest held.front held.full)
  where
    by : (rest : List ℕ) → kept outside bytes ≡ text ++ rest → (0 < length rest → longest_line ≤ length text) → Holds outside (text ++ take n more) (min (len + length piece) (2 ^ 64 - 1)) (bytes ++ piece)
    by [] front full = push_whole outside text piece bytes more len n bound is_more is_n held.len_is (front ∙ append-nil text)
    by (r ∷ rs) front full = push_full outside text (r ∷ rs) piece bytes more len n (full (omega arith)) is_n held.len_is front

length-kept-le : (outside : Bool) (bytes : List ℕ) → length (kept outside bytes) ≤ length bytes
length-kept-le false bytes = omega arith
length-kept-le true [] = omega arith
length-kept-le true (c ∷ cs) =
    elim (is_space c) as (λ b. length (cond b (trimmed cs) (c ∷ cs)) ≤ length (c ∷ cs)) [
      | true ↦ (let rest = length-kept-le true cs in omega arith)
      | false ↦ omega arith
    ]

-- a line that isn't too long is kept whole
pub record IsWhole (outside : Bool) (text : List ℕ) (len : ℕ) (bytes : List ℕ) : Type 0 where
  pub text_is : kept outside bytes ≡ text
  pub len_is : len ≡ length bytes
  pub fits : length bytes ≤ longest_line

pub IsWhole-from_short : (outside : Bool) (text bytes : List ℕ) (len : ℕ) → len ≤ longest_line → Holds outside text len bytes → IsWhole outside text len bytes
IsWhole-from_short outside text bytes len short held = by held.rest held.front held.full
  where
    by : (rest : List ℕ) → kept outside bytes ≡ text ++ rest → (0 < length rest → longest_line ≤ length text) → IsWhole outside text len bytes
    by [] front full = record { text_is = front ∙ append-nil text; len_is = omega (arith, held.len_is); fits = omega (arith, held.len_is) }
    by (r ∷ rs) front full = absurd (omega (arith, held.len_is, full (omega arith), ap length front, length-append text (r ∷ rs), length-kept-le outside bytes))
