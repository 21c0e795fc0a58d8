-- The lines of an answer: which they are, and that they are short.
use Rattle.std.proofs.Common.{◌≡◌, ℕ, ◌+◌, ◌*◌, ◌-◌, ◌^◌, ◌<◌, ◌≤◌, [], ◌∷◌, ◌++◌, codes, decimal, List, map, get_or, suc, length, subst, sym, ap, ◌∙◌, add-one, append_assoc, length-append, arith}
use Rattle.std.specs.List.{flat_map}
use Rattle.std.proofs.lemmas.Fmt.{length-decimal-le}
use Rattle.std.proofs.lemmas.List.{get_or-map, get_or_append_left, get_or-append_right, length-map}
use Rattle.rows_core.specs.declared.value.Value.{Value}
use Rattle.row_text.specs.RowSpelling.{row_spelling}
use Rattle.script_text.specs.Answer.{IsShort, ids_text, refusal_line, told, entry_line, printed_line}
use Rattle.script_text.specs.declared.answer.EntrySummary.{EntrySummary}
use Rattle.script_text.specs.declared.answer.Refusal.{Refusal}
use Rattle.script_text.specs.declared.answer.Refusal.TheVariants.{Unknown, Exists, Row}

-- a list with one line in front, the lines of rows, and others
module _ (first : List ℕ) (rows : List (List Value)) (last : List (List ℕ)) (line at : ℕ) (behind : line ≡ at + 1) where
  abbrev lines : List (List ℕ)
  lines = first ∷ (map row_spelling rows ++ last)

  behind_first : get_or lines line [] ≡ get_or (map row_spelling rows ++ last) at []
  behind_first = ap (λ n. get_or lines n []) (behind ∙ add-one at)

  pub row_line : at < length rows → (d : List Value) → row_spelling (get_or rows at d) ≡ get_or lines line []
  row_line below d =
      let in_rows : at < length (map row_spelling rows) = omega (arith, length-map rows row_spelling) in
      sym (behind_first ∙ get_or_append_left (map row_spelling rows) last [] at in_rows ∙ get_or-map row_spelling rows at d [] below)

  pub last_line : length rows ≤ at → get_or last (at - length rows) [] ≡ get_or lines line []
  last_line above = sym (behind_first ∙ get_or-append_right (map row_spelling rows) last (length rows) at [] (length-map rows row_spelling) above)

-- some words and one more
pub IsShort-from_parts : (words text : List ℕ) → length words ≤ 20 → length text ≤ 64 → IsShort (words ++ text)
IsShort-from_parts words text few short = omega (arith, length-append (words ++ text) (10 ∷ []), length-append words text)

pub unknown_is_short : (refusal : Refusal) (name : List ℕ) → refusal ≡ Unknown name → length name ≤ 64 → IsShort (refusal_line refusal)
unknown_is_short refusal name is short = subst (λ r. IsShort (refusal_line r)) (sym is) (IsShort-from_parts (codes "refused unknown ") name (omega arith) short)

pub exists_is_short : (refusal : Refusal) (name : List ℕ) → refusal ≡ Exists name → length name ≤ 64 → IsShort (refusal_line refusal)
exists_is_short refusal name is short = subst (λ r. IsShort (refusal_line r)) (sym is) (IsShort-from_parts (codes "refused exists ") name (omega arith) short)

pub row_is_short : (refusal : Refusal) (number : ℕ) → refusal ≡ Row number → length (decimal number) ≤ 20 → IsShort (refusal_line refusal)
row_is_short refusal number is short = subst (λ r. IsShort (refusal_line r)) (sym is) (IsShort-from_parts (codes "refused row ") (decimal number) (omega arith) (omega (arith, short)))

-- a row with its LF
pub IsShort-row : (text : List ℕ) → length text ≤ 64095 → IsShort text
IsShort-row text short = omega (arith, length-append text (10 ∷ []))

-- numbers of 32 bits, each with a space before it
abbrev AreSmall : List ℕ → Type 0
AreSmall ids = (k : ℕ) → k < length ids → get_or ids k 0 < 2 ^ 32

id_is_short : (id : ℕ) → id < 2 ^ 32 → length (decimal id) ≤ 10
id_is_short id small = length-decimal-le 10 id (omega arith) (omega (arith, small)) (omega (arith, small))

more_are_short : (ids : List ℕ) → AreSmall ids → length (flat_map (λ next. 32 ∷ decimal next) ids) ≤ 11 * length ids
more_are_short [] small = omega arith
more_are_short (id ∷ ids) small =
    omega (arith, length-append (32 ∷ decimal id) (flat_map (λ next. 32 ∷ decimal next) ids), id_is_short id (small 0 (omega arith)), more_are_short ids (λ k h. small (suc k) (omega (arith, h))))

pub ids_are_short : (ids : List ℕ) → AreSmall ids → length (ids_text ids) ≤ 4 + 11 * length ids
ids_are_short [] small = omega arith
ids_are_short (id ∷ ids) small =
    omega (arith, length-append (decimal id) (flat_map (λ next. 32 ∷ decimal next) ids), id_is_short id (small 0 (omega arith)), more_are_short ids (λ k h. small (suc k) (omega (arith, h))))

-- words and such numbers
pub IsShort-ids : (words ids : List ℕ) → length words ≤ 20 → length ids ≤ 4096 → length (ids_text ids) ≤ 4 + 11 * length ids → IsShort (words ++ ids_text ids)
IsShort-ids words ids few_words few short = omega (arith, length-append (words ++ ids_text ids) (10 ∷ []), length-append words (ids_text ids), few_words, few, short)

-- words and three texts, each with the byte behind it, appended one after another
pub in_parts : (old words first second third start a b c d : List ℕ) → start ≡ old → a ≡ start ++ words → b ≡ a ++ (first ++ 32 ∷ []) → c ≡ b ++ (second ++ 32 ∷ []) → d ≡ c ++ (third ++ 10 ∷ []) → d ≡ old ++ (words ++ (first ++ 32 ∷ (second ++ 32 ∷ (third ++ 10 ∷ []))))
in_parts old words first second third start a b c d e0 e1 e2 e3 e4 = rw (e4, e3, e2, e1, e0) (simp append_assoc)

-- a word, with a space before it and behind it, appended in parts
pub between_spaces : (old word a b c : List ℕ) → a ≡ old ++ 32 ∷ [] → b ≡ a ++ word → c ≡ b ++ 32 ∷ [] → c ≡ old ++ 32 ∷ (word ++ 32 ∷ [])
between_spaces old word a b c e0 e1 e2 = rw (e2, e1, e0) (simp append_assoc)

-- the line of a kept result, appended in parts
pub in_entry : (entry : EntrySummary) (old a b c d e f g : List ℕ) → a ≡ old ++ decimal entry.id → b ≡ a ++ told (codes "size") entry.size → c ≡ b ++ told (codes "machine") entry.machine
    → d ≡ c ++ told (codes "uses") entry.uses → e ≡ d ++ told (codes "last") entry.last → f ≡ e ++ told (codes "made") entry.made → g ≡ f ++ 10 ∷ [] → g ≡ old ++ printed_line (entry_line entry)
in_entry entry old a b c d e f g e0 e1 e2 e3 e4 e5 e6 =
    by (decimal entry.id) (told (codes "size") entry.size) (told (codes "machine") entry.machine) (told (codes "uses") entry.uses) (told (codes "last") entry.last) (told (codes "made") entry.made) e0 e1 e2 e3 e4 e5 e6
  where
    by : (id size machine uses last made : List ℕ) → a ≡ old ++ id → b ≡ a ++ size → c ≡ b ++ machine → d ≡ c ++ uses → e ≡ d ++ last → f ≡ e ++ made → g ≡ f ++ 10 ∷ []
        → g ≡ old ++ ((id ++ (size ++ (machine ++ (uses ++ (last ++ made))))) ++ 10 ∷ [])
    by id size machine uses last made h0 h1 h2 h3 h4 h5 h6 = rw (h6, h5, h4, h3, h2, h1, h0) (simp append_assoc)
