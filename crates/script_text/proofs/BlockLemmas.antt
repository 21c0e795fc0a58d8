-- A block as its row lines come.
use Rattle.std.proofs.Common.{◌≡◌, ℕ, ◌+◌, ◌<◌, ◌≤◌, Bool, true, false, cond, ◌&&◌, ◌||◌, nat_eq, is_some, subst, List, [], ◌∷◌, ◌++◌, length, codes, Option, Some, None, refl, sym, ap, ◌∙◌, append-nil, inl, inr, arith}
use Rattle.std.specs.List.{list_all}
use Rattle.std.proofs.lemmas.Bool.Decides.{nat_tests}
use Rattle.std.proofs.lemmas.List.Sums.{sum_by-append}
use Rattle.script_text.specs.Line.{Holds}
use Rattle.script_text.specs.Words.{is_space, trimmed, is_empty_or_remark, is_skipped, behind_word, begins_block}
use Rattle.script_text.specs.Dispatch.{line_command}
use Rattle.script_text.specs.Spelled.{Spelled, IsReadOf}
use Rattle.script_text.specs.Script.{Block, longest_line, block_len, fits_line, fit_lines, block_limit, spelled_item, command_item, line_item, line_block, Given}
use Rattle.script_text.specs.Reader.{with_rows, StandsFor, GivenIfAny, AfterLine}
use Rattle.script_text.specs.declared.answer.LimitKind.{LimitKind}
use Rattle.script_text.specs.declared.answer.LimitKind.TheVariants as limit
use Rattle.script_text.specs.declared.item.Item.{Item}
use Rattle.script_text.specs.declared.place.Place.{Place}
use Rattle.script_text.specs.declared.place.Place.TheVariants as place

pub rows_fit-push : (rows : List (List ℕ)) (row : List ℕ) → list_all fits_line (rows ++ row ∷ []) ≡ list_all fits_line rows && fits_line row
rows_fit-push [] row = by (fits_line row)
  where
    by : (b : Bool) → b && true ≡ true && b
    by true = refl
    by false = refl
rows_fit-push (r ∷ rs) row = ap (λ b. fits_line r && b) (rows_fit-push rs row) ∙ by (fits_line r) (list_all fits_line rs) (fits_line row)
  where
    by : (a b c : Bool) → a && (b && c) ≡ (a && b) && c
    by true b c = refl
    by false b c = refl

pub fit_lines-push : (block : Block) (row : List ℕ) → fit_lines (with_rows block (row ∷ [])) ≡ fit_lines block && fits_line row
fit_lines-push block row = ap (λ b. fits_line block.head && b) (rows_fit-push block.rows row) ∙ by (fits_line block.head) (list_all fits_line block.rows) (fits_line row)
  where
    by : (a b c : Bool) → a && (b && c) ≡ (a && b) && c
    by true b c = refl
    by false b c = refl

pub block_len-push : (rows : List (List ℕ)) (row : List ℕ) → block_len (rows ++ row ∷ []) ≡ block_len rows + (length row + 1)
block_len-push rows row = grind (arith, sum_by-append)

-- a row line of a block that passes no limit
pub row_fits : (block : Block) (row : List ℕ) → block_limit (with_rows block (row ∷ [])) ≡ None → length row ≤ longest_line
row_fits block row e = by (fit_lines (with_rows block (row ∷ []))) _ (fit_lines-push block row) e
  where
    last_true : (a b : Bool) → true ≡ a && b → b ≡ true
    last_true true b e = sym e
    last_true false b e = absurd (cc)

    by : (b : Bool) (x : Option LimitKind) → b ≡ fit_lines block && fits_line row → cond b x (Some limit.Line) ≡ None → length row ≤ longest_line
    by true x same e = let fits : fits_line row ≡ true = last_true (fit_lines block) (fits_line row) same in grind (arith, nat_tests)
    by false x same e = absurd (cc)

-- a line that begins a block
pub AfterLine-begun : (line : List ℕ) (place : Place) → begins_block line ≡ true → StandsFor place (Some (record { head = line; rows = [] })) → AfterLine None line place None
AfterLine-begun line place begins stands =
    let none : line_item None line ≡ None = ap (λ b. cond (is_skipped line || b) None (Some (command_item line))) begins ∙ skipped_or (is_skipped line) in
    let begun : line_block None line ≡ Some (record { head = line; rows = [] }) = ap (λ b. cond b (Some (record { head = line; rows = [] })) None) begins in
    record {
      is_given = subst (λ i. GivenIfAny i None) (sym none) tt;
      stands = subst (λ b. StandsFor place b) (sym begun) stands;
    }
  where
    skipped_or : (b : Bool) → cond (b || true) None (Some (command_item line)) ≡ None
    skipped_or true = refl
    skipped_or false = refl

-- a line that is a command
pub AfterLine-command : (line : List ℕ) (given : Item) → is_skipped line ≡ false → begins_block line ≡ false → Given (command_item line) given → AfterLine None line place.Outside (Some given)
AfterLine-command line given read begins is_given =
    let some : line_item None line ≡ Some (command_item line) = ap (λ b. cond (b || begins_block line) None (Some (command_item line))) read ∙ ap (λ b. cond b None (Some (command_item line))) begins in
    let none : line_block None line ≡ None = ap (λ b. cond b (Some (record { head = line; rows = [] })) None) begins in
    record {
      is_given = subst (λ i. GivenIfAny i (Some given)) (sym some) is_given;
      stands = subst (λ b. StandsFor place.Outside b) (sym none) tt;
    }

-- what a line spells that fits
command_item-fits : (line : List ℕ) (spelled : Spelled) → length line ≤ longest_line → line_command line ≡ spelled → command_item line ≡ spelled_item None spelled
command_item-fits line spelled short is =
    let fits : fits_line line ≡ true = grind (arith, nat_tests) in
    ap (λ b. spelled_item (cond b None (Some limit.Line)) (line_command line)) fits ∙ ap (spelled_item None) is

-- what is given for a line that passes no limit
pub Given-read : (line : List ℕ) (spelled read : Spelled) → length line ≤ longest_line → line_command line ≡ spelled → IsReadOf spelled read → Given (command_item line) (spelled_item None read)
Given-read line spelled read short is reads = elim reads [
  | inl e ↦ inl (ap (spelled_item None) e ∙ sym (command_item-fits line spelled short is))
  | inr e ↦ inr (ap (spelled_item None) e)
]

-- a word at the front of a line of which the front is kept
behind_word-front : (word text rest : List ℕ) → length word < length text → is_some (behind_word word (text ++ rest)) ≡ is_some (behind_word word text)
behind_word-front [] [] rest below = absurd (omega (arith, below))
behind_word-front [] (c ∷ cs) rest below = elim (is_space c) as (λ b. is_some (cond b (Some (c ∷ cs ++ rest)) None) ≡ is_some (cond b (Some (c ∷ cs)) None)) [ true ↦ refl | false ↦ refl ]
behind_word-front (w ∷ ws) [] rest below = absurd (omega (arith, below))
behind_word-front (w ∷ ws) (c ∷ cs) rest below =
    elim (nat_eq c w) as (λ b. is_some (cond b (behind_word ws (cs ++ rest)) None) ≡ is_some (cond b (behind_word ws cs) None)) [
      | true ↦ behind_word-front ws cs rest (omega (arith, below))
      | false ↦ refl
    ]

module _ (text bytes : List ℕ) (len : ℕ) (held : Holds true text len bytes) where
  pub begins_block-kept : begins_block bytes ≡ is_some (behind_word (codes "append") text)
  begins_block-kept = by held.rest held.front held.full
    where
      by : (rest : List ℕ) → trimmed bytes ≡ text ++ rest → (0 < length rest → longest_line ≤ length text) → begins_block bytes ≡ is_some (behind_word (codes "append") text)
      by [] front full = ap (λ t. is_some (behind_word (codes "append") t)) (front ∙ append-nil text)
      by (r ∷ rs) front full = ap (λ t. is_some (behind_word (codes "append") t)) front ∙ behind_word-front (codes "append") text (r ∷ rs) (omega (arith, full (omega arith)))

  pub is_skipped-kept : is_skipped bytes ≡ is_empty_or_remark text
  is_skipped-kept = by text held.rest held.front held.full
    where
      by : (text rest : List ℕ) → trimmed bytes ≡ text ++ rest → (0 < length rest → longest_line ≤ length text) → is_skipped bytes ≡ is_empty_or_remark text
      by [] [] front full = ap is_empty_or_remark front
      by [] (r ∷ rs) front full = absurd (omega (arith, full (omega arith)))
      by (c ∷ cs) rest front full = ap is_empty_or_remark front
