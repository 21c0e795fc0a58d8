-- The lines of an append are read in one way, so an append has one plan.
use Rattle.std.proofs.Common.{◌≡◌, ℕ, suc, List, [], ◌∷◌, ◌++◌, length, map, Option, Some, None, Result, refl, sym, ap, ◌∙◌, arith}
use Rattle.std.specs.List.{AllByRecursion}
use Rattle.rows_core.specs.declared.kind.Kind.{Kind}
use Rattle.rows_core.specs.declared.value.Value.{Value}
use Rattle.rows_core.specs.Schema.{kinds_of}
use Rattle.row_text.specs.RowSpelling.{row_spelling, IsLooseRow}
use Rattle.row_text.proofs.Lines.{row_spelling-injective}
use Rattle.catalog_core.specs.Table.{Table}
use Rattle.planning.specs.Appending.{Append, columns_at, appending_read, IsAppendingAt}
use Rattle.planning.specs.Rows.{Spell, SpellsNone, IsFirstBad, Reading, Rows, BadLine, Reads}
use Rattle.script_text.specs.declared.answer.Refusal.{Refusal}

module _ (kinds : List Kind) where
  -- lines spell no two lists of rows
  one_rows : (a b : List (List Value)) → AllByRecursion (IsLooseRow kinds) a → AllByRecursion (IsLooseRow kinds) b → map row_spelling a ≡ map row_spelling b → a ≡ b
  one_rows [] [] p q e = refl
  one_rows [] (y ∷ b) p q e = absurd (cc)
  one_rows (x ∷ a) [] p q e = absurd (cc)
  one_rows (x ∷ a) (y ∷ b) p q e =
      let heads : row_spelling x ≡ row_spelling y = cc in
      let tails : map row_spelling a ≡ map row_spelling b = cc in
      let first : x ≡ y = row_spelling-injective x y p.0.1 q.0.1 heads in
      let others : a ≡ b = one_rows a b p.1 q.1 tails in
      cc

  -- lines with a bad one don't spell rows
  no_rows : (before : List (List ℕ)) (line : List ℕ) (others : List (List ℕ)) (rows : List (List Value)) → AllByRecursion (IsLooseRow kinds) rows → SpellsNone kinds line → map row_spelling rows ≡ before ++ line ∷ others → ⊥
  no_rows [] line others [] loose none e = cc
  no_rows (l ∷ before) line others [] loose none e = cc
  no_rows [] line others (row ∷ rows) loose none e = none row loose.0 cc
  no_rows (l ∷ before) line others (row ∷ rows) loose none e = no_rows before line others rows loose.1 none cc

  -- the first bad line has one number
  same_len : (a b : List (List Value)) (line line' : List ℕ) (others others' : List (List ℕ)) → AllByRecursion (IsLooseRow kinds) a → AllByRecursion (IsLooseRow kinds) b → SpellsNone kinds line → SpellsNone kinds line'
      → map row_spelling a ++ line ∷ others ≡ map row_spelling b ++ line' ∷ others' → length (map row_spelling a) ≡ length (map row_spelling b)
  same_len [] [] line line' others others' p q none none' e = refl
  same_len [] (y ∷ b) line line' others others' p q none none' e = absurd (none y q.0 cc)
  same_len (x ∷ a) [] line line' others others' p q none none' e = let e' = sym e in absurd (none' x p.0 cc)
  same_len (x ∷ a) (y ∷ b) line line' others others' p q none none' e = ap suc (same_len a b line line' others others' p.1 q.1 none none' cc)

  module _ (lines : List (List ℕ)) where
    not_both : (rows : List (List Value)) (number : ℕ) → Spell kinds lines rows → IsFirstBad kinds lines number → ⊥
    not_both rows number spell bad = no_rows bad.before bad.line bad.others rows spell.loose bad.bad (sym spell.spelled ∙ bad.parts)

    one_number : (m n : ℕ) → IsFirstBad kinds lines m → IsFirstBad kinds lines n → m ≡ n
    one_number m n a b =
        let parts : map row_spelling a.rows ++ a.line ∷ a.others ≡ map row_spelling b.rows ++ b.line ∷ b.others =
        ap (λ l. l ++ a.line ∷ a.others) (sym a.spell.spelled) ∙ sym a.parts ∙ b.parts ∙ ap (λ l. l ++ b.line ∷ b.others) b.spell.spelled in
        let same = same_len a.rows b.rows a.line b.line a.others b.others a.spell.loose b.spell.loose a.bad b.bad parts in
        omega (arith, same, ap length a.spell.spelled, ap length b.spell.spelled, a.number_is, b.number_is)

    -- lines are read in one way
    one_reading : (a b : Reading) → Reads kinds lines a → Reads kinds lines b → a ≡ b
    one_reading (Rows a) (Rows b) p q = ap Rows (one_rows a b p.loose q.loose (sym p.spelled ∙ q.spelled))
    one_reading (Rows a) (BadLine n) p q = absurd (not_both a n p q)
    one_reading (BadLine m) (Rows b) p q = absurd (not_both b m q p)
    one_reading (BadLine m) (BadLine n) p q = ap BadLine (one_number m n p q)

pub one_append : (t : Table) (place : Option ℕ) (name : List ℕ) (lines : List (List ℕ)) (a b : Result Append Refusal) → IsAppendingAt t place name lines a → IsAppendingAt t place name lines b → a ≡ b
one_append t None name lines a b p q = p ∙ sym q
one_append t (Some place) name lines a b p q = p.2 ∙ ap (appending_read t place) (one_reading (kinds_of (columns_at t.streams place)) lines p.0 q.0 p.1 q.1) ∙ sym q.2
