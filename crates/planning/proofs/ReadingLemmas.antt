-- Row lines, read one after another.
use Rattle.std.proofs.Common.{◌≡◌, ℕ, suc, ◌+◌, not, nat_lt, ◌≤◌, ◌<◌, Bool, true, false, ◌||◌, List, [], ◌∷◌, ◌++◌, length, map, take, drop, get_or, IsTrue, refl, sym, ap, ◌∙◌, subst, inl, inr, arith, drop-cons, length-take}
use Rattle.std.specs.List.{list_any, AllByRecursion}
use Rattle.std.proofs.lemmas.Bool.Decides.{nat_tests}
use Rattle.std.proofs.lemmas.List.{take_more, take-append-drop, map-append}
use Rattle.std.proofs.lemmas.List.Folds.{list_any-append}
use Rattle.std.proofs.Math.Bool.{or-false}
use Rattle.rows_core.specs.declared.kind.Kind.{Kind}
use Rattle.rows_core.specs.declared.value.Value.{Value}
use Rattle.rows_core.specs.declared.value.Value.TheVariants.{Int, Text, Bool as Truth}
use Rattle.row_text.specs.RowSpelling.{row_spelling, IsLooseRow, IsShort, HasLong}
use Rattle.planning.specs.Rows.{Spell, SpellsRow, SpellsNone, SpellLong, IsFirstBad, is_long, have_long}

short_row : (row : List Value) → AllByRecursion IsShort row → list_any is_long row ≡ false
short_row [] short = refl
short_row (Int number ∷ row) short = short_row row short.1
short_row (Truth truth ∷ row) short = short_row row short.1
short_row (Text text ∷ row) short =
    let rest = short_row row short.1 in
    let here : nat_lt 1000 (length text) ≡ false = let bound : length text ≤ 1000 = short.0 in grind (arith, nat_tests) in
    ap (λ b. b || list_any is_long row) here ∙ rest

long_row : (row : List Value) → HasLong row → list_any is_long row ≡ true
long_row [] long = absurd long
long_row (Int number ∷ row) long = elim long [ inl none ↦ absurd none | inr rest ↦ long_row row rest ]
long_row (Truth truth ∷ row) long = elim long [ inl none ↦ absurd none | inr rest ↦ long_row row rest ]
long_row (Text text ∷ row) long = elim long [ inl here ↦ ap (λ b. b || list_any is_long row) (over here) | inr rest ↦ by (nat_lt 1000 (length text)) (long_row row rest) ]
  where
    over : 1000 < length text → nat_lt 1000 (length text) ≡ true
    over h = grind (arith, nat_tests)

    by : (b : Bool) → list_any is_long row ≡ true → (b || list_any is_long row) ≡ true
    by true e = refl
    by false e = e

loose-push : (kinds : List Kind) (rows : List (List Value)) (row : List Value) → AllByRecursion (IsLooseRow kinds) rows → IsLooseRow kinds row → AllByRecursion (IsLooseRow kinds) (rows ++ row ∷ [])
loose-push kinds [] row all loose = (loose, tt)
loose-push kinds (first ∷ rows) row all loose = (all.0, loose-push kinds rows row all.1 loose)

-- one line more spells a row
Spell-push : (kinds : List Kind) (lines : List (List ℕ)) (rows : List (List Value)) (line : List ℕ) (row : List Value) → Spell kinds lines rows → IsLooseRow kinds row → line ≡ row_spelling row → Spell kinds (lines ++ line ∷ []) (rows ++ row ∷ [])
Spell-push kinds lines rows line row spell loose is = record {
  loose = loose-push kinds rows row spell.loose loose;
  spelled = ap (λ l. l ++ line ∷ []) spell.spelled ∙ ap (λ l. map row_spelling rows ++ l ∷ []) is ∙ sym (map-append row_spelling rows (row ∷ []));
}

have_long-push : (rows : List (List Value)) (row : List Value) → have_long (rows ++ row ∷ []) ≡ (have_long rows || list_any is_long row)
have_long-push rows row = list_any-append (list_any is_long) rows (row ∷ []) ∙ ap (λ b. have_long rows || b) (or-false (list_any is_long row))

-- the first lines spell these rows, which have no long text
pub record ReadSoFar (kinds : List Kind) (lines : List (List ℕ)) (at : ℕ) (rows : List (List Value)) : Type 0 where
  pub spell : Spell kinds (take at lines) rows
  pub short : IsTrue (not (have_long rows))

pub ReadSoFar-none : (kinds : List Kind) (lines : List (List ℕ)) → ReadSoFar kinds lines 0 []
ReadSoFar-none kinds lines = record { spell = record { loose = tt; spelled = refl }; short = refl }

module _ (kinds : List Kind) (lines : List (List ℕ)) (at : ℕ) (line : List ℕ) (below : at < length lines) (is : line ≡ get_or lines at line) where
  next : take at lines ++ line ∷ [] ≡ take (at + 1) lines
  next = ap (λ l. take at lines ++ l ∷ []) is ∙ sym (take_more lines at line below)

  Spell-more : (rows : List (List Value)) (row : List Value) → Spell kinds (take at lines) rows → IsLooseRow kinds row → line ≡ row_spelling row → Spell kinds (take (at + 1) lines) (rows ++ row ∷ [])
  Spell-more rows row spell loose spelled = subst (λ l. Spell kinds l (rows ++ row ∷ [])) next (Spell-push kinds (take at lines) rows line row spell loose spelled)

  -- the next line spells a row without a long text
  pub ReadSoFar-more : (rows : List (List Value)) (row : List Value) → ReadSoFar kinds lines at rows → IsLooseRow kinds row → AllByRecursion IsShort row → line ≡ row_spelling row → ReadSoFar kinds lines (at + 1) (rows ++ row ∷ [])
  ReadSoFar-more rows row so_far loose short spelled = record {
    spell = Spell-more rows row so_far.spell loose spelled;
    short = both (have_long rows) (list_any is_long row) (have_long-push rows row) so_far.short (short_row row short);
  }
    where
      both : (a b : Bool) → have_long (rows ++ row ∷ []) ≡ (a || b) → not a ≡ true → b ≡ false → not (have_long (rows ++ row ∷ [])) ≡ true
      both true b e p q = absurd (cc)
      both false b e p q = ap not (e ∙ q)

  -- the next line spells a row with a long text
  pub SpellLong-first : (rows : List (List Value)) → Spell kinds (take at lines) rows → ((row : List Value) × IsLooseRow kinds row × (line ≡ row_spelling row) × HasLong row) → SpellLong kinds (take (at + 1) lines)
  SpellLong-first rows spell long = (rows ++ long.0 ∷ [], Spell-more rows long.0 spell long.1 long.2, have_long-push rows long.0 ∙ by (have_long rows) (long_row long.0 long.3))
    where
      by : (a : Bool) → list_any is_long long.0 ≡ true → (a || list_any is_long long.0) ≡ true
      by true e = refl
      by false e = e

  -- the next line spells a row behind one with a long text
  pub SpellLong-more : SpellLong kinds (take at lines) → SpellsRow kinds line → SpellLong kinds (take (at + 1) lines)
  SpellLong-more long row = (long.0 ++ row.0 ∷ [], Spell-more long.0 row.0 long.1 row.1 row.2, have_long-push long.0 row.0 ∙ ap (λ b. b || list_any is_long row.0) long.2)

  -- the next line spells no row
  pub IsFirstBad-next : (rows : List (List Value)) → Spell kinds (take at lines) rows → SpellsNone kinds line → IsFirstBad kinds lines (at + 1)
  IsFirstBad-next rows spell none = record {
    before = take at lines;
    line = line;
    others = drop (suc at) lines;
    rows = rows;
    parts = sym (take-append-drop at lines) ∙ ap (λ l. take at lines ++ l) (drop-cons lines at line below ∙ ap (λ l. l ∷ drop (suc at) lines) (sym is));
    spell = spell;
    number_is = omega (arith, below, length-take at lines);
    bad = none;
  }
