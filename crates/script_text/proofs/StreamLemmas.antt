-- The parts of a line `stream NAME (COL:KIND, COL:KIND)`.
use Rattle.std.proofs.Common.{◌≡◌, ℕ, ◌+◌, ◌-◌, ◌≤◌, Bool, true, false, cond, nat_lt, List, [], ◌∷◌, ◌++◌, length, take, drop, position, Option, Some, None, refl, sym, ap, ◌∙◌, subst, append_assoc, arith}
use Rattle.std.specs.List.{slice_split, position_or_len}
use Rattle.std.specs.Option.{option_map}
use Rattle.std.proofs.lemmas.Bool.Decides.{Decides-ltb, nat_tests}
use Rattle.std.proofs.lemmas.List.Splits.{slice_split_first, slice_split_none}
use Rattle.std.proofs.lemmas.List.Sums.{fails_before_first}
use Rattle.rows_core.specs.declared.schema.Column.{Column}
use Rattle.script_text.specs.StreamLine.{is_mark, Parts, parts_round, parts_at, column_of, columns_with, columns_of_parts, columns_of}
use Rattle.script_text.proofs.TakeLemmas.{rest_is}

pub parts_at-some : (mark : ℕ) (text : List ℕ) (at : ℕ) → position (is_mark mark) text ≡ Some at
    → parts_at mark text ≡ Some (record { before = take at text; behind = take (length text - (at + 1)) (drop (at + 1) text) })
unfolding parts_at
parts_at-some mark text at e = ap (option_map (parts_round text)) e ∙ ap (λ b. Some (record { before = take at text; behind = b })) (sym (rest_is text (at + 1)))

pub parts_at-none : (mark : ℕ) (text : List ℕ) → position (is_mark mark) text ≡ None → parts_at mark text ≡ None
unfolding parts_at
parts_at-none mark text e = ap (option_map (parts_round text)) e

module _ (mark : ℕ) (text : List ℕ) where
  abbrev place : ℕ
  place = position_or_len (is_mark mark) text

  -- the first of the parts that a mark parts
  pub slice_split-next : (parts : Parts) → parts_at mark text ≡ Some parts → slice_split (is_mark mark) text ≡ parts.before ∷ slice_split (is_mark mark) parts.behind
  unfolding parts_at
  slice_split-next parts e = by (nat_lt place (length text)) refl e
    where
      by : (b : Bool) → nat_lt place (length text) ≡ b → option_map (parts_round text) (cond b (Some place) None) ≡ Some parts → slice_split (is_mark mark) text ≡ parts.before ∷ slice_split (is_mark mark) parts.behind
      by true test e = let is : parts_round text place ≡ parts = cc in
          subst (λ p. slice_split (is_mark mark) text ≡ p.before ∷ slice_split (is_mark mark) p.behind) is (slice_split_first (is_mark mark) text 0 ((Decides-ltb place (length text)).0 test))
      by false test e = absurd (cc)

  -- the last of them
  pub slice_split-last : parts_at mark text ≡ None → slice_split (is_mark mark) text ≡ text ∷ []
  unfolding parts_at
  slice_split-last e = by (nat_lt place (length text)) refl e
    where
      by : (b : Bool) → nat_lt place (length text) ≡ b → option_map (parts_round text) (cond b (Some place) None) ≡ None → slice_split (is_mark mark) text ≡ text ∷ []
      by true test e = absurd (cc)
      by false test e = let all : length text ≤ place = grind (arith, nat_tests) in
          slice_split_none (is_mark mark) text (λ k d h. fails_before_first (is_mark mark) text k d (omega (arith, h, all)))

pub columns_of-next : (text : List ℕ) (parts : Parts) → parts_at 44 text ≡ Some parts → columns_of text ≡ columns_with (column_of parts.before) (columns_of parts.behind)
unfolding columns_of
columns_of-next text parts e = ap columns_of_parts (slice_split-next 44 text parts e)

pub columns_of-last : (text : List ℕ) → parts_at 44 text ≡ None → columns_of text ≡ columns_with (column_of text) (Some [])
unfolding columns_of
columns_of-last text e = ap columns_of_parts (slice_split-last 44 text e)

-- these columns and then those of a text, where it has them
abbrev pub columns_behind : List Column → Option (List Column) → Option (List Column)
columns_behind front None = None
columns_behind front (Some columns) = Some (front ++ columns)

columns_behind-onto : (front : List Column) (column : Column) (columns : Option (List Column)) → columns_behind front (columns_with (Some column) columns) ≡ columns_behind (front ++ column ∷ []) columns
columns_behind-onto front column None = refl
columns_behind-onto front column (Some columns) = ap Some (sym (append_assoc front (column ∷ []) columns))

module _ (text rest : List ℕ) (front : List Column) (so_far : columns_of text ≡ columns_behind front (columns_of rest)) where
  module _ (parts : Parts) (parted : parts_at 44 rest ≡ Some parts) where
    pub columns_of-more : (column : Column) → column_of parts.before ≡ Some column → columns_of text ≡ columns_behind (front ++ column ∷ []) (columns_of parts.behind)
    columns_of-more column is = so_far ∙ ap (columns_behind front) (columns_of-next rest parts parted ∙ ap (λ c. columns_with c (columns_of parts.behind)) is) ∙ columns_behind-onto front column (columns_of parts.behind)

    pub columns_of-broken : column_of parts.before ≡ None → columns_of text ≡ None
    columns_of-broken is = so_far ∙ ap (columns_behind front) (columns_of-next rest parts parted ∙ ap (λ c. columns_with c (columns_of parts.behind)) is)

  module _ (parted : parts_at 44 rest ≡ None) where
    pub columns_of-ended : (column : Column) → column_of rest ≡ Some column → columns_of text ≡ Some (front ++ column ∷ [])
    columns_of-ended column is = so_far ∙ ap (columns_behind front) (columns_of-last rest parted ∙ ap (λ c. columns_with c (Some [])) is)

    pub columns_of-broken_last : column_of rest ≡ None → columns_of text ≡ None
    columns_of-broken_last is = so_far ∙ ap (columns_behind front) (columns_of-last rest parted ∙ ap (λ c. columns_with c (Some [])) is)
