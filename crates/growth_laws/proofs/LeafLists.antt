-- The lists of the leaves of two inputs, and the rows in longer intervals.
use Rattle.std.proofs.Common.{◌≡◌, refl, sym, ap, ◌∙◌, ℕ, zero, suc, ◌+◌, ◌-◌, ◌≤◌, List, [], ◌∷◌, ◌++◌, length, take, drop, take-add, drop-drop, append-nil, arith}
use Rattle.std.specs.List.{flat_map}
use Rattle.std.proofs.lemmas.Grind.{flat_map-append}
use Rattle.std.specs.Prelude.{slice_range, slice_get, unwrap_or}
use Rattle.rows_core.specs.declared.cut.Cut.{Cut}
use Rattle.plan_core.specs.Columns.{Rows}
use Rattle.estimator.specs.Cuts.{Cuts, added_cut}
use Rattle.growth_laws.specs.Lists.{Extents, extents_of, interval_rows, lists_at, no_extent, one_extent}

pub left_lists : (extents : Extents) (xs ys : List ℕ) (cuts : Cuts) → take (length xs) (lists_at extents (xs ++ ys) cuts) ≡ lists_at extents xs (take (length xs) cuts)
left_lists extents [] ys cuts = refl
left_lists extents (x ∷ xs) ys [] = refl
left_lists extents (x ∷ xs) ys (cut ∷ cuts) = ap (λ lists. interval_rows (extents_of extents x) cut ∷ lists) (left_lists extents xs ys cuts)

none : (extents : Extents) (xs : List ℕ) → [] ≡ lists_at extents xs []
none extents [] = refl
none extents (x ∷ xs) = refl

pub right_lists : (extents : Extents) (xs ys : List ℕ) (cuts : Cuts) → drop (length xs) (lists_at extents (xs ++ ys) cuts) ≡ lists_at extents ys (drop (length xs) cuts)
right_lists extents [] ys cuts = refl
right_lists extents (x ∷ xs) ys [] = none extents ys
right_lists extents (x ∷ xs) ys (cut ∷ cuts) = right_lists extents xs ys cuts

pub longer_range : {X : Type 0} (xs : List X) (a b c : ℕ) → a ≤ b → b ≤ c → slice_range xs a c ≡ slice_range xs a b ++ slice_range xs b c
longer_range xs a b c first second =
    let whole : c - a ≡ (b - a) + (c - b) = omega (arith, first, second) in
    let there : a + (b - a) ≡ b = omega (arith, first) in
    ap (λ n. take n (drop a xs)) whole ∙ take-add (b - a) (c - b) (drop a xs)
    ∙ ap (λ l. take (b - a) (drop a xs) ++ take (c - b) l) (drop-drop (b - a) a xs ∙ ap (λ n. drop n xs) there)

pub longer_interval : (extents : List Rows) (old new : Cut) → old.from ≡ new.from → old.from ≤ old.to → old.to ≤ new.to
    → interval_rows extents new ≡ interval_rows extents old ++ interval_rows extents (added_cut old new)
longer_interval extents old new same first second =
    ap (λ n. flat_map (λ rows. rows) (slice_range extents n new.to)) (sym same)
    ∙ ap (flat_map (λ rows. rows)) (longer_range extents old.from old.to new.to first second)
    ∙ flat_map-append (λ rows. rows) (slice_range extents old.from old.to) (slice_range extents old.to new.to)

-- ---- each extent

pub no_rows : (extents : List Rows) (number : ℕ) → interval_rows extents (no_extent number) ≡ []
no_rows extents number = let none : number - number ≡ 0 = omega arith in ap (λ n. flat_map (λ rows. rows) (take n (drop number extents))) none

first_rows : (extents : List Rows) (number : ℕ) → flat_map (λ rows. rows) (take 1 (drop number extents)) ≡ unwrap_or (slice_get extents number) []
first_rows [] zero = refl
first_rows [] (suc number) = refl
first_rows (rows ∷ others) zero = append-nil rows
first_rows (rows ∷ others) (suc number) = first_rows others number

pub one_extent_rows : (extents : List Rows) (number : ℕ) → interval_rows extents (one_extent number) ≡ unwrap_or (slice_get extents number) []
one_extent_rows extents number =
    let one : number + 1 - number ≡ 1 = omega arith in
    ap (λ n. flat_map (λ rows. rows) (take n (drop number extents))) one ∙ first_rows extents number
