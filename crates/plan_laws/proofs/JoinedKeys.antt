-- The first of equal rows of joined lists, and elements of lists that pass several tests.
use Rattle.std.proofs.Common.{◌≡◌, refl, sym, ap, ◌∙◌, Bool, true, false, cond, not, ◌||◌, List, [], ◌∷◌, ◌++◌, map}
use Rattle.std.specs.List.{filter, list_any, Contains}
use Rattle.std.proofs.lemmas.List.Elements.{filter-append}
use Rattle.rows_core.specs.Equality.{row_eq-Decides}
use Rattle.rows_core.specs.Value.{row_eq}
use Rattle.plan_core.specs.Columns.{Row, Rows}
use Rattle.plan_core.specs.Distinct.{distinct_rows}
use Rattle.plan_laws.proofs.FirstOfEqual.{others_than, either_way}
use Rattle.plan_laws.proofs.Members.{at_front, behind}

module _ {X : Type 0} where
  -- the same test at each element
  pub filter_alike : (p q : X → Bool) → ((x : X) → p x ≡ q x) → (xs : List X) → filter p xs ≡ filter q xs
  filter_alike p q same [] = refl
  filter_alike p q same (x ∷ xs) = ap (λ b. cond b (x ∷ filter p xs) (filter p xs)) (same x) ∙ ap (λ l. cond (q x) (x ∷ l) l) (filter_alike p q same xs)

  pub filter_all : (p : X → Bool) → ((x : X) → p x ≡ true) → (xs : List X) → filter p xs ≡ xs
  filter_all p all [] = refl
  filter_all p all (x ∷ xs) = ap (λ b. cond b (x ∷ filter p xs) (filter p xs)) (all x) ∙ ap (λ l. x ∷ l) (filter_all p all xs)

  -- both tests, one after the other
  pub filter_both : (p q both : X → Bool) → ((x : X) → both x ≡ cond (p x) (q x) false) → (xs : List X) → filter q (filter p xs) ≡ filter both xs
  filter_both p q both same [] = refl
  filter_both p q both same (x ∷ xs) = by (p x) refl (filter_both p q both same xs)
    where
      by : (b : Bool) → p x ≡ b → filter q (filter p xs) ≡ filter both xs → filter q (cond b (x ∷ filter p xs) (filter p xs)) ≡ cond (both x) (x ∷ filter both xs) (filter both xs)
      by true e rest = ap (λ l. cond (q x) (x ∷ l) l) rest ∙ ap (λ b. cond b (x ∷ filter both xs) (filter both xs)) (sym (same x ∙ ap (λ b. cond b (q x) false) e))
      by false e rest = rest ∙ ap (λ b. cond b (x ∷ filter both xs) (filter both xs)) (sym (same x ∙ ap (λ b. cond b (q x) false) e))

  -- equal at each element of the list
  pub map_alike : {Y : Type 0} (f g : X → Y) (xs : List X) → ((x : X) → Contains xs x → f x ≡ g x) → map f xs ≡ map g xs
  map_alike f g [] same = refl
  map_alike f g (x ∷ xs) same = ap (λ y. y ∷ map f xs) (same x (at_front x xs)) ∙ ap (λ l. g x ∷ l) (map_alike f g xs (λ y h. same y (behind x xs y h)))

  pub filter_of_map : {Y : Type 0} (f : X → Y) (p : Y → Bool) (xs : List X) → filter p (map f xs) ≡ map f (filter (λ x. p (f x)) xs)
  filter_of_map f p [] = refl
  filter_of_map f p (x ∷ xs) = ap (λ l. cond (p (f x)) (f x ∷ l) l) (filter_of_map f p xs) ∙ by (p (f x))
    where
      by : (b : Bool) → cond b (f x ∷ map f (filter (λ x. p (f x)) xs)) (map f (filter (λ x. p (f x)) xs)) ≡ map f (cond b (x ∷ filter (λ x. p (f x)) xs) (filter (λ x. p (f x)) xs))
      by true = refl
      by false = refl

-- whether none of the rows is equal to this one
abbrev pub is_none_of : Rows → Row → Bool
is_none_of rows row = not (list_any (row_eq row) rows)

-- a row that is another one is among these where it is among them without that one
among_others : (first row : Row) → row_eq row first ≡ false → (rows : Rows) → list_any (row_eq row) (filter (others_than first) rows) ≡ list_any (row_eq row) rows
among_others first row differs [] = refl
among_others first row differs (x ∷ xs) = by (row_eq first x) refl (among_others first row differs xs)
  where
    by : (b : Bool) → row_eq first x ≡ b → list_any (row_eq row) (filter (others_than first) xs) ≡ list_any (row_eq row) xs
        → list_any (row_eq row) (cond (not b) (x ∷ filter (others_than first) xs) (filter (others_than first) xs)) ≡ (row_eq row x || list_any (row_eq row) xs)
    by true e rest =
        let same : row_eq row x ≡ false = ap (row_eq row) (sym ((row_eq-Decides first x).0 e)) ∙ differs in
        rest ∙ sym (ap (λ b. b || list_any (row_eq row) xs) same)
    by false e rest = ap (λ b. row_eq row x || b) rest

none_of_more : (first : Row) (olds : Rows) (row : Row) → is_none_of (first ∷ filter (others_than first) olds) row ≡ cond (is_none_of olds row) (others_than first row) false
none_of_more first olds row = ap (λ b. not (b || list_any (row_eq row) (filter (others_than first) olds))) (either_way row first) ∙ by (row_eq first row) refl
  where
    neither : (b : Bool) → not b ≡ cond (not b) true false
    neither true = refl
    neither false = refl

    nothing : (b : Bool) → false ≡ cond b false false
    nothing true = refl
    nothing false = refl

    by : (b : Bool) → row_eq first row ≡ b → not (b || list_any (row_eq row) (filter (others_than first) olds)) ≡ cond (is_none_of olds row) (not b) false
    by true e = nothing (is_none_of olds row)
    by false e = ap not (among_others first row (either_way row first ∙ e) olds) ∙ neither (list_any (row_eq row) olds)

-- the first of equal rows of joined lists: those of the first, and those of the second that the first hasn't
pub distinct_joined : (olds news : Rows) → distinct_rows (olds ++ news) ≡ distinct_rows olds ++ filter (is_none_of (distinct_rows olds)) (distinct_rows news)
distinct_joined [] news = sym (filter_all (is_none_of []) (λ row. refl) (distinct_rows news))
distinct_joined (first ∷ olds) news =
    let p : Row → Bool = others_than first in
    let rest = distinct_rows olds in
    let fresh = filter (is_none_of rest) (distinct_rows news) in
    ap (λ l. first ∷ filter p l) (distinct_joined olds news)
    ∙ ap (λ l. first ∷ l) (filter-append p rest fresh)
    ∙ ap (λ l. first ∷ filter p rest ++ l) (filter_both (is_none_of rest) p (is_none_of (first ∷ filter p rest)) (none_of_more first rest) (distinct_rows news))
