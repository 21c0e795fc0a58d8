-- Pieces that are written one behind the other.
use Rattle.std.proofs.Common.{◌≡◌, ◌∙◌, refl, sym, ap, ℕ, ◌+◌, ◌<◌, ◌≤◌, List, [], ◌∷◌, ◌++◌, length, map, take, get_or, append_assoc, append-nil, arith}
use Rattle.std.specs.List.{flat_map}
use Rattle.std.proofs.lemmas.Grind.{flat_map-append}
use Rattle.std.proofs.lemmas.List.{take_more, take_all, map-append, length-map, length-take-le}
use Rattle.catalog_page.specs.declared.catalogue.Kept.{Kept}
use Rattle.catalog_page.specs.declared.catalogue.Keyed.{Keyed}
use Rattle.catalog_page.specs.declared.catalogue.StreamLine.{StreamLine}
use Rattle.catalog_page.specs.Markup.{Piece, written}
use Rattle.catalog_page.specs.Page.{result_row, result_rows}
use Rattle.catalog_page.specs.Plain.{PlainKept, kept_of}

pub written-append : (a b : List Piece) → written (a ++ b) ≡ written a ++ written b
unfolding written
written-append a b = flat_map-append _ a b

written-nil : written [] ≡ []
unfolding written
written-nil = refl

pub puts : (o p q : List ℕ) (a b : List Piece) → p ≡ o ++ written a → q ≡ p ++ written b → q ≡ o ++ written (a ++ b)
puts o p q a b first second =
    second ∙ ap (λ (l : List ℕ). l ++ written b) first ∙ append_assoc o (written a) (written b)
    ∙ ap (λ (l : List ℕ). o ++ l) (sym (written-append a b))

-- ---- a row for each item, as far as a loop has come

pub rows_start : (o : List ℕ) → o ≡ o ++ written []
rows_start o = sym (append-nil o) ∙ ap (λ (l : List ℕ). o ++ l) (sym written-nil)

flat_map-more : {X : Type 0} (f : X → List Piece) (xs : List X) (i : ℕ) (x : X) → i < length xs → x ≡ get_or xs i x
    → flat_map f (take (i + 1) xs) ≡ flat_map f (take i xs) ++ f x
flat_map-more f xs i x there is =
    ap (flat_map f) (take_more xs i x there) ∙ flat_map-append f (take i xs) (get_or xs i x ∷ [])
    ∙ ap (λ (l : List Piece). flat_map f (take i xs) ++ l) (append-nil (f (get_or xs i x)) ∙ ap f (sym is))

pub rows_more : {X : Type 0} (f : X → List Piece) (xs : List X) (i : ℕ) (x : X) (o p q : List ℕ) → i < length xs → x ≡ get_or xs i x
    → p ≡ o ++ written (flat_map f (take i xs)) → q ≡ p ++ written (f x) → q ≡ o ++ written (flat_map f (take (i + 1) xs))
rows_more f xs i x o p q there is before more =
    puts o p q (flat_map f (take i xs)) (f x) before more
    ∙ ap (λ (ps : List Piece). o ++ written ps) (sym (flat_map-more f xs i x there is))

pub rows_end : {X : Type 0} (f : X → List Piece) (xs : List X) (i : ℕ) (o p : List ℕ) → length xs ≤ i
    → p ≡ o ++ written (flat_map f (take i xs)) → p ≡ o ++ written (flat_map f xs)
rows_end {X = X} f xs i o p end all = all ∙ ap (λ (l : List X). o ++ written (flat_map f l)) (take_all i xs end)

-- ---- rows of kept results, which are numbered

one_row : (s : List StreamLine) (ps : List Keyed) (tick place n : ℕ) (ks : List PlainKept) (k : PlainKept) → place + length ks ≡ n
    → result_rows s ps tick place (ks ++ k ∷ []) ≡ result_rows s ps tick place ks ++ result_row s ps tick n k
one_row s ps tick place n [] k is =
    let same : place ≡ n = omega (arith, is) in
    append-nil (result_row s ps tick place k) ∙ ap (λ (m : ℕ). result_row s ps tick m k) same
one_row s ps tick place n (j ∷ ks) k is =
    let next : (place + 1) + length ks ≡ n = omega (arith, is) in
    ap (λ (l : List Piece). result_row s ps tick place j ++ l) (one_row s ps tick (place + 1) n ks k next)
    ∙ sym (append_assoc (result_row s ps tick place j) (result_rows s ps tick (place + 1) ks) (result_row s ps tick n k))

pub result_rows_more : (s : List StreamLine) (ps : List Keyed) (tick : ℕ) (ks : List Kept) (i : ℕ) (k : Kept) (before : ℕ) (o p q : List ℕ)
    → i < length ks → k ≡ get_or ks i k → before ≡ i
    → p ≡ o ++ written (result_rows s ps tick 1 (map kept_of (take i ks)))
    → q ≡ p ++ written (result_row s ps tick (before + 1) (kept_of k))
    → q ≡ o ++ written (result_rows s ps tick 1 (map kept_of (take (i + 1) ks)))
result_rows_more s ps tick ks i k before o p q there at counted so_far more =
    let taken : map kept_of (take (i + 1) ks) ≡ map kept_of (take i ks) ++ kept_of k ∷ []
    = ap (map kept_of) (take_more ks i k there) ∙ map-append kept_of (take i ks) (get_or ks i k ∷ [])
    ∙ ap (λ (x : Kept). map kept_of (take i ks) ++ kept_of x ∷ []) (sym at) in
    let short : i ≤ length ks = omega (arith, there) in
    let long : 1 + length (map kept_of (take i ks)) ≡ before + 1
    = omega (arith, length-map (take i ks) kept_of, length-take-le i ks short, counted) in
    puts o p q (result_rows s ps tick 1 (map kept_of (take i ks))) (result_row s ps tick (before + 1) (kept_of k)) so_far more
    ∙ ap (λ (ps : List Piece). o ++ written ps) (sym (ap (result_rows s ps tick 1) taken
    ∙ one_row s ps tick 1 (before + 1) (map kept_of (take i ks)) (kept_of k) long))

pub result_rows_end : (s : List StreamLine) (ps : List Keyed) (tick : ℕ) (ks : List Kept) (i : ℕ) (o p : List ℕ) → length ks ≤ i
    → p ≡ o ++ written (result_rows s ps tick 1 (map kept_of (take i ks))) → p ≡ o ++ written (result_rows s ps tick 1 (map kept_of ks))
result_rows_end s ps tick ks i o p end all = all ∙ ap (λ (l : List Kept). o ++ written (result_rows s ps tick 1 (map kept_of l))) (take_all i ks end)
