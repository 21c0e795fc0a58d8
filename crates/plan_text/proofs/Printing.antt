-- The bytes of lists.
use Rattle.std.proofs.Common.{◌≡◌, refl, sym, ap, ◌∙◌, List, [], ◌∷◌, ◌++◌, ◌<◌, length, take, drop, ◌-◌, map, slice_index_or, Result, Ok, Err, OnOk, arith}
use Rattle.std.proofs.lemmas.Grind.{flat_map-append}
use Rattle.std.proofs.Math.Seq.{take-length}
use Rattle.std.specs.List.{flat_map}
use Rattle.plan_text.specs.Canonical.{Piece, piece_bytes, text_of, behind_comma, listed}

text_of_further : {A : Type 0} (item : A → List Piece) (xs : List A) → text_of (flat_map (λ y. behind_comma (item y)) xs) ≡ flat_map (λ y. 44 ∷ 32 ∷ text_of (item y)) xs
text_of_further item [] = refl
text_of_further item (x ∷ xs) =
    flat_map-append piece_bytes (behind_comma (item x)) (flat_map (λ y. behind_comma (item y)) xs) ∙ ap (λ bytes. (44 ∷ 32 ∷ text_of (item x)) ++ bytes) (text_of_further item xs)

-- the items behind the first one are printed behind a comma and a space each
pub text_of_listed : {A : Type 0} (item : A → List Piece) (x : A) (xs : List A) → text_of (listed item (x ∷ xs)) ≡ text_of (item x) ++ flat_map (λ y. 44 ∷ 32 ∷ text_of (item y)) xs
text_of_listed item x xs = flat_map-append piece_bytes (item x) (flat_map (λ y. behind_comma (item y)) xs) ∙ ap (λ bytes. text_of (item x) ++ bytes) (text_of_further item xs)

-- what stands behind the first item of a list
abbrev pub behind_first : {A : Type 0} → List A → List A
behind_first xs = take (length xs - 1) (drop 1 xs)

behind_first-cons : {A : Type 0} (x : A) (xs : List A) → behind_first (x ∷ xs) ≡ xs
behind_first-cons x xs = let same : length (x ∷ xs) - 1 ≡ length xs = omega arith in ap (λ n. take n xs) same ∙ take-length xs

pub text_of_listed_at : {A : Type 0} (item : A → List Piece) (xs : List A) (x : A) → 0 < length xs → x ≡ slice_index_or xs 0 x →
    text_of (listed item xs) ≡ text_of (item x) ++ flat_map (λ y. 44 ∷ 32 ∷ text_of (item y)) (behind_first xs)
text_of_listed_at item [] x some at = absurd (omega (arith, some))
text_of_listed_at item (y ∷ ys) x some at =
    text_of_listed item y ys
    ∙ ap (λ z. text_of (item z) ++ flat_map (λ y. 44 ∷ 32 ∷ text_of (item y)) ys) (sym at)
    ∙ ap (λ zs. text_of (item x) ++ flat_map (λ y. 44 ∷ 32 ∷ text_of (item y)) zs) (sym (behind_first-cons y ys))

pub listed-map : {A B : Type 0} (item : B → List Piece) (of : A → B) (xs : List A) → listed item (map of xs) ≡ listed (λ x. item (of x)) xs
listed-map item of [] = refl
listed-map {A = A} item of (x ∷ xs) = ap (λ pieces. item (of x) ++ pieces) (by xs)
  where
    by : (xs : List A) → flat_map (λ y. behind_comma (item y)) (map of xs) ≡ flat_map (λ x. behind_comma (item (of x))) xs
    by [] = refl
    by (x ∷ xs) = ap (λ pieces. behind_comma (item (of x)) ++ pieces) (by xs)

pub OnOk-map : {T F P Q : Type 0} (r : Result T F) → (P → Q) → OnOk r P → OnOk r Q
OnOk-map (Ok x) f p = f p
OnOk-map (Err e) f p = tt
