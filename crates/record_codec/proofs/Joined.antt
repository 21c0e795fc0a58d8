-- Bytes that were put one part behind the other.
use Rattle.std.proofs.Common.{◌≡◌, ℕ, zero, suc, ◌+◌, ◌<◌, List, [], ◌∷◌, ◌++◌, length, get_or, take, refl, sym, ap, ◌∙◌, append_assoc, arith}
use Rattle.std.specs.List.{flat_map}
use Rattle.catalog_types.specs.declared.extent.Extent.{Extent}
use Rattle.record_codec.specs.Spelling.{extent_spelling}
use Rattle.std.proofs.lemmas.List.{append-nil}

pub joined : (old first second third : List ℕ) {a b c : List ℕ} → a ≡ old ++ first → b ≡ a ++ second → c ≡ b ++ third → c ≡ old ++ (first ++ (second ++ third))
joined old first second third p q r =
    r ∙ ap (λ (l : List ℕ). l ++ third) q ∙ ap (λ (l : List ℕ). (l ++ second) ++ third) p ∙ append_assoc (old ++ first) second third ∙ append_assoc old first (second ++ third)

-- three numbers, and what stands behind them
pub behind_three : (old first second third more : List ℕ) {a b : List ℕ} → a ≡ old ++ (first ++ (second ++ third)) → b ≡ a ++ more → b ≡ old ++ (first ++ (second ++ (third ++ more)))
behind_three old first second third more p q =
    q ∙ ap (λ (l : List ℕ). l ++ more) p ∙ append_assoc old (first ++ (second ++ third)) more
    ∙ ap (λ (l : List ℕ). old ++ l) (append_assoc first (second ++ third) more ∙ ap (λ (l : List ℕ). first ++ l) (append_assoc second third more))

one_next : {X : Type 0} (f : X → List ℕ) (xs : List X) (i : ℕ) (d : X) → i < length xs → flat_map f (take (suc i) xs) ≡ flat_map f (take i xs) ++ f (get_or xs i d)
one_next f [] i d lt = absurd (omega arith)
one_next f (x ∷ xs) zero d lt = append-nil (f x)
one_next f (x ∷ xs) (suc i) d lt = ap (λ (l : List ℕ). f x ++ l) (one_next f xs i d (omega arith)) ∙ sym (append_assoc (f x) (flat_map f (take i xs)) (f (get_or xs i d)))

pub one_more : {X : Type 0} (f : X → List ℕ) (xs : List X) (i : ℕ) (d : X) → i < length xs → flat_map f (take (i + 1) xs) ≡ flat_map f (take i xs) ++ f (get_or xs i d)
one_more f xs i d lt = ap (λ (n : ℕ). flat_map f (take n xs)) (let n : i + 1 ≡ suc i = omega arith in n) ∙ one_next f xs i d lt

pub extents_more : (xs : List Extent) (i : ℕ) (d : Extent) (out_0 out_1 out_2 : List ℕ) → i < length xs → out_1 ≡ out_0 ++ flat_map extent_spelling (take i xs) → out_2 ≡ out_1 ++ extent_spelling (get_or xs i d)
    → out_2 ≡ out_0 ++ flat_map extent_spelling (take (i + 1) xs)
extents_more xs i d out_0 out_1 out_2 lt p q =
    q ∙ ap (λ (l : List ℕ). l ++ extent_spelling (get_or xs i d)) p ∙ append_assoc out_0 (flat_map extent_spelling (take i xs)) (extent_spelling (get_or xs i d))
    ∙ ap (λ (l : List ℕ). out_0 ++ l) (sym (one_more extent_spelling xs i d lt))
