-- Lists that begin with the same bytes.
use Rattle.std.proofs.Common.{◌≡◌, ℕ, zero, suc, ◌-◌, ◌<◌, ◌≤◌, List, [], ◌∷◌, ◌++◌, length, get_or, take, drop, Result, refl, sym, ap, subst, ◌∙◌, arith}
use Rattle.std.proofs.lemmas.List.{take-take, take-append-le, take-append-drop, get_or-take}
use Rattle.std.proofs.Math.Seq.{take-append_seam}
use Rattle.byte_formats.proofs.Readers.{done, ok_is, IsReader}

abbrev pub Same : ℕ → List ℕ → List ℕ → Type 0
Same n xs ys = take n xs ≡ take n ys

pub same_less : (m n : ℕ) (xs ys : List ℕ) → m ≤ n → Same n xs ys → Same m xs ys
same_less m n xs ys le e = sym (take-take m n xs le) ∙ ap (λ (l : List ℕ). take m l) e ∙ take-take m n ys le

take_over : (n : ℕ) (xs ys : List ℕ) → take n (xs ++ ys) ≡ take n xs ++ take (n - length xs) ys
take_over zero [] ys = refl
take_over zero (x ∷ xs) ys = let k : 0 - length (x ∷ xs) ≡ 0 = omega arith in ap (λ (m : ℕ). take m ys) (sym k)
take_over (suc n) [] ys = let k : suc n - 0 ≡ suc n = omega arith in ap (λ (m : ℕ). take m ys) (sym k)
take_over (suc n) (x ∷ xs) ys =
    let k : suc n - length (x ∷ xs) ≡ n - length xs = omega arith in
    ap (λ (l : List ℕ). x ∷ l) (take_over n xs ys) ∙ ap (λ (m : ℕ). x ∷ (take n xs ++ take m ys)) (sym k)

pub same_front : (n : ℕ) (s xs ys : List ℕ) → n ≤ length s → Same n (s ++ xs) (s ++ ys)
same_front n s xs ys le = take-append-le n s xs le ∙ sym (take-append-le n s ys le)

-- what stands behind a part that is longer doesn't matter
pub same_longer : (n : ℕ) (s xs ys : List ℕ) → n ≤ length s → Same n s ys → Same n (s ++ xs) ys
same_longer n s xs ys le e = take-append-le n s xs le ∙ e

pub same_behind : (n : ℕ) (s xs ys : List ℕ) → Same (n - length s) xs ys → Same n (s ++ xs) (s ++ ys)
same_behind n s xs ys e = take_over n s xs ∙ ap (λ (l : List ℕ). take n s ++ l) e ∙ sym (take_over n s ys)

abbrev tail_of : List ℕ → List ℕ
tail_of [] = []
tail_of (x ∷ xs) = xs

pub same_cancel : (n : ℕ) (s xs ys : List ℕ) → length s ≤ n → Same n (s ++ xs) (s ++ ys) → Same (n - length s) xs ys
same_cancel n [] xs ys le e = let k : n - 0 ≡ n = omega arith in subst (λ (m : ℕ). Same m xs ys) (sym k) e
same_cancel zero (x ∷ s) xs ys le e = absurd (omega arith)
same_cancel (suc n) (x ∷ s) xs ys le e =
    let k : suc n - length (x ∷ s) ≡ n - length s = omega arith in
    subst (λ (m : ℕ). Same m xs ys) (sym k) (same_cancel n s xs ys (omega arith) (ap tail_of e))

pub same_starts : (n : ℕ) (s ys other : List ℕ) → length s ≤ n → Same n other (s ++ ys) → other ≡ s ++ drop (length s) other
same_starts n s ys other le e =
    sym (take-append-drop (length s) other)
    ∙ ap (λ (l : List ℕ). l ++ drop (length s) other) (same_less (length s) n other (s ++ ys) le e ∙ take-append_seam s ys)

pub same_byte : (n i : ℕ) (xs ys : List ℕ) → i < n → Same n xs ys → get_or xs i 0 ≡ get_or ys i 0
same_byte n i xs ys lt e = sym (get_or-take n xs i 0 lt) ∙ ap (λ (l : List ℕ). get_or l i 0) e ∙ get_or-take n ys i 0 lt

-- two spellings that share the bytes of one are of one value
pub read_same : {A : Type 0} (read : List ℕ → Result (A × List ℕ) ℕ) (spell : A → List ℕ) (P : A → Type 0) → IsReader read spell P → (a b : A) (n : ℕ) (r s : List ℕ) → P a → P b → length (spell b) ≤ n
    → Same n (spell a ++ r) (spell b ++ s) → (a ≡ b) × Same (n - length (spell b)) r s
read_same {A} read spell P law a b n r s p q le e =
    let rest = drop (length (spell b)) (spell a ++ r) in
    let starts : spell a ++ r ≡ spell b ++ rest = same_starts n (spell b) s (spell a ++ r) le e in
    let one : done (a, r) ≡ done (b, rest) = sym (law.again a r p) ∙ ap read starts ∙ law.again b rest q in
    let is = ok_is (a, r) (b, rest) one in (
      ap (λ (y : A × List ℕ). y.0) is,
      subst (λ (l : List ℕ). Same (n - length (spell b)) l s) (sym (ap (λ (y : A × List ℕ). y.1) is))
          (same_cancel n (spell b) rest s le (subst (λ (l : List ℕ). Same n l (spell b ++ s)) starts e)),
    )
