-- Bytes of kept results, as far as a loop has come.
use Rattle.std.proofs.Common.{◌≡◌, ◌∙◌, refl, sym, ap, zero-add, ℕ, ◌+◌, ◌<◌, ◌≤◌, Bool, if◌then◌else◌, List, [], ◌∷◌, ◌++◌, length, map, take, get_or}
use Rattle.std.proofs.lemmas.List.{map-append, take_more, take_all}
use Rattle.std.proofs.lemmas.List.Sums.{sum_by-append}
use Rattle.catalog_page.specs.declared.catalogue.Kept.{Kept}
use Rattle.catalog_page.specs.Page.{bytes_where}
use Rattle.catalog_page.specs.Plain.{PlainKept, kept_of}

pub sum_start : (p : PlainKept → Bool) → 0 ≡ bytes_where p []
unfolding bytes_where
sum_start p = refl

one_more : (p : PlainKept → Bool) (ks : List PlainKept) (k : PlainKept) → bytes_where p (ks ++ k ∷ []) ≡ bytes_where p ks + (if p k then k.standing.size else 0)
unfolding bytes_where
one_more p ks k = sum_by-append _ ks (k ∷ []) ∙ ap (λ (n : ℕ). bytes_where p ks + n) (zero-add _)

pub sum_more : (p : PlainKept → Bool) (ks : List Kept) (i : ℕ) (k : Kept) (bytes size : ℕ) (is : Bool)
    → i < length ks → k ≡ get_or ks i k → is ≡ p (kept_of k) → size ≡ (if is then k.standing.size else 0)
    → bytes ≡ bytes_where p (map kept_of (take i ks)) → bytes + size ≡ bytes_where p (map kept_of (take (i + 1) ks))
sum_more p ks i k bytes size is there at test sized before =
    let taken : map kept_of (take (i + 1) ks) ≡ map kept_of (take i ks) ++ kept_of k ∷ []
    = ap (map kept_of) (take_more ks i k there) ∙ map-append kept_of (take i ks) (get_or ks i k ∷ [])
    ∙ ap (λ (x : Kept). map kept_of (take i ks) ++ kept_of x ∷ []) (sym at) in
    let more : size ≡ (if p (kept_of k) then k.standing.size else 0)
    = sized ∙ ap (λ (b : Bool). if b then k.standing.size else 0) test in
    ap (λ (n : ℕ). n + size) before ∙ ap (λ (n : ℕ). bytes_where p (map kept_of (take i ks)) + n) more
    ∙ sym (one_more p (map kept_of (take i ks)) (kept_of k)) ∙ ap (bytes_where p) (sym taken)

pub sum_end : (p : PlainKept → Bool) (ks : List Kept) (i : ℕ) (bytes : ℕ) → length ks ≤ i
    → bytes ≡ bytes_where p (map kept_of (take i ks)) → bytes ≡ bytes_where p (map kept_of ks)
sum_end p ks i bytes end all = all ∙ ap (λ (l : List Kept). bytes_where p (map kept_of l)) (take_all i ks end)
