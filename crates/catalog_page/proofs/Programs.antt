-- Programs with their keys, as far as a loop has come.
use Rattle.std.proofs.Common.{◌≡◌, sym, subst, ℕ, ◌+◌, ◌<◌, ◌≤◌, List, [], ◌∷◌, ◌++◌, length, take, get_or}
use Rattle.std.proofs.lemmas.List.{take_more, take_all}
use Rattle.catalog_page.specs.declared.catalogue.Keyed.{Keyed}
use Rattle.catalog_page.specs.declared.catalogue.ProgramLine.{ProgramLine}
use Rattle.catalog_page.specs.declared.catalogue.StreamLine.{StreamLine}
use Rattle.catalog_page.specs.ProgramKeys.{IsKeyed, AreKeyed}

behind : (s : List StreamLine) (ps : List ProgramLine) (ks : List Keyed) (p : ProgramLine) (k : Keyed)
    → AreKeyed s ps ks → IsKeyed s p k → AreKeyed s (ps ++ p ∷ []) (ks ++ k ∷ [])
behind s [] [] p k so_far is = (is, tt)
behind s [] (l ∷ ks) p k so_far is = absurd so_far
behind s (q ∷ ps) [] p k so_far is = absurd so_far
behind s (q ∷ ps) (l ∷ ks) p k so_far is = (so_far.0, behind s ps ks p k so_far.1 is)

pub keyed_more : (s : List StreamLine) (ps : List ProgramLine) (i : ℕ) (p : ProgramLine) (ks longer : List Keyed) (k : Keyed)
    → i < length ps → p ≡ get_or ps i p → longer ≡ ks ++ k ∷ [] → AreKeyed s (take i ps) ks → IsKeyed s p k
    → AreKeyed s (take (i + 1) ps) longer
keyed_more s ps i p ks longer k there at pushed so_far is =
    let keyed : IsKeyed s (get_or ps i p) k = subst (λ (q : ProgramLine). IsKeyed s q k) at is in
    subst (λ (l : List Keyed). AreKeyed s (take (i + 1) ps) l) (sym pushed)
    (subst (λ (l : List ProgramLine). AreKeyed s l (ks ++ k ∷ [])) (sym (take_more ps i p there))
    (behind s (take i ps) ks (get_or ps i p) k so_far keyed))

pub keyed_end : (s : List StreamLine) (ps : List ProgramLine) (i : ℕ) (ks : List Keyed) → length ps ≤ i
    → AreKeyed s (take i ps) ks → AreKeyed s ps ks
keyed_end s ps i ks end all = subst (λ (l : List ProgramLine). AreKeyed s l ks) (take_all i ps end) all
