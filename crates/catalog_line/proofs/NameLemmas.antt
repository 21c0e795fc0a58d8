-- The leaves of a plan with the names of their streams, told one after another.
use Rattle.std.proofs.Common.{◌≡◌, ℕ, ◌<◌, ◌≤◌, zero, suc, List, [], ◌∷◌, ◌++◌, map, length, get_or, take, drop, ◌-◌, Result, Ok, Err, OnOk, refl, sym, ap, ◌∙◌, append_assoc, arith}
use Rattle.std.proofs.lemmas.List.{take_all}
use Rattle.std.specs.List.{zip}
use Rattle.serde_json.specs.Data.{Data}
use Rattle.rows_core.specs.declared.cut.Cut.{Cut}
use Rattle.catalog_types.specs.declared.snapshot.StreamState.{StreamState}
use Rattle.catalog_line.specs.CatalogData.{cut_data, name_at}

-- the name of a stream at its place
pub name_at-there : {A : Type 0} (told : A → StreamState) (streams : List A) (place : ℕ) (d : A) → place < length streams → name_at (map told streams) place ≡ (told (get_or streams place d)).name
name_at-there told [] place d below = absurd (omega (arith, below))
name_at-there told (s ∷ streams) zero d below = refl
name_at-there told (s ∷ streams) (suc place) d below = name_at-there told streams place d (omega (arith, below))

-- all but the first
abbrev pub behind_first : {A : Type 0} → List A → List A
behind_first xs = take (length xs - 1) (drop 1 xs)

behind_first-cons : {A : Type 0} (x : A) (xs : List A) → behind_first (x ∷ xs) ≡ xs
behind_first-cons x xs = take_all (length (x ∷ xs) - 1) xs (omega arith)

-- the first leaf is told, and then the others
pub cuts-next : {A B : Type 0} (streams : List StreamState) (leaves : List ℕ) (cuts : List Cut) (cut : Cut) (old mid new : List Data) (d : Data) (r : Result A B) → 1 ≤ length leaves → 1 ≤ length cuts → mid ≡ old ++ d ∷ []
    → d ≡ cut_data (name_at streams (get_or leaves 0 0), get_or cuts 0 cut) → OnOk r (new ≡ mid ++ map cut_data (zip (map (name_at streams) (behind_first leaves)) (behind_first cuts)))
    → OnOk r (new ≡ old ++ map cut_data (zip (map (name_at streams) leaves) cuts))
cuts-next streams [] cuts cut old mid new d r some others is told behind = absurd (omega (arith, some))
cuts-next streams (l ∷ ls) [] cut old mid new d r some others is told behind = absurd (omega (arith, others))
cuts-next streams (l ∷ ls) (k ∷ ks) cut old mid new d (Ok a) some others is told behind =
    let rest = map cut_data (zip (map (name_at streams) ls) ks) in
    behind ∙ ap (λ m. m ++ map cut_data (zip (map (name_at streams) (behind_first (l ∷ ls))) (behind_first (k ∷ ks)))) (is ∙ ap (λ x. old ++ x ∷ []) told)
    ∙ (λ i. (old ++ cut_data (name_at streams l, k) ∷ []) ++ map cut_data (zip (map (name_at streams) (behind_first-cons l ls i)) (behind_first-cons k ks i)))
    ∙ append_assoc old (cut_data (name_at streams l, k) ∷ []) rest
cuts-next streams (l ∷ ls) (k ∷ ks) cut old mid new d (Err b) some others is told behind = tt
