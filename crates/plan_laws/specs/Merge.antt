-- The merge of two lists, which takes of the two elements in front the left one where a test holds of them, and else the
-- right one.
use Rattle.std.specs.Prelude.{Bool, List, [], ◌∷◌, if◌then◌else◌}

-- `merge_by first (x ∷ xs)`, where `after` is `merge_by first xs`
abbrev pub merge_at : {A : Type 0} → (A → A → Bool) → A → List A → (List A → List A) → List A → List A
merge_at first x xs after [] = x ∷ xs
merge_at first x xs after (y ∷ ys) = if first x y then x ∷ after (y ∷ ys) else y ∷ merge_at first x xs after ys

abbrev pub merge_by : {A : Type 0} → (A → A → Bool) → List A → List A → List A
merge_by first [] = λ ys. ys
merge_by first (x ∷ xs) = merge_at first x xs (merge_by first xs)
