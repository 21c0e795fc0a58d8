-- A loop that collects what each item gives, as far as it has come.
use Rattle.std.proofs.Common.{◌≡◌, ◌∙◌, refl, sym, ap, ℕ, ◌+◌, ◌<◌, ◌≤◌, List, [], ◌∷◌, ◌++◌, length, map, drop, get_or, Option, None, Some, append_assoc, append-nil}
use Rattle.std.specs.Option.{option_map, option_and_then}
use Rattle.std.proofs.lemmas.List.{drop_more, drop_all}
use Rattle.plan_core.specs.PlanTyping.{all_there}

-- what was found, and then what the items that are left give
abbrev pub with_found : {B : Type 0} → List B → Option (List B) → Option (List B)
with_found found others = option_map (λ ys. found ++ ys) others

abbrev pub HasFound : {A B : Type 0} → (A → Option B) → List A → ℕ → List B → Type 0
HasFound f items index found = all_there (map f items) ≡ with_found found (all_there (map f (drop index items)))

with_found-cons : {B : Type 0} (found : List B) (x : B) (others : Option (List B))
    → with_found found (option_and_then (λ ys. Some (x ∷ ys)) others) ≡ with_found (found ++ x ∷ []) others
with_found-cons found x None = refl
with_found-cons found x (Some ys) = ap Some (sym (append_assoc found (x ∷ []) ys))

with_found-nil : {B : Type 0} (others : Option (List B)) → others ≡ with_found [] others
with_found-nil None = refl
with_found-nil (Some ys) = refl

pub found_start : {A B : Type 0} (f : A → Option B) (items : List A) → HasFound f items 0 []
found_start f items = with_found-nil (all_there (map f items))

pub found_more : {A B : Type 0} (f : A → Option B) (items : List A) (index : ℕ) (d : A) (found : List B) (x : B)
    → index < length items → f (get_or items index d) ≡ Some x → HasFound f items index found → HasFound f items (index + 1) (found ++ x ∷ [])
found_more f items index d found x there gives so_far =
    so_far ∙ rw (drop_more items index d there, gives) (with_found-cons found x (all_there (map f (drop (index + 1) items))))

pub found_none : {A B : Type 0} (f : A → Option B) (items : List A) (index : ℕ) (d : A) (found : List B)
    → index < length items → f (get_or items index d) ≡ None → HasFound f items index found → all_there (map f items) ≡ None
found_none f items index d found there gives so_far = so_far ∙ rw (drop_more items index d there, gives) refl

pub found_end : {A B : Type 0} (f : A → Option B) (items : List A) (index : ℕ) (found : List B)
    → length items ≤ index → HasFound f items index found → all_there (map f items) ≡ Some found
found_end f items index found end so_far = so_far ∙ rw (drop_all index items end) (ap Some (append-nil found))

-- those four, for a function that collects so
pub ruleset found = (found_start, found_more, found_none, found_end)
