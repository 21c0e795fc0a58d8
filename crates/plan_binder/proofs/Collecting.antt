-- What a refusal says of what rests on the part that was refused, and loops that collect what each item gives.
use Rattle.std.proofs.Common.{◌≡◌, Option, None, Err, ◌∙◌, sym, ap, subst, ℕ, ◌+◌, ◌<◌, ◌≤◌, List, [], ◌∷◌, ◌++◌, length, map, take, get_or, Some, Result}
use Rattle.plan_binder.specs.declared.refusal.BindRefusal.{BindRefusal}
use Rattle.plan_binder.specs.declared.refusal.BindRefusal.TheVariants as refusal
use Rattle.plan_binder.specs.Resolves.{Resolves}
use Rattle.std.proofs.lemmas.List.{map_more, take_all}
use Rattle.plan_core.specs.PlanTyping.{all_there}
use Rattle.plan_core.specs.AllThere.{HasFound, found_start, found_more, found_none}

pub passes_on : {A B C D : Type 0} (f : A → B) (g : C → D) (e : BindRefusal) (o : Option B) (p : Option D)
    → (o ≡ None → p ≡ None) → Resolves f (Err e) o → Resolves g (Err e) p
passes_on f g refusal.IllTyped o p none h = none h
passes_on f g (refusal.Unknown stream) o p none h = h
passes_on f g refusal.Memory o p none h = tt

-- ---- what may not be there

pub starts : {A B : Type 0} (f : A → Option B) (items : List A) (found : List B) → found ≡ [] → HasFound f items 0 found
starts f items found empty = subst (HasFound f items 0) (sym empty) (found_start f items)

-- the item stands at the index, which `is` says
pub goes_on : {A B : Type 0} (f : A → Option B) (items : List A) (index : ℕ) (item : A) (found longer : List B) (x : B)
    → index < length items → item ≡ get_or items index item → f item ≡ Some x → longer ≡ found ++ x ∷ [] → HasFound f items index found → HasFound f items (index + 1) longer
goes_on f items index item found longer x there is gives pushed so_far =
    subst (HasFound f items (index + 1)) (sym pushed) (found_more f items index item found x there (ap f (sym is) ∙ gives) so_far)

pub stops : {A B C D : Type 0} (f : A → Option B) (part : C → B) (whole : D → List B) (refusal : BindRefusal) (answer : Result D BindRefusal)
    (items : List A) (index : ℕ) (item : A) (found : List B)
    → answer ≡ Err refusal → index < length items → item ≡ get_or items index item → HasFound f items index found
    → Resolves part (Err refusal) (f item) → Resolves whole answer (all_there (map f items))
stops f part whole refusal answer items index item found same there is so_far refused =
    subst (λ r. Resolves whole r (all_there (map f items))) (sym same)
    (passes_on part whole refusal (f item) (all_there (map f items)) (λ none. found_none f items index item found there (ap f (sym is) ∙ none) so_far) refused)

-- ---- copies

pub copied_more : {A B : Type 0} (f : A → B) (items : List A) (index : ℕ) (item : A) (copies longer : List B) (x : B)
    → index < length items → item ≡ get_or items index item → x ≡ f item → longer ≡ copies ++ x ∷ []
    → copies ≡ map f (take index items) → longer ≡ map f (take (index + 1) items)
copied_more f items index item copies longer x there is same pushed so_far =
    pushed ∙ (λ i. so_far i ++ (same ∙ ap f is) i ∷ []) ∙ sym (map_more f items index item there)

pub copied_all : {A B : Type 0} (f : A → B) (items : List A) (index : ℕ) (copies : List B)
    → length items ≤ index → copies ≡ map f (take index items) → copies ≡ map f items
copied_all f items index copies end so_far = so_far ∙ ap (map f) (take_all index items end)
