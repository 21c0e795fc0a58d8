-- Loops that read each item of a list, as far as they have come.
use Rattle.std.proofs.Common.{◌≡◌, ◌∙◌, refl, sym, ap, subst, ℕ, ◌+◌, ◌<◌, ◌≤◌, List, [], ◌∷◌, ◌++◌, length, map, drop, get_or, Result, Ok, Err, append_assoc, append-nil}
use Rattle.std.proofs.lemmas.List.{drop_more, drop_all}
use Rattle.catalog_page.specs.declared.key.Key.{Key}
use Rattle.catalog_page.specs.declared.refusal.Unread.{Unread}
use Rattle.catalog_page.specs.declared.refusal.Unread.TheVariants as unread
use Rattle.catalog_page.specs.Tells.{Finds}
use Rattle.catalog_page.specs.Told.{and_then, all_ok}

-- what was read, and then what the items that are left give
abbrev pub with_found : {B E : Type 0} → List B → Result (List B) E → Result (List B) E
with_found found (Ok ys) = Ok (found ++ ys)
with_found found (Err e) = Err e

abbrev pub HasRead : {A B E : Type 0} → (A → Result B E) → List A → ℕ → List B → Type 0
HasRead f items index found = all_ok (map f items) ≡ with_found found (all_ok (map f (drop index items)))

with_found-cons : {B E : Type 0} (found : List B) (x : B) (others : Result (List B) E)
    → with_found found (and_then others (λ ys. Ok (x ∷ ys))) ≡ with_found (found ++ x ∷ []) others
with_found-cons found x (Err e) = refl
with_found-cons found x (Ok ys) = ap Ok (sym (append_assoc found (x ∷ []) ys))

with_found-nil : {B E : Type 0} (others : Result (List B) E) → others ≡ with_found [] others
with_found-nil (Err e) = refl
with_found-nil (Ok ys) = refl

pub read_start : {A B E : Type 0} (f : A → Result B E) (items : List A) → HasRead f items 0 []
read_start f items = with_found-nil (all_ok (map f items))

pub read_more : {A B E : Type 0} (f : A → Result B E) (items : List A) (index : ℕ) (d : A) (found : List B) (x : B)
    → index < length items → f (get_or items index d) ≡ Ok x → HasRead f items index found → HasRead f items (index + 1) (found ++ x ∷ [])
read_more f items index d found x there gives so_far =
    so_far ∙ rw (drop_more items index d there, gives) (with_found-cons found x (all_ok (map f (drop (index + 1) items))))

pub read_stop : {A B E : Type 0} (f : A → Result B E) (items : List A) (index : ℕ) (d : A) (found : List B) (e : E)
    → index < length items → f (get_or items index d) ≡ Err e → HasRead f items index found → all_ok (map f items) ≡ Err e
read_stop f items index d found e there gives so_far = so_far ∙ rw (drop_more items index d there, gives) refl

pub read_end : {A B E : Type 0} (f : A → Result B E) (items : List A) (index : ℕ) (found : List B)
    → length items ≤ index → HasRead f items index found → all_ok (map f items) ≡ Ok found
read_end f items index found end so_far = so_far ∙ rw (drop_all index items end) (ap Ok (append-nil found))

-- the item stands at the index, which `is` says
pub goes_on : {A B E : Type 0} (f : A → Result B E) (items : List A) (index : ℕ) (item : A) (found longer : List B) (x : B)
    → index < length items → item ≡ get_or items index item → f item ≡ Ok x → longer ≡ found ++ x ∷ []
    → HasRead f items index found → HasRead f items (index + 1) longer
goes_on f items index item found longer x there is gives pushed so_far =
    subst (HasRead f items (index + 1)) (sym pushed) (read_more f items index item found x there (ap f (sym is) ∙ gives) so_far)

pub stops : {A B C D : Type 0} (f : A → Result B Key) (part : C → B) (whole : D → List B) (e : Unread) (answer : Result D Unread)
    (items : List A) (index : ℕ) (item : A) (found : List B)
    → answer ≡ Err e → index < length items → item ≡ get_or items index item → HasRead f items index found
    → Finds part (Err e) (f item) → Finds whole answer (all_ok (map f items))
stops f part whole e answer items index item found same there is so_far refused =
    subst (λ r. Finds whole r (all_ok (map f items))) (sym same) (by e refused)
  where
    by : (e : Unread) → Finds part (Err e) (f item) → Finds whole (Err e) (all_ok (map f items))
    by (unread.Missing key) gives = read_stop f items index item found key there (ap f (sym is) ∙ gives) so_far
    by unread.Memory _ = tt

-- for a function that reads so
pub ruleset reading = (read_start, read_more, read_end)
