-- The items of a list of JSON.
use Rattle.std.proofs.Common.{◌≡◌, refl, ap, sym, subst, List, [], ◌∷◌, map, Result, Ok, Err}
use Rattle.serde_json.specs.Data.{Data}
use Rattle.serde_json.specs.View.{items_of}
use Rattle.catalog_page.specs.declared.key.Key.{Key}
use Rattle.catalog_page.specs.declared.refusal.ReadRefusal.{ReadRefusal}
use Rattle.catalog_page.specs.declared.refusal.Unread.{Unread}
use Rattle.catalog_page.specs.declared.refusal.Unread.TheVariants as unread
use Rattle.catalog_page.specs.Tells.{Finds, Tells, located}
use Rattle.catalog_page.specs.Told.{list_of, and_then, all_ok, at, items, each_in, missing, missing_in}

pub list_of-items_of : (ds : List Data) → list_of (items_of ds) ≡ ds
list_of-items_of [] = refl
list_of-items_of (d ∷ ds) = ap (λ (l : List Data). d ∷ l) (list_of-items_of ds)

-- each item of the list that is seen
pub seen : {X Y Z : Type 0} (f : Y → Z) (g : X → Y) (xs : List X) → map f (map g xs) ≡ map (λ x. f (g x)) xs
seen f g [] = refl
seen {Z} f g (x ∷ xs) = ap (λ (l : List Z). f (g x) ∷ l) (seen f g xs)

pub finds_seen : {A B V : Type 0} (view : A → List B) (answer : Result A Unread) (item_in : Data → Result B Key) (see : V → Data) (vs : List V)
    → Finds view answer (all_ok (map (λ v. item_in (see v)) vs)) → Finds view answer (all_ok (map item_in (map see vs)))
finds_seen {B} view answer item_in see vs found =
    subst (λ (l : List (Result B Key)). Finds view answer (all_ok l)) (sym (seen item_in see vs)) found

-- what is read of each item of a list that is there
pub each_tells : {A B : Type 0} (view : A → List B) (list : Key) (item_in : Data → Result B Key) (d : Data) (ds : List Data)
    (found : Result A Unread) (answer : Result A ReadRefusal) → missing (at list items d) ≡ Ok ds
    → Finds view found (all_ok (map item_in ds)) → answer ≡ located list found → Tells view answer (each_in list item_in d)
unfolding each_in
each_tells {A} {B} view list item_in d ds found answer there finds is =
    subst (λ (r : Result (List Data) ReadRefusal). Tells view answer (and_then r (λ l. missing_in list (all_ok (map item_in l))))) (sym there)
    (subst (λ (a : Result A ReadRefusal). Tells view a (missing_in list (all_ok (map item_in ds)))) (sym is)
    (by found (all_ok (map item_in ds)) finds))
  where
    by : (r : Result A Unread) (told : Result (List B) Key) → Finds view r told → Tells view (located list r) (missing_in list told)
    by (Ok x) told h = ap (missing_in list) h
    by (Err (unread.Missing key)) told h = ap (missing_in list) h
    by (Err unread.Memory) told h = tt
