-- The streams so far with one more, and whether their names differ.
use Rattle.std.proofs.Common.{◌≡◌, refl, sym, ap, ◌∙◌, ℕ, ◌+◌, ◌<◌, Bool, true, false, ◌||◌, cond, bytes_eq, List, [], ◌∷◌, ◌++◌, length, map, get_or, take, drop}
use Rattle.std.specs.List.{list_any}
use Rattle.std.proofs.lemmas.List.{take_more, take-append-drop, map-append}
use Rattle.std.proofs.lemmas.List.Folds.{list_any-append}
use Rattle.std.proofs.lemmas.Bool.{or_right}
use Rattle.indexmap.specs.IndexSet.{insert_key}
use Rattle.plan_binder.specs.Binding.{has_repeat, is_there}
use Rattle.catalog_core.specs.declared.stream.CatalogStream.{CatalogStream}
use Rattle.catalog_core.specs.Programs.{names_of}
use Rattle.catalog_core.specs.Streams.{name_of, states_of}
use Rattle.catalog_core.proofs.Places.{names-states}

-- what is made of each stream so far, and of the one there
pub mapped-more : {B : Type 0} (f : CatalogStream → B) (streams : List CatalogStream) (i : ℕ) (x : CatalogStream) → i < length streams → x ≡ get_or streams i x
    → map f (take (i + 1) streams) ≡ map f (take i streams) ++ f x ∷ []
mapped-more {B = B} f streams i x low is =
    ap (λ (xs : List CatalogStream). map f xs) (take_more streams i x low)
    ∙ map-append f (take i streams) (get_or streams i x ∷ [])
    ∙ ap (λ (y : CatalogStream). map f (take i streams) ++ f y ∷ []) (sym is)

-- ---- names that differ

swapped : (a b c d : Bool) → (a || (b || false)) || (c || d) ≡ (a || c) || (b || d)
swapped true b c d = refl
swapped false true true d = refl
swapped false true false d = refl
swapped false false true d = refl
swapped false false false d = refl

either : (a b c : Bool) → (a || b ≡ true) → (b ≡ true → c ≡ true) → (d : Bool) → (a || d) || c ≡ true
either true b c one later d = refl
either false b c one later true = refl
either false b c one later false = later one

-- a name more repeats one of them where two are the same, or where it is there
repeat-more : (names : List (List ℕ)) (n : List ℕ) → has_repeat (names ++ n ∷ []) ≡ has_repeat names || list_any (bytes_eq n) names
repeat-more [] n = refl
repeat-more (m ∷ ms) n =
    (λ i. list_any-append (λ other. bytes_eq other m) ms (n ∷ []) i || repeat-more ms n i)
    ∙ swapped (is_there ms m) (bytes_eq n m) (has_repeat ms) (list_any (bytes_eq n) ms)

repeat-stays : (names more : List (List ℕ)) → has_repeat names ≡ true → has_repeat (names ++ more) ≡ true
repeat-stays [] more two = absurd (cc)
repeat-stays (m ∷ ms) more two =
    ap (λ b. b || has_repeat (ms ++ more)) (list_any-append (λ other. bytes_eq other m) ms more)
    ∙ either (is_there ms m) (has_repeat ms) (has_repeat (ms ++ more)) two (repeat-stays ms more) (is_there more m)

module _ (keys : List (List ℕ)) (streams : List CatalogStream) (i : ℕ) (x : CatalogStream) (n : List ℕ)
    (named : keys ≡ map name_of (take i streams)) (is_name : n ≡ name_of x) (low : i < length streams) (is : x ≡ get_or streams i x) where
  with-name : map name_of (take (i + 1) streams) ≡ keys ++ n ∷ []
  with-name = mapped-more name_of streams i x low is ∙ (λ j. sym named j ++ sym is_name j ∷ [])

  -- the name isn't there
  pub name-put : list_any (bytes_eq n) keys ≡ false → insert_key bytes_eq keys n ≡ map name_of (take (i + 1) streams)
  name-put absent = ap (λ b. cond b keys (keys ++ n ∷ [])) absent ∙ sym with-name

  pub still-differ : list_any (bytes_eq n) keys ≡ false → has_repeat (map name_of (take i streams)) ≡ false → has_repeat (map name_of (take (i + 1) streams)) ≡ false
  still-differ absent differ = ap has_repeat with-name ∙ repeat-more keys n ∙ (λ j. (ap has_repeat named ∙ differ) j || absent j)

  -- the name is there
  pub two-alike : list_any (bytes_eq n) keys ≡ true → has_repeat (names_of (states_of streams)) ≡ true
  two-alike there =
      let here : has_repeat (map name_of (take (i + 1) streams)) ≡ true = ap has_repeat with-name ∙ repeat-more keys n ∙ or_right (has_repeat keys) (list_any (bytes_eq n) keys) there in
      ap has_repeat (sym (names-states streams)) ∙ ap has_repeat (sym (ap (λ (xs : List CatalogStream). map name_of xs) (take-append-drop (i + 1) streams)) ∙ map-append name_of (take (i + 1) streams) (drop (i + 1) streams))
      ∙ repeat-stays (map name_of (take (i + 1) streams)) (map name_of (drop (i + 1) streams)) here
