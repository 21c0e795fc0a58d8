-- Streams of which one is changed, as the catalogue has them and as the table has them.
use Rattle.std.proofs.Common.{◌≡◌, ℕ, zero, suc, ◌<◌, ◌||◌, false, cond, bytes_eq, List, [], ◌∷◌, ◌++◌, length, map, slice_get, slice_set, slice_index_or, Some, Result, Ok, Err, OnOk, refl, sym, ap, subst, ◌∙◌, arith}
use Rattle.std.specs.List.{list_any}
use Rattle.std.specs.Cmp.Lexicographic.{nat_list_eq_equiv}
use Rattle.rows_core.specs.declared.memory.Memory.{Memory}
use Rattle.catalog_types.specs.declared.extent.Extent.{Extent}
use Rattle.catalog_types.specs.declared.snapshot.StreamState.{StreamState}
use Rattle.catalog_core.specs.declared.stream.CatalogStream.{CatalogStream}
use Rattle.plan_binder.specs.Binding.{is_there}
use Rattle.indexmap.specs.IndexSet.{insert_key}
use Rattle.catalog_core.specs.Programs.{names_of, extents_at}
use Rattle.catalog_core.proofs.Places.{names-states}
use Rattle.catalog_core.specs.Streams.{name_of, state_of, states_of, HasRoomForExtent}
use Rattle.catalog_core.specs.Table.{with_extent, updated}

pub as-many-states : (streams : List CatalogStream) → length (states_of streams) ≡ length streams
as-many-states [] = refl
as-many-states (x ∷ xs) = ap suc (as-many-states xs)

pub stream-there : (streams : List CatalogStream) (place : ℕ) (x : CatalogStream) → place < length streams → x ≡ slice_index_or streams place x
    → slice_get streams place ≡ Some x
stream-there [] place x low is = absurd (omega (arith, low))
stream-there (y ∷ ys) zero x low is = ap Some (sym is)
stream-there (y ∷ ys) (suc n) x low is = stream-there ys n x (omega (arith, low)) is

pub extents-there : (streams : List CatalogStream) (place : ℕ) (x : CatalogStream) → place < length streams → x ≡ slice_index_or streams place x
    → extents_at (states_of streams) place ≡ x.extents.items
extents-there [] place x low is = absurd (omega (arith, low))
extents-there (y ∷ ys) zero x low is = ap (λ (s : CatalogStream). s.extents.items) (sym is)
extents-there (y ∷ ys) (suc n) x low is = extents-there ys n x (omega (arith, low)) is

-- one stream has one more extent
pub states-grown : (streams : List CatalogStream) (place : ℕ) (x y : CatalogStream) (extent : Extent) → place < length streams → x ≡ slice_index_or streams place x
    → state_of y ≡ with_extent extent (state_of x) → states_of (slice_set streams place y) ≡ updated (with_extent extent) (states_of streams) place
states-grown [] place x y extent low is grows = absurd (omega (arith, low))
states-grown (z ∷ zs) zero x y extent low is grows = ap (λ (s : StreamState). s ∷ states_of zs) (grows ∙ ap (λ (s : CatalogStream). with_extent extent (state_of s)) is)
states-grown (z ∷ zs) (suc n) x y extent low is grows = ap (λ (ss : List StreamState). state_of z ∷ ss) (states-grown zs n x y extent (omega (arith, low)) is grows)

-- one stream is what it was, but for its room
pub states-kept : (streams : List CatalogStream) (place : ℕ) (x y : CatalogStream) → place < length streams → x ≡ slice_index_or streams place x
    → state_of y ≡ state_of x → states_of (slice_set streams place y) ≡ states_of streams
states-kept [] place x y low is same = absurd (omega (arith, low))
states-kept (z ∷ zs) zero x y low is same = ap (λ (s : StreamState). s ∷ states_of zs) (same ∙ ap state_of is)
states-kept (z ∷ zs) (suc n) x y low is same = ap (λ (ss : List StreamState). state_of z ∷ ss) (states-kept zs n x y (omega (arith, low)) is same)

pub names-kept : (streams : List CatalogStream) (place : ℕ) (x y : CatalogStream) → place < length streams → x ≡ slice_index_or streams place x
    → name_of y ≡ name_of x → map name_of (slice_set streams place y) ≡ map name_of streams
names-kept [] place x y low is same = absurd (omega (arith, low))
names-kept (z ∷ zs) zero x y low is same = ap (λ (n : List ℕ). n ∷ map name_of zs) (same ∙ ap name_of is)
names-kept (z ∷ zs) (suc n) x y low is same = ap (λ (ns : List (List ℕ)). name_of z ∷ ns) (names-kept zs n x y (omega (arith, low)) is same)

-- the names stay where the streams do
pub names-stay : (streams others : List CatalogStream) → states_of others ≡ states_of streams → map name_of streams ≡ map name_of others
names-stay streams others same = names-states streams ∙ sym (ap names_of same) ∙ sym (names-states others)

-- one stream more
pub states-push : (streams : List CatalogStream) (x : CatalogStream) → states_of (streams ++ x ∷ []) ≡ states_of streams ++ state_of x ∷ []
states-push [] x = refl
states-push (z ∷ zs) x = ap (λ (ss : List StreamState). state_of z ∷ ss) (states-push zs x)

pub names-push : (streams : List CatalogStream) (x : CatalogStream) → map name_of (streams ++ x ∷ []) ≡ map name_of streams ++ name_of x ∷ []
names-push [] x = refl
names-push (z ∷ zs) x = ap (λ (ns : List (List ℕ)). name_of z ∷ ns) (names-push zs x)

-- the stream that was put at a place is the one there
put-there : (streams : List CatalogStream) (place : ℕ) (y stream : CatalogStream) → place < length streams → slice_get (slice_set streams place y) place ≡ Some stream → y ≡ stream
put-there [] place y stream low e = absurd (omega (arith, low))
put-there (z ∷ zs) zero y stream low e = cc
put-there (z ∷ zs) (suc n) y stream low e = put-there zs n y stream (omega (arith, low)) e

pub room-kept : (streams : List CatalogStream) (place : ℕ) (y : CatalogStream) (given : Result (Unit {0}) Memory) → place < length streams → OnOk given (HasRoomForExtent y)
    → OnOk given ((stream : CatalogStream) → slice_get (slice_set streams place y) place ≡ Some stream → HasRoomForExtent stream)
room-kept streams place y (Ok u) low room = λ stream e. subst (λ (s : CatalogStream). HasRoomForExtent s) (put-there streams place y stream low e) room
room-kept streams place y (Err e) low room = tt

-- the names with one more, which none of them is
pub names-with-new : (keys : List (List ℕ)) (streams : List CatalogStream) (x : CatalogStream) (name : List ℕ) → keys ≡ map name_of streams → is_there (names_of (states_of streams)) name ≡ false → name_of x ≡ name
    → insert_key bytes_eq keys name ≡ map name_of (streams ++ x ∷ [])
names-with-new keys streams x name e absent same =
    let none : list_any (bytes_eq name) keys ≡ false = same-any keys name ∙ ap (λ names. is_there names name) (e ∙ names-states streams) ∙ absent in
    ap (λ b. cond b keys (keys ++ name ∷ [])) none ∙ (λ i. e i ++ sym same i ∷ []) ∙ sym (names-push streams x)
  where
    same-any : (ks : List (List ℕ)) (name : List ℕ) → list_any (bytes_eq name) ks ≡ is_there ks name
    same-any [] name = refl
    same-any (l ∷ ls) name = λ i. nat_list_eq_equiv.symm name l i || same-any ls name i
