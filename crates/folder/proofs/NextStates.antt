-- The states that follow from one by a new stream or new rows: their tables, their files, and that they are valid.
use Rattle.std.proofs.Common.{◌≡◌, ◌⊎◌, inl, inr, ℕ, zero, suc, ◌+◌, ◌<◌, List, [], ◌∷◌, ◌++◌, map, slice_get, append-nil, Option, Some, refl, sym, ap, ◌∙◌, subst, arith}
use Rattle.std.proofs.lemmas.List.{map-append}
use Rattle.std.specs.List.{Contains}
use Rattle.std.proofs.lemmas.List.Elements.{Contains-push_cases}
use Rattle.rows_core.specs.declared.file_ref.FileRef.{FileRef}
use Rattle.rows_core.specs.declared.schema.Column.{Column}
use Rattle.rows_core.specs.declared.value.Value.{Value}
use Rattle.rows_core.specs.Schema.{kinds_of}
use Rattle.row_blob.specs.Kept.{IsKept}
use Rattle.row_blob.specs.declared.kept.Kept.TheVariants as kept
use Rattle.row_blob.specs.declared.shape.Shape.TheVariants as shape
use Rattle.catalog_types.specs.PlainEntry.{PlainEntry, PlainNewEntry}
use Rattle.catalog_types.specs.declared.change.Change.TheVariants as change
use Rattle.catalog_types.specs.declared.extent.Extent as of_table
use Rattle.catalog_types.specs.declared.program.Program.{Program}
use Rattle.catalog_types.specs.declared.snapshot.StreamState.{StreamState}
use Rattle.plan_core.specs.PlanTyping.{Kinds}
use Rattle.plan_canon.proofs.Later.{step_still}
use Rattle.plan_canon.specs.PlanRules.{plan_step}
use Rattle.plan_laws.specs.PlanShape.{plan_shape}
use Rattle.rewrite_core.proofs.Looking.{Contains-first, Contains-behind, Contains-cons_cases}
use Rattle.growth_laws.specs.Lists.{extents_of}
use Rattle.cache_index.proofs.Searching.{all-map}
use Rattle.catalog_core.specs.Programs.{kinds_of_streams}
use Rattle.catalog_core.specs.Results.{IsOver}
use Rattle.catalog_core.specs.Table.{updated, with_extent, after}
use Rattle.catalog_core.proofs.OverStreams.{over-stream, over-append, kinds-grown}
use Rattle.catalog_core.proofs.Nested.{some-at}
use Rattle.folder.specs.State.{Extent, Stream, State, HasExtent, Names, IsEntryOf, IsValid, extent_of, stream_of, states_of, kinds_in, rows_in, extents_in, table, ref_of, file_bytes, empty_state}
use Rattle.folder.specs.Next.{with_stream, with_rows, with_work, with_collection, new_extent, grown, AreRowsOf}
use Rattle.folder.proofs.GrownStreams.{Grow, entry-stays, form-before, entry-in, kinds-of-typed, shape-still}

-- ---- lists with one item changed

pub map-updated : {A B : Type 0} (h : A → B) (f : A → A) (g : B → B) → ((x : A) → h (f x) ≡ g (h x)) → (xs : List A) (n : ℕ) → map h (updated f xs n) ≡ updated g (map h xs) n
map-updated h f g same [] n = refl
map-updated h f g same (x ∷ xs) zero = ap (λ y. y ∷ map h xs) (same x)
map-updated h f g same (x ∷ xs) (suc n) = ap (λ ys. h x ∷ ys) (map-updated h f g same xs n)

-- an item of the changed list is one of the list, or what the one at the place becomes
Contains-updated : {A : Type 0} (f : A → A) (xs : List A) (n : ℕ) (y : A) → Contains (updated f xs n) y
    → Contains xs y ⊎ ((x : A) × Contains xs x × (slice_get xs n ≡ Some x) × (f x ≡ y))
Contains-updated f [] n y has = inl has
Contains-updated f (x ∷ xs) zero y has = elim (Contains-cons_cases (f x) xs y has) [
  | inl is ↦ inr (x, Contains-first x xs, refl, is)
  | inr more ↦ inl (Contains-behind x xs y more)
]
Contains-updated f (x ∷ xs) (suc n) y has = elim (Contains-cons_cases x (updated f xs n) y has) [
  | inl is ↦ inl (subst (λ z. Contains (x ∷ xs) z) is (Contains-first x xs))
  | inr more ↦ elim (Contains-updated f xs n y more) [
    | inl old ↦ inl (Contains-behind x xs y old)
    | inr new ↦ inr (new.0, Contains-behind x xs new.0 new.1, new.2, new.3)
  ]
]

-- ---- tables

pub table-with_stream : (s : State) (name : List ℕ) (columns : List Column) → table (with_stream s name columns) ≡ after (change.Stream name columns) (table s)
table-with_stream s name columns =
    ap (λ (streams : List StreamState). record { tick = s.tick + 1; next_file = s.next_file; next_id = s.next_id; streams = streams; programs = s.programs; entries = s.entries })
    (map-append stream_of s.streams (record { name = name; columns = columns; extents = [] } ∷ []))

stream_of-grown : (e : Extent) (x : Stream) → stream_of (grown e x) ≡ with_extent (extent_of e) (stream_of x)
stream_of-grown e x = ap (λ (extents : List of_table.Extent). record { name = x.name; columns = x.columns; extents = extents }) (map-append extent_of x.extents (e ∷ []))

pub table-with_rows : (s : State) (place : ℕ) (rows : List (List Value))
    → table (with_rows s place rows) ≡ after (change.Append place (extent_of (new_extent s.next_file rows))) (table s)
table-with_rows s place rows =
    let new : Extent = new_extent s.next_file rows in
    ap (λ (streams : List StreamState). record { tick = s.tick + 1; next_file = s.next_file + 1; next_id = s.next_id; streams = streams; programs = s.programs; entries = s.entries })
    (map-updated stream_of (grown new) (with_extent (extent_of new)) (stream_of-grown new) s.streams place)

pub table-with_work : (s : State) (program : Option Program) (reads dropped : List ℕ) (kept : List PlainNewEntry)
    → table (with_work s program reads dropped kept) ≡ after (change.Work program reads dropped kept) (table s)
table-with_work s program reads dropped kept = refl

pub table-with_collection : (s : State) (ids : List ℕ) → table (with_collection s ids) ≡ after (change.Collect ids) (table s)
table-with_collection s ids = refl

-- ---- extents

no_extent_in_new : (name : List ℕ) (columns : List Column) (x : Stream) (e : Extent) → record { name = name; columns = columns; extents = [] } ≡ x → Contains x.extents e → ⊥
no_extent_in_new name columns x e is has =
    let none : Contains [] e = subst (λ (y : Stream). Contains y.extents e) (sym is) has in
    absurd (omega (arith, none.1))

-- a new stream has none
pub has-with_stream : (s : State) (name : List ℕ) (columns : List Column) (x : Stream) (e : Extent) → HasExtent (with_stream s name columns) x e → HasExtent s x e
has-with_stream s name columns x e has =
    elim (Contains-push_cases s.streams (record { name = name; columns = columns; extents = [] }) x has.0) [
      | inl old ↦ (old, has.1)
      | inr new ↦ absurd (no_extent_in_new name columns x e new has.1)
    ]

-- an extent is one of a stream of the same columns before, or the new one behind those of such a stream
pub record HadOrNew (s : State) (place : ℕ) (rows : List (List Value)) (x : Stream) (e : Extent) : Type 0 where
  pub stream : Stream
  pub was : Contains s.streams stream
  pub columns : stream.columns ≡ x.columns
  pub case : HasExtent s stream e ⊎ ((slice_get s.streams place ≡ Some stream) × (new_extent s.next_file rows ≡ e))

pub has-with_rows : (s : State) (place : ℕ) (rows : List (List Value)) (x : Stream) (e : Extent) → HasExtent (with_rows s place rows) x e → HadOrNew s place rows x e
has-with_rows s place rows x e has =
    let new : Extent = new_extent s.next_file rows in
    elim (Contains-updated (grown new) s.streams place x has.0) [
      | inl old ↦ record { stream = x; was = old; columns = refl; case = inl (old, has.1) }
      | inr from ↦ record {
        stream = from.0;
        was = from.1;
        columns = ap (λ (y : Stream). y.columns) from.3;
        case = elim (Contains-push_cases from.0.extents new e (subst (λ (y : Stream). Contains y.extents e) (sym from.3) has.1)) [
          | inl was ↦ inl (from.1, was)
          | inr is ↦ inr (from.2, is)
        ];
      }
    ]

-- ---- the streams grow

pub grow-stream : (xs : List Stream) (name : List ℕ) (columns : List Column) → Grow xs (xs ++ record { name = name; columns = columns; extents = [] } ∷ [])
grow-stream [] name columns zero = ([], refl)
grow-stream [] name columns (suc leaf) = ([], refl)
grow-stream (x ∷ xs) name columns zero = ([], sym (append-nil (rows_in x)))
grow-stream (x ∷ xs) name columns (suc leaf) = grow-stream xs name columns leaf

pub grow-rows : (e : Extent) (xs : List Stream) (place : ℕ) → Grow xs (updated (grown e) xs place)
grow-rows e [] place leaf = ([], refl)
grow-rows e (x ∷ xs) zero zero = (e.rows ∷ [], map-append (λ (e : Extent). e.rows) x.extents (e ∷ []))
grow-rows e (x ∷ xs) zero (suc leaf) = ([], sym (append-nil (extents_of (extents_in xs) leaf)))
grow-rows e (x ∷ xs) (suc n) zero = ([], sym (append-nil (rows_in x)))
grow-rows e (x ∷ xs) (suc n) (suc leaf) = grow-rows e xs n leaf

states-stream : (xs : List Stream) (name : List ℕ) (columns : List Column)
    → states_of (xs ++ record { name = name; columns = columns; extents = [] } ∷ []) ≡ states_of xs ++ record { name = name; columns = columns; extents = [] } ∷ []
states-stream xs name columns = map-append stream_of xs (record { name = name; columns = columns; extents = [] } ∷ [])

kinds-stream : (xs : List Stream) (name : List ℕ) (columns : List Column)
    → kinds_in (xs ++ record { name = name; columns = columns; extents = [] } ∷ []) ≡ kinds_in xs ++ kinds_of columns ∷ []
kinds-stream xs name columns =
    ap kinds_of_streams (states-stream xs name columns)
    ∙ map-append (λ (x : StreamState). kinds_of x.columns) (states_of xs) (record { name = name; columns = columns; extents = [] } ∷ [])

states-rows : (e : Extent) (xs : List Stream) (place : ℕ) → states_of (updated (grown e) xs place) ≡ updated (with_extent (extent_of e)) (states_of xs) place
states-rows e xs place = map-updated stream_of (grown e) (with_extent (extent_of e)) (stream_of-grown e) xs place

kinds-rows : (e : Extent) (xs : List Stream) (place : ℕ) → kinds_in (updated (grown e) xs place) ≡ kinds_in xs
kinds-rows e xs place = ap kinds_of_streams (states-rows e xs place) ∙ kinds-grown (states_of xs) place (extent_of e)

-- ---- the kept results stay

entry-stream : (xs : List Stream) (name : List ℕ) (columns : List Column) (e : PlainEntry) → IsEntryOf xs e → IsEntryOf (xs ++ record { name = name; columns = columns; extents = [] } ∷ []) e
entry-stream xs name columns e is =
    let ys : List Stream = xs ++ record { name = name; columns = columns; extents = [] } ∷ [] in
    let more : List Kinds = kinds_of columns ∷ [] in
    let k = kinds-of-typed (kinds_in xs) e.plan is.1.over.typed in
    let kinds : kinds_in ys ≡ kinds_in xs ++ more = kinds-stream xs name columns in
    let over : IsOver (states_of xs ++ record { name = name; columns = columns; extents = [] } ∷ []) e.plan e.cuts =
    (over-stream (states_of xs) (record { name = name; columns = columns; extents = [] }) (e ∷ []) (is.1.over, tt)).0 in
    entry-stays xs ys (grow-stream xs name columns) e
    (ap (λ (ks : List Kinds). plan_step ks e.plan) kinds ∙ step_still (kinds_in xs) more e.plan k.0 k.1)
    (ap (λ (ks : List Kinds). plan_shape ks e.plan) kinds ∙ shape-still (kinds_in xs) more e.plan k.0 k.1)
    (subst (λ (l : List StreamState). IsOver l e.plan e.cuts) (sym (states-stream xs name columns)) over) is

entry-rows : (new : Extent) (xs : List Stream) (place : ℕ) (e : PlainEntry) → IsEntryOf xs e → IsEntryOf (updated (grown new) xs place) e
entry-rows new xs place e is =
    let ys : List Stream = updated (grown new) xs place in
    let kinds : kinds_in ys ≡ kinds_in xs = kinds-rows new xs place in
    let over : IsOver (updated (with_extent (extent_of new)) (states_of xs) place) e.plan e.cuts = (over-append (states_of xs) place (extent_of new) (e ∷ []) (is.1.over, tt)).0 in
    entry-stays xs ys (grow-rows new xs place) e (ap (λ (ks : List Kinds). plan_step ks e.plan) kinds) (ap (λ (ks : List Kinds). plan_shape ks e.plan) kinds)
    (subst (λ (l : List StreamState). IsOver l e.plan e.cuts) (sym (states-rows new xs place)) over) is

-- ---- the files that they name

pub names-with_stream : (s : State) (name : List ℕ) (columns : List Column) → IsValid s → (at : FileRef) (bytes : List ℕ) → Names (with_stream s name columns) at bytes → Names s at bytes
names-with_stream s name columns valid at bytes (inl names) = inl (record {
  stream = names.stream;
  extent = names.extent;
  has = has-with_stream s name columns names.stream names.extent names.has;
  at_is = names.at_is;
  bytes_are = names.bytes_are;
})
names-with_stream s name columns valid at bytes (inr names) = inr (record {
  entry = names.entry;
  has = names.has;
  form = names.form;
  form_is = form-before s.streams (with_stream s name columns).streams (grow-stream s.streams name columns) names.entry names.form (entry-in s names.entry valid names.has).1.over names.form_is;
  at_is = names.at_is;
  bytes_are = names.bytes_are;
})

-- appending names one file more: the next one, for the rows
pub names-with_rows : (s : State) (place : ℕ) (rows : List (List Value)) → IsValid s → (at : FileRef) (bytes : List ℕ) → Names (with_rows s place rows) at bytes
    → Names s at bytes ⊎ ((at ≡ ref_of s.next_file (file_bytes rows)) × (bytes ≡ file_bytes rows))
names-with_rows s place rows valid at bytes (inl names) =
    let from = has-with_rows s place rows names.stream names.extent names.has in
    elim from.case [
      | inl had ↦ inl (inl (record { stream = from.stream; extent = names.extent; has = had; at_is = names.at_is; bytes_are = names.bytes_are }))
      | inr new ↦ inr (names.at_is ∙ ap (λ (e : Extent). e.file) (sym new.1), names.bytes_are ∙ ap (λ (e : Extent). file_bytes e.rows) (sym new.1))
    ]
names-with_rows s place rows valid at bytes (inr names) = inl (inr (record {
  entry = names.entry;
  has = names.has;
  form = names.form;
  form_is = form-before s.streams (with_rows s place rows).streams (grow-rows (new_extent s.next_file rows) s.streams place) names.entry names.form
      (entry-in s names.entry valid names.has).1.over names.form_is;
  at_is = names.at_is;
  bytes_are = names.bytes_are;
}))

-- ---- they are valid

empty_names : (at : FileRef) (bytes : List ℕ) → Names empty_state at bytes → ⊥
empty_names at bytes (inl names) = omega (arith, names.has.0.1)
empty_names at bytes (inr names) = omega (arith, names.has.1)

pub valid-empty : IsValid empty_state
valid-empty = record {
  refs = λ at bytes names. absurd (empty_names at bytes names);
  given = λ at bytes names. absurd (empty_names at bytes names);
  rows = λ x e has. absurd (omega (arith, has.0.1));
  results = tt;
  first = omega arith;
  last = omega arith;
}

pub valid-with_stream : (s : State) (name : List ℕ) (columns : List Column) → IsValid s → IsValid (with_stream s name columns)
valid-with_stream s name columns valid = record {
  refs = λ at bytes names. valid.refs at bytes (names-with_stream s name columns valid at bytes names);
  given = λ at bytes names. valid.given at bytes (names-with_stream s name columns valid at bytes names);
  rows = λ x e has. valid.rows x e (has-with_stream s name columns x e has);
  results = all-map (IsEntryOf s.streams) (IsEntryOf (with_stream s name columns).streams) (entry-stream s.streams name columns) s.entries valid.results;
  first = valid.first;
  last = valid.last;
}

pub valid-with_rows : (s : State) (place : ℕ) (rows : List (List Value)) → s.next_file < 4294967296 → AreRowsOf s place rows → IsValid s → IsValid (with_rows s place rows)
valid-with_rows s place rows room typed valid = record {
  refs = λ at bytes names. elim (names-with_rows s place rows valid at bytes names) [
    | inl old ↦ valid.refs at bytes old
    | inr new ↦ subst (λ (r : FileRef). r ≡ ref_of r.file bytes) (sym new.0) (ap (ref_of s.next_file) (sym new.1))
  ];
  given = λ at bytes names. elim (names-with_rows s place rows valid at bytes names) [
    | inl old ↦
        let before = valid.given at bytes old in
        let high : at.file < s.next_file = before.1 in
        (before.0, omega (arith, high))
    | inr new ↦
        let first : 0 < s.next_file = valid.first in
        let number : at.file ≡ s.next_file = ap (λ (r : FileRef). r.file) new.0 in
        (omega (arith, first, number), omega (arith, number))
  ];
  rows = λ x e has.
      let from = has-with_rows s place rows x e has in
      let P : List Column → List (List Value) → Type 0 = λ columns rows. IsKept (shape.Rows (kinds_of columns)) (kept.Rows rows) in
      subst (λ columns. P columns e.rows) from.columns
      (elim from.case [
        | inl had ↦ valid.rows from.stream e had
        | inr new ↦ subst (λ (y : Extent). P from.stream.columns y.rows) new.1 (some-at (λ (y : Stream). P y.columns rows) (slice_get s.streams place) from.stream new.0 typed)
      ]);
  results = all-map (IsEntryOf s.streams) (IsEntryOf (with_rows s place rows).streams) (entry-rows (new_extent s.next_file rows) s.streams place) s.entries valid.results;
  first = omega (arith, valid.first);
  last = omega (arith, room);
}
