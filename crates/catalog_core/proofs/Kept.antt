-- Changes that fit keep what is true of every table.
use Rattle.std.proofs.Common.{◌≡◌, ℕ, zero, suc, ◌+◌, ◌<◌, ◌≤◌, Bool, true, false, cond, not, nat_lt, ◌||◌, List, [], ◌∷◌, ◌++◌, length, bytes_eq, Option, None, Some, refl, ap, ◌∙◌, arith, length-append}
use Rattle.std.specs.List.{AllByRecursion, list_any, position_or_len}
use Rattle.std.specs.Cmp.Lexicographic.{nat_list_eq_equiv}
use Rattle.std.proofs.lemmas.Bool.Decides.{nat_tests}
use Rattle.std.proofs.lemmas.List.Sums.{sum_by-cons, sum_by-append}
use Rattle.std.proofs.lemmas.Bool.{not-true, or_from}
use Rattle.rows_core.specs.declared.schema.Column.{Column}
use Rattle.catalog_types.specs.declared.change.Change.{Change}
use Rattle.catalog_types.specs.declared.change.Change.TheVariants as change
use Rattle.catalog_types.specs.declared.extent.Extent.{Extent}
use Rattle.catalog_types.specs.declared.program.Program.{Program}
use Rattle.catalog_types.specs.PlainEntry.{PlainNewEntry}
use Rattle.catalog_types.specs.declared.snapshot.StreamState.{StreamState}
use Rattle.plan_binder.specs.Binding.{has_repeat, is_there}
use Rattle.catalog_core.specs.Programs.{names_of, extents_at, AreByName, IsStored}
use Rattle.catalog_core.specs.IsTable.{IsExtent, IsStream, IsTable}
use Rattle.catalog_core.proofs.ByName.{by-name-kept}
use Rattle.catalog_core.proofs.OwnNumbers.{files-stream, files-append}
use Rattle.catalog_core.proofs.StillKeyed.{keyed-stream, keyed-append}
use Rattle.catalog_core.proofs.StoredPrograms.{stored-stream, stored-append, stored-more}
use Rattle.catalog_core.proofs.OverStreams.{over-stream, over-append, past-tick, work-keeps-table, collection-keeps-table}
use Rattle.catalog_core.specs.Table.{Table, place_of, extent_count, new_stream, with_extent, updated, Fits, FitsStream, FitsAppend, IsNextExtent, FitsProgram, FitsWork, FitsCollection, after, with_programs, with_stored, with_tick}
use Rattle.rows_core.specs.Limits.{most_ticks, most_extents, most_rows, most_programs}

-- ---- names that differ

left-false : (x y : Bool) → x || y ≡ false → x ≡ false
left-false true y e = e
left-false false y e = refl

right-false : (x y : Bool) → x || y ≡ false → y ≡ false
right-false true y e = absurd (cc)
right-false false y e = e

any-push : (p : List ℕ → Bool) (names : List (List ℕ)) (n : List ℕ) → list_any p names ≡ false → p n ≡ false → list_any p (names ++ n ∷ []) ≡ false
any-push p [] n none fails = or_from (p n) false fails refl
any-push p (m ∷ ms) n none fails = or_from (p m) _ (left-false (p m) _ none) (any-push p ms n (right-false (p m) _ none) fails)

no-repeat-push : (names : List (List ℕ)) (n : List ℕ) → has_repeat names ≡ false → is_there names n ≡ false → has_repeat (names ++ n ∷ []) ≡ false
no-repeat-push [] n differ absent = refl
no-repeat-push (m ∷ ms) n differ absent =
    or_from (is_there (ms ++ n ∷ []) m) _
    (any-push (λ other. bytes_eq other m) ms n (left-false (is_there ms m) _ differ) (nat_list_eq_equiv.symm n m ∙ left-false (bytes_eq m n) _ absent))
    (no-repeat-push ms n (right-false (is_there ms m) _ differ) (right-false (bytes_eq m n) _ absent))

none-there : (streams : List StreamState) (name : List ℕ) → length streams ≤ position_or_len (λ stream. bytes_eq stream.name name) streams → is_there (names_of streams) name ≡ false
none-there [] name past = refl
none-there (first ∷ streams) name past = by (bytes_eq first.name name) refl (none-there streams name) past
  where
    by : (b : Bool) → bytes_eq first.name name ≡ b → (length streams ≤ position_or_len (λ stream. bytes_eq stream.name name) streams → is_there (names_of streams) name ≡ false)
        → length (first ∷ streams) ≤ cond (not b) (1 + position_or_len (λ stream. bytes_eq stream.name name) streams) 0 → b || is_there (names_of streams) name ≡ false
    by true e rest past = absurd (omega (arith, past))
    by false e rest past = rest (omega (arith, past))

pub absent-name : (streams : List StreamState) (name : List ℕ) → place_of streams name ≡ None → is_there (names_of streams) name ≡ false
absent-name streams name none =
    let p : StreamState → Bool = λ stream. bytes_eq stream.name name in
    none-there streams name (by (nat_lt (position_or_len p streams) (length streams)) refl none)
  where
    by : (b : Bool) → nat_lt (position_or_len (λ stream. bytes_eq stream.name name) streams) (length streams) ≡ b → cond b (Some (position_or_len (λ stream. bytes_eq stream.name name) streams)) None ≡ None → length streams ≤ position_or_len (λ stream. bytes_eq stream.name name) streams
    by true test e = absurd (cc)
    by false test e = grind (arith, nat_tests)

names-added : (streams : List StreamState) (stream : StreamState) → names_of (streams ++ stream ∷ []) ≡ names_of streams ++ stream.name ∷ []
names-added [] stream = refl
names-added (x ∷ xs) stream = ap (λ (names : List (List ℕ)). x.name ∷ names) (names-added xs stream)

-- ---- a stream more

pub all-push : {A : Type 0} (P : A → Type 0) (xs : List A) (y : A) → AllByRecursion P xs → P y → AllByRecursion P (xs ++ y ∷ [])
all-push P [] y all last = (last, tt)
all-push P (x ∷ xs) y all last = (all.0, all-push P xs y all.1 last)

pub stream-keeps : (name : List ℕ) (columns : List Column) (t : Table) → FitsStream name columns t → IsTable t
    → IsTable (record t { streams = t.streams ++ new_stream name columns ∷ [] })
stream-keeps name columns t fits is = record {
  counted = is.counted;
  first_file = is.first_file;
  last_file = is.last_file;
  names = ap (λ names. not (has_repeat names)) (names-added t.streams (new_stream name columns))
      ∙ ap not (no-repeat-push (names_of t.streams) name (not-true _ is.names) (absent-name t.streams name fits.absent));
  are_streams = all-push IsStream t.streams (new_stream name columns) is.are_streams (record { schema = fits.schema; extents = omega arith; are_extents = tt; rows = omega arith });
  few_streams = let n = length-append t.streams (new_stream name columns ∷ []) in omega (arith, n, fits.room);
  few_extents = let n = sum_by-append (λ (s : StreamState). length s.extents) t.streams (new_stream name columns ∷ []) in omega (arith, n, is.few_extents);
  few_programs = is.few_programs;
  by_name = is.by_name;
  stored = stored-stream t.streams (new_stream name columns) t.programs is.stored;
  kept = is.kept;
  over = over-stream t.streams (new_stream name columns) t.entries is.over;
  keyed = keyed-stream t.streams (new_stream name columns) t.entries is.over is.keyed;
  past = is.past;
  ids = is.ids;
  own_files = files-stream t.next_file t.streams t.entries (new_stream name columns) refl is.own_files;
}

-- ---- an extent more

names-updated : (streams : List StreamState) (place : ℕ) (extent : Extent) → names_of (updated (with_extent extent) streams place) ≡ names_of streams
names-updated [] place extent = refl
names-updated (x ∷ xs) zero extent = refl
names-updated (x ∷ xs) (suc n) extent = ap (λ (names : List (List ℕ)). x.name ∷ names) (names-updated xs n extent)

as-many-updated : (streams : List StreamState) (place : ℕ) (extent : Extent) → length (updated (with_extent extent) streams place) ≡ length streams
as-many-updated [] place extent = refl
as-many-updated (x ∷ xs) zero extent = refl
as-many-updated (x ∷ xs) (suc n) extent = ap suc (as-many-updated xs n extent)

pub extents-counted : (streams : List StreamState) (place : ℕ) (extent : Extent) → place < length streams
    → extent_count (updated (with_extent extent) streams place) ≡ extent_count streams + 1
extents-counted [] place extent low = absurd (omega (arith, low))
extents-counted (x ∷ xs) zero extent low =
    let long = length-append x.extents (extent ∷ []) in
    let new = sum_by-cons (λ (s : StreamState). length s.extents) (with_extent extent x) xs in
    let old = sum_by-cons (λ (s : StreamState). length s.extents) x xs in
    omega (arith, long, new, old)
extents-counted (x ∷ xs) (suc n) extent low =
    let rest = extents-counted xs n extent (omega (arith, low)) in
    let new = sum_by-cons (λ (s : StreamState). length s.extents) x (updated (with_extent extent) xs n) in
    let old = sum_by-cons (λ (s : StreamState). length s.extents) x xs in
    omega (arith, rest, new, old)

pub is-extent : (extent : Extent) (t : Table) → IsNextExtent extent t → IsExtent extent
is-extent extent t is = record { has_row = is.has_row; short = is.short }

grown-stream : (stream : StreamState) (extent : Extent) → IsStream stream → length stream.extents < most_extents → IsExtent extent → extent.rows ≤ most_rows → IsStream (with_extent extent stream)
grown-stream stream extent is few is_extent rows =
    let long = length-append stream.extents (extent ∷ []) in
    let sum = sum_by-append (λ (e : Extent). e.rows) stream.extents (extent ∷ []) in
    record {
      schema = is.schema;
      extents = omega (arith, long, few);
      are_extents = all-push IsExtent stream.extents extent is.are_extents is_extent;
      rows = omega (arith, long, sum, is.rows, rows);
    }

streams-updated : (streams : List StreamState) (place : ℕ) (extent : Extent) → AllByRecursion IsStream streams → length (extents_at streams place) < most_extents → IsExtent extent → extent.rows ≤ most_rows
    → AllByRecursion IsStream (updated (with_extent extent) streams place)
streams-updated [] place extent all few is rows = tt
streams-updated (x ∷ xs) zero extent all few is rows = (grown-stream x extent all.0 few is rows, all.1)
streams-updated (x ∷ xs) (suc n) extent all few is rows = (all.0, streams-updated xs n extent all.1 few is rows)

pub append-keeps : (place : ℕ) (extent : Extent) (t : Table) → FitsAppend place extent t → IsTable t
    → IsTable (record t { next_file = t.next_file + 1; streams = updated (with_extent extent) t.streams place })
append-keeps place extent t fits is = record {
  counted = is.counted;
  first_file = omega arith;
  last_file = omega (arith, fits.is_next.numbered);
  names = ap (λ names. not (has_repeat names)) (names-updated t.streams place extent) ∙ is.names;
  are_streams = streams-updated t.streams place extent is.are_streams fits.has_place.1 (is-extent extent t fits.is_next) fits.is_next.rows;
  few_streams = let n = as-many-updated t.streams place extent in omega (arith, n, is.few_streams);
  few_extents = let n = extents-counted t.streams place extent fits.has_place.0 in omega (arith, n, fits.room_in_all);
  few_programs = is.few_programs;
  by_name = is.by_name;
  stored = stored-append t.streams place extent t.programs is.stored;
  kept = is.kept;
  over = over-append t.streams place extent t.entries is.over;
  keyed = keyed-append t.streams place extent t.entries is.over is.keyed;
  past = is.past;
  ids = omega (arith, is.ids);
  own_files = files-append t.next_file t.streams t.entries place extent is.first_file fits.has_place.0 fits.is_next.next is.own_files;
}

-- ---- a program stored, and a tick

stored-are : (program : Option Program) (t : Table) → FitsProgram program t → IsTable t → AllByRecursion (IsStored t.streams) (with_stored program t.programs)
stored-are None t fits is = is.stored
stored-are (Some program) t fits is = stored-more t.streams program t.programs fits.0 is.stored

stored-few : (program : Option Program) (t : Table) → FitsProgram program t → IsTable t → (length (with_stored program t.programs) ≤ most_programs) × AreByName (with_stored program t.programs)
stored-few None t fits is = (is.few_programs, is.by_name)
stored-few (Some program) t fits is = (fits.1, by-name-kept program t.programs is.by_name)

pub program-keeps : (program : Option Program) (t : Table) → FitsProgram program t → IsTable t → IsTable (with_programs (with_stored program t.programs) t)
program-keeps program t fits is = record {
  counted = is.counted;
  first_file = is.first_file;
  last_file = is.last_file;
  names = is.names;
  are_streams = is.are_streams;
  few_streams = is.few_streams;
  few_extents = is.few_extents;
  few_programs = (stored-few program t fits is).0;
  by_name = (stored-few program t fits is).1;
  stored = stored-are program t fits is;
  kept = is.kept;
  over = is.over;
  keyed = is.keyed;
  past = is.past;
  ids = is.ids;
  own_files = is.own_files;
}

pub tick-keeps : (t : Table) → t.tick < most_ticks → IsTable t → IsTable (with_tick t)
tick-keeps t low is = record {
  counted = omega (arith, low);
  first_file = is.first_file;
  last_file = is.last_file;
  names = is.names;
  are_streams = is.are_streams;
  few_streams = is.few_streams;
  few_extents = is.few_extents;
  few_programs = is.few_programs;
  by_name = is.by_name;
  stored = is.stored;
  kept = is.kept;
  over = is.over;
  keyed = is.keyed;
  past = past-tick t.tick t.entries is.past;
  ids = is.ids;
  own_files = is.own_files;
}

-- a stream without an extent adds none
pub no-extent-more : (streams : List StreamState) (name : List ℕ) (columns : List Column) → extent_count (streams ++ new_stream name columns ∷ []) ≡ extent_count streams
no-extent-more streams name columns = let n = sum_by-append (λ (s : StreamState). length s.extents) streams (new_stream name columns ∷ []) in omega (arith, n)

-- ---- kept results

-- what fits before the tick and the program fits behind them
pub work-keeps : (program : Option Program) (reads dropped : List ℕ) (kept : List PlainNewEntry) (t : Table) → FitsWork program reads dropped kept t → IsTable t
    → IsTable (after (change.Work program reads dropped kept) t)
work-keeps program reads dropped kept t fits is =
    let ticked = tick-keeps t fits.counted is in
    let stored = program-keeps program (with_tick t) (program-later program t fits.stored) ticked in
    work-keeps-table reads dropped kept (with_programs (with_stored program t.programs) (with_tick t)) (record { over = fits.results.over; results = fits.results.results }) stored
  where
    program-later : (program : Option Program) (t : Table) → FitsProgram program t → FitsProgram program (with_tick t)
    program-later None t fits = tt
    program-later (Some program) t fits = fits

pub collection-keeps : (ids : List ℕ) (t : Table) → FitsCollection ids t → IsTable t → IsTable (after (change.Collect ids) t)
collection-keeps ids t fits is = collection-keeps-table ids (with_tick t) (tick-keeps t fits.counted is)

-- ---- each change

pub change-keeps : (given : Change) (t : Table) → Fits given t → IsTable t → IsTable (after given t)
change-keeps (change.Stream name columns) t fits is = tick-keeps (record t { streams = t.streams ++ new_stream name columns ∷ [] }) fits.counted (stream-keeps name columns t fits is)
change-keeps (change.Append place extent) t fits is =
    tick-keeps (record t { next_file = t.next_file + 1; streams = updated (with_extent extent) t.streams place }) fits.counted (append-keeps place extent t fits is)
change-keeps (change.Work program reads dropped kept) t fits is = work-keeps program reads dropped kept t fits is
change-keeps (change.Collect ids) t fits is = collection-keeps ids t fits is
change-keeps (change.Checkpoint whole) t fits is = fits.table
