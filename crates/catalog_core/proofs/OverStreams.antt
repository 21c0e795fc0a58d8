-- Kept results stay over the streams as these grow, and work and collections make others that are over them.
use Rattle.std.proofs.Common.{◌≡◌, ◌↔◌, refl, sym, ap, subst, ◌∙◌, ℕ, zero, suc, ◌+◌, ◌≤◌, Bool, false, IsTrue, List, [], ◌∷◌, ◌++◌, length, map, Result, Ok, Err, IsOk, is_ok, le_refl, length-append, arith}
use Rattle.std.specs.List.{AllByRecursion}
use Rattle.std.proofs.lemmas.List.{length-map}
use Rattle.rows_core.specs.declared.cut.Cut.{Cut}
use Rattle.rows_core.specs.Schema.{kinds_of}
use Rattle.plan_core.specs.PlainPlan.{PlainPlan, leaves}
use Rattle.plan_core.specs.declared.refusal.PlanRefusal.{PlanRefusal}
use Rattle.plan_core.specs.PlanTyping.{Kinds, plan_typing}
use Rattle.catalog_types.specs.PlainEntry.{PlainEntry, PlainNewEntry}
use Rattle.catalog_types.specs.declared.extent.Extent.{Extent}
use Rattle.catalog_types.specs.declared.snapshot.StreamState.{StreamState}
use Rattle.cache_index.proofs.Searching.{all-map}
use Rattle.entry_table.specs.AreKept.{AreKept, IsPast}
use Rattle.entry_table.specs.Ids.{without}
use Rattle.entry_table.specs.Keyed.{Digests, keys_of}
use Rattle.entry_table.specs.Work.{with_use, with_uses, new_entries}
use Rattle.entry_table.specs.Work as work
use Rattle.entry_table.proofs.Files.{files-fit}
use Rattle.entry_table.proofs.Growth.{all-append, all-without, all-used, work-keeps, worked-is, collection-keeps}
use Rattle.entry_table.proofs.KeyedEntries.{keyed-work, keyed-collection}
use Rattle.entry_table.proofs.Past.{past-work, past-collection}
use Rattle.catalog_core.specs.Programs.{kinds_of_streams, extents_at, AreCuts}
use Rattle.catalog_core.specs.Results.{IsOver, IsEntryOver, IsResultOver, digests_of}
use Rattle.catalog_core.specs.IsTable.{IsTable}
use Rattle.catalog_core.specs.Table.{Table, kept_of_table, updated, with_extent, with_kept, with_work, FitsResults}
use Rattle.catalog_core.proofs.OwnNumbers.{files-work, files-collection}
use Rattle.catalog_core.proofs.Typings.{typed_still}

-- ---- streams that grow

abbrev pub Grow : List StreamState → List StreamState → Type 0
Grow streams others = (leaf : ℕ) → length (extents_at streams leaf) ≤ length (extents_at others leaf)

pub cuts-stay : (streams others : List StreamState) → Grow streams others → (leaves : List ℕ) (cuts : List Cut) → AreCuts streams leaves cuts → AreCuts others leaves cuts
cuts-stay streams others grow [] [] are = tt
cuts-stay streams others grow [] (cut ∷ cuts) are = absurd are
cuts-stay streams others grow (leaf ∷ leaves) [] are = absurd are
cuts-stay streams others grow (leaf ∷ leaves) (cut ∷ cuts) are =
    ((are.0.0, let more = grow leaf in omega (arith, are.0.1, more)), cuts-stay streams others grow leaves cuts are.1)

over-stay : (streams others : List StreamState) → Grow streams others
    → ((p : PlainPlan) → IsOk (plan_typing (kinds_of_streams streams) p) → IsOk (plan_typing (kinds_of_streams others) p))
    → (es : List PlainEntry) → AllByRecursion (IsEntryOver streams) es → AllByRecursion (IsEntryOver others) es
over-stay streams others grow typed es all =
    all-map (IsEntryOver streams) (IsEntryOver others) (λ e is. record { typed = typed e.plan is.typed; are_cuts = cuts-stay streams others grow _ _ is.are_cuts }) es all

-- ---- a stream more

pub kinds-added : (streams : List StreamState) (s : StreamState) → kinds_of_streams (streams ++ s ∷ []) ≡ kinds_of_streams streams ++ kinds_of s.columns ∷ []
kinds-added [] s = refl
kinds-added (x ∷ xs) s = ap (λ (ks : List Kinds). kinds_of x.columns ∷ ks) (kinds-added xs s)

pub extents-added : (streams : List StreamState) (s : StreamState) → Grow streams (streams ++ s ∷ [])
extents-added [] s leaf = omega arith
extents-added (x ∷ xs) s zero = omega arith
extents-added (x ∷ xs) s (suc leaf) = extents-added xs s leaf

pub over-stream : (streams : List StreamState) (s : StreamState) (es : List PlainEntry) → AllByRecursion (IsEntryOver streams) es → AllByRecursion (IsEntryOver (streams ++ s ∷ [])) es
over-stream streams s es all =
    over-stay streams (streams ++ s ∷ []) (extents-added streams s)
    (λ p is. subst (λ (ks : List Kinds). IsOk (plan_typing ks p)) (sym (kinds-added streams s)) (subst IsOk (sym (typed_still (kinds_of_streams streams) (kinds_of s.columns ∷ []) p is)) is)) es all

-- ---- an extent more

pub kinds-grown : (streams : List StreamState) (place : ℕ) (extent : Extent) → kinds_of_streams (updated (with_extent extent) streams place) ≡ kinds_of_streams streams
kinds-grown [] place extent = refl
kinds-grown (x ∷ xs) zero extent = refl
kinds-grown (x ∷ xs) (suc n) extent = ap (λ (ks : List Kinds). kinds_of x.columns ∷ ks) (kinds-grown xs n extent)

pub extents-grown : (streams : List StreamState) (place : ℕ) (extent : Extent) → Grow streams (updated (with_extent extent) streams place)
extents-grown [] place extent leaf = omega arith
extents-grown (x ∷ xs) zero extent zero = let long = length-append x.extents (extent ∷ []) in omega (arith, long)
extents-grown (x ∷ xs) zero extent (suc leaf) = omega arith
extents-grown (x ∷ xs) (suc n) extent zero = omega arith
extents-grown (x ∷ xs) (suc n) extent (suc leaf) = extents-grown xs n extent leaf

pub over-append : (streams : List StreamState) (place : ℕ) (extent : Extent) (es : List PlainEntry) → AllByRecursion (IsEntryOver streams) es
    → AllByRecursion (IsEntryOver (updated (with_extent extent) streams place)) es
over-append streams place extent es all =
    over-stay streams (updated (with_extent extent) streams place) (extents-grown streams place extent)
    (λ p is. subst (λ (ks : List Kinds). IsOk (plan_typing ks p)) (sym (kinds-grown streams place extent)) is) es all

-- ---- a tick

pub past-tick : (tick : ℕ) (es : List PlainEntry) → AllByRecursion (IsPast tick) es → AllByRecursion (IsPast (tick + 1)) es
past-tick tick es all = all-map (IsPast tick) (IsPast (tick + 1)) (λ e past. (past.0, omega (arith, past.1))) es all

-- ---- work

over-new : (streams : List StreamState) (digests : Digests) (tick id : ℕ) (news : List PlainNewEntry) → AllByRecursion (IsResultOver streams) news
    → AllByRecursion (IsEntryOver streams) (new_entries digests tick id news)
over-new streams digests tick id [] all = tt
over-new streams digests tick id (new ∷ news) all =
    (record { typed = all.0.typed; are_cuts = all.0.are_cuts }, over-new streams digests tick (id + 1) news all.1)

use-over : (streams : List StreamState) (tick : ℕ) (e : PlainEntry) → IsEntryOver streams e → IsEntryOver streams e × IsEntryOver streams (with_use tick e)
use-over streams tick e is = (is, record { typed = is.typed; are_cuts = is.are_cuts })

pub work-keeps-table : (reads dropped : List ℕ) (kept : List PlainNewEntry) (t : Table) → FitsResults reads dropped kept t → IsTable t → IsTable (with_work reads dropped kept t)
work-keeps-table reads dropped kept t fits is =
    let digests = digests_of t.streams in
    let k = kept_of_table t in
    let keys = map (keys_of digests) kept in
    record {
      counted = is.counted;
      first_file = omega (arith, is.first_file);
      last_file = files-fit t.next_file t.next_file kept (le_refl t.next_file) is.last_file fits.results.kept.files;
      names = is.names;
      are_streams = is.are_streams;
      few_streams = is.few_streams;
      few_extents = is.few_extents;
      few_programs = is.few_programs;
      by_name = is.by_name;
      stored = is.stored;
      kept = subst AreKept (worked-is digests t.tick reads dropped keys kept k refl)
          (work-keeps t.tick reads dropped keys kept k (length-map kept (keys_of digests)) fits.results.kept.are_new fits.results.kept.short is.kept);
      over = all-append (IsEntryOver t.streams) (with_uses t.tick reads (without dropped t.entries)) (new_entries digests t.tick t.next_id kept)
          (all-used (IsEntryOver t.streams) (IsEntryOver t.streams) t.tick reads (λ e over. use-over t.streams t.tick e over) (without dropped t.entries) (all-without (IsEntryOver t.streams) dropped t.entries is.over))
          (over-new t.streams digests t.tick t.next_id kept fits.over);
      keyed = keyed-work digests t.tick reads dropped kept k is.keyed;
      past = past-work digests t.tick t.tick reads dropped kept k (le_refl t.tick) is.past;
      ids = omega (arith, is.ids);
      own_files = files-work digests t.tick t.next_id t.next_file reads dropped kept t.streams t.entries is.first_file fits.results.kept.files is.own_files;
    }

-- ---- a collection

pub collection-keeps-table : (ids : List ℕ) (t : Table) → IsTable t → IsTable (with_kept (work.after_collection ids (kept_of_table t)) t)
collection-keeps-table ids t is = record {
  counted = is.counted;
  first_file = is.first_file;
  last_file = is.last_file;
  names = is.names;
  are_streams = is.are_streams;
  few_streams = is.few_streams;
  few_extents = is.few_extents;
  few_programs = is.few_programs;
  by_name = is.by_name;
  stored = is.stored;
  kept = collection-keeps ids (kept_of_table t) is.kept;
  over = all-without (IsEntryOver t.streams) ids t.entries is.over;
  keyed = keyed-collection (digests_of t.streams) ids (kept_of_table t) is.keyed;
  past = past-collection t.tick t.tick ids (kept_of_table t) (le_refl t.tick) is.past;
  ids = is.ids;
  own_files = files-collection ids t.next_file t.streams t.entries is.own_files;
}

-- ---- whether a result is over the streams

has-kinds : (r : Result Kinds PlanRefusal) → IsOk r → (kinds : Kinds) × (r ≡ Ok kinds)
has-kinds (Ok kinds) is = (kinds, refl)
has-kinds (Err e) is = absurd cc

pub over-decided : (streams : List StreamState) (schemas : List Kinds) (plan : PlainPlan) (cuts : List Cut) (kinds : Kinds) (ls : List ℕ) (are : Bool) → schemas ≡ kinds_of_streams streams
    → plan_typing schemas plan ≡ Ok kinds → ls ≡ leaves plan → IsTrue are ↔ AreCuts streams ls cuts → IsTrue are ↔ IsOver streams plan cuts
over-decided streams schemas plan cuts kinds ls are same typed at decided = (
  λ e. record { typed = ap is_ok (ap (λ ks. plan_typing ks plan) (sym same) ∙ typed); are_cuts = subst (λ (ns : List ℕ). AreCuts streams ns cuts) at (decided.0 e) },
  λ over. decided.1 (subst (λ (ns : List ℕ). AreCuts streams ns cuts) (sym at) over.are_cuts),
)

pub not-over : (streams : List StreamState) (schemas : List Kinds) (plan : PlainPlan) (cuts : List Cut) → schemas ≡ kinds_of_streams streams
    → ((kinds : Kinds) → plan_typing schemas plan ≡ Ok kinds → ⊥) → IsTrue false ↔ IsOver streams plan cuts
not-over streams schemas plan cuts same none = (
  λ e. absurd cc,
  λ over. (let typing = has-kinds (plan_typing (kinds_of_streams streams) plan) over.typed in absurd (none typing.0 (ap (λ ks. plan_typing ks plan) same ∙ typing.1))),
)
