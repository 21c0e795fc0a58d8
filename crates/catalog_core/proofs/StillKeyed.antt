-- Kept results have the keys of their plans and cuts, as the streams grow and for whatever keys they are told with.
use Rattle.std.proofs.Common.{◌≡◌, refl, sym, ap, subst, ◌∙◌, ℕ, zero, suc, ◌≤◌, List, [], ◌∷◌, ◌++◌, length, map, take, arith}
use Rattle.std.specs.List.{AllByRecursion}
use Rattle.std.proofs.lemmas.List.{length-map, map-append, take-append-le}
use Rattle.rows_core.specs.declared.cut.Cut.{Cut}
use Rattle.rows_core.specs.declared.file_ref.Digest.{Digest}
use Rattle.plan_core.specs.PlainPlan.{leaves}
use Rattle.fingerprints.specs.Keys.{program_key, data_key, chain_start, chain_of}
use Rattle.catalog_types.specs.PlainEntry.{PlainEntry}
use Rattle.catalog_types.specs.declared.change.Change.TheVariants as change
use Rattle.catalog_types.specs.declared.extent.Extent.{Extent}
use Rattle.catalog_types.specs.declared.snapshot.Snapshot.{Snapshot}
use Rattle.catalog_types.specs.declared.snapshot.StreamState.{StreamState}
use Rattle.entry_table.specs.Keyed.{Digests, IsKeyed, chain_at, chains_at, with_keys}
use Rattle.entry_table.proofs.KeyedEntries.{keyed-same}
use Rattle.catalog_core.specs.IsTable.{IsTable}
use Rattle.catalog_core.specs.Programs.{extents_at, AreCuts}
use Rattle.catalog_core.specs.Results.{IsEntryOver, digests_of, extent_digests}
use Rattle.catalog_core.specs.Table.{Table, empty_table, keyed, told_with, updated, with_extent, Fits}

-- ---- streams that grow

-- up to the present extents each stream has the chains that it had
abbrev HaveChains : List StreamState → List StreamState → Type 0
HaveChains streams others = (leaf count : ℕ) → count ≤ length (extents_at streams leaf) → chain_at (digests_of others) leaf count ≡ chain_at (digests_of streams) leaf count

chains-stay : (streams others : List StreamState) → HaveChains streams others → (leaves : List ℕ) (cuts : List Cut) → AreCuts streams leaves cuts
    → chains_at (digests_of others) leaves cuts ≡ chains_at (digests_of streams) leaves cuts
chains-stay streams others have [] cuts are = refl
chains-stay streams others have (leaf ∷ leaves) [] are = absurd are
chains-stay streams others have (leaf ∷ leaves) (cut ∷ cuts) are =
    let from = have leaf cut.from (omega (arith, are.0.0, are.0.1)) in
    let to = have leaf cut.to are.0.1 in
    let rest = chains-stay streams others have leaves cuts are.1 in
    λ i. from i ∷ to i ∷ rest i

keyed-stay : (streams others : List StreamState) → HaveChains streams others → (es : List PlainEntry) → AllByRecursion (IsEntryOver streams) es
    → AllByRecursion (IsKeyed (digests_of streams)) es → AllByRecursion (IsKeyed (digests_of others)) es
keyed-stay streams others have [] over are = tt
keyed-stay streams others have (e ∷ es) over are =
    let chains = chains-stay streams others have (leaves e.plan) e.cuts over.0.are_cuts in (
      ap (λ (chains : List Digest). record (with_keys (digests_of streams) e) { key = data_key (program_key e.plan) chains }) chains ∙ are.0,
      keyed-stay streams others have es over.1 are.1,
    )

chains-added : (streams : List StreamState) (s : StreamState) → HaveChains streams (streams ++ s ∷ [])
chains-added [] s leaf zero most = refl
chains-added [] s leaf (suc count) most = absurd (omega (arith, most))
chains-added (x ∷ xs) s zero count most = refl
chains-added (x ∷ xs) s (suc leaf) count most = chains-added xs s leaf count most

chains-grown : (streams : List StreamState) (place : ℕ) (extent : Extent) → HaveChains streams (updated (with_extent extent) streams place)
chains-grown [] place extent leaf count most = refl
chains-grown (x ∷ xs) zero extent zero count most =
    let digest : Extent → Digest = λ e. e.file.digest in
    let many = length-map x.extents digest in
    ap (λ (digests : List Digest). chain_of chain_start (take count digests)) (map-append digest x.extents (extent ∷ []))
    ∙ ap (chain_of chain_start) (take-append-le count (extent_digests x.extents) (extent.file.digest ∷ []) (omega (arith, most, many)))
chains-grown (x ∷ xs) zero extent (suc leaf) count most = refl
chains-grown (x ∷ xs) (suc n) extent zero count most = refl
chains-grown (x ∷ xs) (suc n) extent (suc leaf) count most = chains-grown xs n extent leaf count most

pub keyed-stream : (streams : List StreamState) (s : StreamState) (es : List PlainEntry) → AllByRecursion (IsEntryOver streams) es
    → AllByRecursion (IsKeyed (digests_of streams)) es → AllByRecursion (IsKeyed (digests_of (streams ++ s ∷ []))) es
keyed-stream streams s es over are = keyed-stay streams (streams ++ s ∷ []) (chains-added streams s) es over are

pub keyed-append : (streams : List StreamState) (place : ℕ) (extent : Extent) (es : List PlainEntry) → AllByRecursion (IsEntryOver streams) es
    → AllByRecursion (IsKeyed (digests_of streams)) es → AllByRecursion (IsKeyed (digests_of (updated (with_extent extent) streams place))) es
keyed-append streams place extent es over are = keyed-stay streams (updated (with_extent extent) streams place) (chains-grown streams place extent) es over are

-- ---- checkpoints

-- the keys that entries come with don't matter
same-keyed : (digests : Digests) (program key : Digest) (es : List PlainEntry)
    → map (with_keys digests) (map (λ (e : PlainEntry). record e { program = program; key = key }) es) ≡ map (with_keys digests) es
same-keyed digests program key [] = refl
same-keyed digests program key (e ∷ es) = ap (λ (others : List PlainEntry). with_keys digests e ∷ others) (same-keyed digests program key es)

pub keyed-anyway : (t : Table) (program key : Digest) → keyed (told_with program key t) ≡ keyed t
keyed-anyway t program key = ap (λ (es : List PlainEntry). record t { entries = es }) (same-keyed (digests_of t.streams) program key t.entries)

pub keyed-table : (t : Table) → IsTable t → keyed t ≡ t
keyed-table t is = ap (λ (es : List PlainEntry). record t { entries = es }) (keyed-same (digests_of t.streams) t.entries is.keyed)

pub checkpoint-fits : (t : Table) (whole : Snapshot) → IsTable t → keyed whole ≡ t → Fits (change.Checkpoint whole) empty_table
checkpoint-fits t whole is told = record { first = refl; table = subst IsTable (sym told) is }
