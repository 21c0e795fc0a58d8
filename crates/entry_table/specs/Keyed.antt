-- The keys of kept results.
use Rattle.std.specs.Prelude.{◌≡◌, ℕ, List, [], ◌∷◌, take, slice_get, unwrap_or}
use Rattle.std.specs.Coded.{Coded-set}
use Rattle.rows_core.specs.declared.cut.Cut.{Cut}
use Rattle.rows_core.specs.declared.file_ref.Digest.{Digest}
use Rattle.plan_core.specs.PlainPlan.{PlainPlan, leaves}
use Rattle.fingerprints.specs.Keys.{program_key, data_key, chain_start, chain_of}
use Rattle.catalog_types.specs.PlainEntry.{PlainEntry, PlainNewEntry, entry_code}
use Rattle.entry_table.specs.declared.keys.Keys.{Keys}

-- of each stream the digests of its extents, in the order of appending
abbrev pub Digests : Type 0
Digests = List (List Digest)

-- the chain of a stream's first extents, as many as this
abbrev pub chain_at : Digests → ℕ → ℕ → Digest
chain_at digests stream count = chain_of chain_start (take count (unwrap_or (slice_get digests stream) []))

-- of each leaf the chain at the beginning of its cut, and then the one at its end
abbrev pub chains_at : Digests → List ℕ → List Cut → List Digest
chains_at digests [] cuts = []
chains_at digests (leaf ∷ leaves) [] = []
chains_at digests (leaf ∷ leaves) (cut ∷ cuts) =
    chain_at digests leaf cut.from ∷ chain_at digests leaf cut.to ∷ chains_at digests leaves cuts

-- the key of a plan, and that of the plan over the data of a cut
abbrev pub keys_at : Digests → PlainPlan → List Cut → Keys
keys_at digests plan cuts = record { program = program_key plan; key = data_key (program_key plan) (chains_at digests (leaves plan) cuts) }

-- those of its plan and cut
abbrev pub keys_of : Digests → PlainNewEntry → Keys
keys_of digests new = keys_at digests new.plan new.cuts

-- ---- entries

-- the entry as a result that is to be kept
abbrev pub as_new : PlainEntry → PlainNewEntry
as_new e = record { plan = e.plan; cuts = e.cuts; file = e.file; machine = e.machine }

-- the entry with the keys of its plan and cut
abbrev pub with_keys : Digests → PlainEntry → PlainEntry
with_keys digests e = record {
  id = e.id;
  plan = e.plan;
  cuts = e.cuts;
  program = (keys_of digests (as_new e)).program;
  key = (keys_of digests (as_new e)).key;
  file = e.file;
  machine = e.machine;
  uses = e.uses;
  last = e.last;
  made = e.made;
}

-- its keys are those of its plan and cut
abbrev pub IsKeyed : Digests → PlainEntry → Type 0
IsKeyed digests e = with_keys digests e ≡ e

-- its program key is that of its plan
abbrev pub IsOfItsPlan : PlainEntry → Type 0
IsOfItsPlan e = e.program ≡ program_key e.plan

-- this has one proof, so that it may stand in a field
pub IsKeyed-prop : (digests : Digests) (e : PlainEntry) → IsProp (IsKeyed digests e)
IsKeyed-prop digests e x y = Coded-set entry_code _ _ x y
