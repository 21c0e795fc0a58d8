-- What a piece of work, and a collection, make of the kept results, and which fit.
use Rattle.std.specs.Prelude.{ℕ, ◌+◌, min, List, [], ◌∷◌, ◌++◌, length, map, if◌then◌else◌, IsTrue}
use Rattle.catalog_types.specs.PlainEntry.{PlainEntry, PlainNewEntry}
use Rattle.entry_table.specs.declared.keys.Keys.{Keys}
use Rattle.entry_table.specs.Ids.{AreIdsOf, AreOwnIdsOf, is_among, without}
use Rattle.entry_table.specs.Keyed.{Digests, keys_of}
use Rattle.entry_table.specs.Results.{MayBeKept}

-- the entries by their ids, and the id of the next one
pub record Kept : Type 0 where
  pub next_id : ℕ
  pub entries : List PlainEntry

abbrev pub kept_with : ℕ → List PlainEntry → Kept
kept_with next_id entries = record { next_id = next_id; entries = entries }

abbrev pub none_kept : Kept
none_kept = kept_with 1 []

-- ---- which fit

-- The ids read and those dropped are of entries, and the new results may be kept. An id may be in both lists.
pub record FitsWork (next_file : ℕ) (reads dropped : List ℕ) (news : List PlainNewEntry) (k : Kept) : Type 0 where
  pub read : AreIdsOf k.entries reads
  pub gone : AreIdsOf k.entries dropped
  pub kept : MayBeKept k.entries dropped next_file news

-- the ids are of entries, each once, in any order
abbrev pub FitsCollection : List ℕ → Kept → Type 0
FitsCollection ids k = AreOwnIdsOf k.entries ids

-- ---- what is there afterwards

-- the most uses that are counted
abbrev pub most_uses : ℕ
most_uses = 4294967295

-- the entry with one use more, unless they are the most, at this tick
abbrev pub with_use : ℕ → PlainEntry → PlainEntry
with_use tick e = record e { uses = min (e.uses + 1) most_uses; last = tick }

-- the entry, with a use more if its id is among these
abbrev pub used : ℕ → List ℕ → PlainEntry → PlainEntry
used tick ids e = if is_among ids e.id then with_use tick e else e

abbrev pub with_uses : ℕ → List ℕ → List PlainEntry → List PlainEntry
with_uses tick ids entries = map (used tick ids) entries

-- a new result as an entry of this id, made at this tick
abbrev pub new_entry : ℕ → ℕ → Keys → PlainNewEntry → PlainEntry
new_entry tick id keys new = record {
  id = id;
  plan = new.plan;
  cuts = new.cuts;
  program = keys.program;
  key = keys.key;
  file = new.file;
  machine = new.machine;
  uses = 1;
  last = tick;
  made = tick;
}

-- new results as entries of the ids from this one on
abbrev pub new_entries : Digests → ℕ → ℕ → List PlainNewEntry → List PlainEntry
new_entries digests tick id [] = []
new_entries digests tick id (new ∷ news) =
    new_entry tick id (keys_of digests new) new ∷ new_entries digests tick (id + 1) news

-- Those that are dropped are gone, also where they were read, the others that were read have a use more, and the new ones stand
-- behind with the next ids.
abbrev pub after_work : Digests → ℕ → List ℕ → List ℕ → List PlainNewEntry → Kept → Kept
after_work digests tick reads dropped news k =
    kept_with (k.next_id + length news)
    (with_uses tick reads (without dropped k.entries) ++ new_entries digests tick k.next_id news)

abbrev pub after_collection : List ℕ → Kept → Kept
after_collection ids k = kept_with k.next_id (without ids k.entries)
