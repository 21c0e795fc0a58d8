-- A table has exactly one collection where these ids are held and so many bytes are wanted.
use Rattle.std.proofs.Common.{◌≡◌, refl, sym, ap, ◌∙◌, ℕ, List, sum_by}
use Rattle.collector.specs.Victims.{size_of}
use Rattle.collector.proofs.Existence.{at_least_one}
use Rattle.collector.proofs.Taking.{at_most_one}
use Rattle.catalog_core.specs.IsTable.{IsTable}
use Rattle.catalog_core.specs.Table.{Table}
use Rattle.planning.specs.Collecting.{collection_of, bytes_of, IsCollection}
use Rattle.planning.proofs.Entries.{ranked, own-ids}
use Rattle.planning.proofs.Going.{taken-bytes}

pub one-at-least : (t : Table) (held : List ℕ) (wanted : ℕ) → IsTable t → (ids : List ℕ) × (bytes : ℕ) × IsCollection t held wanted ids bytes
one-at-least t held wanted is =
    let victims = at_least_one t.entries (collection_of t held) wanted (ranked t is) (own-ids t is) in
    (victims.0, bytes_of t victims.0, record { victims = victims.1; is_bytes = refl })

pub one-at-most : (t : Table) (held : List ℕ) (wanted : ℕ) → IsTable t → (ids others : List ℕ) (bytes more : ℕ)
    → IsCollection t held wanted ids bytes → IsCollection t held wanted others more → (ids ≡ others) × (bytes ≡ more)
one-at-most t held wanted is ids others bytes more first second =
    let same = at_most_one t.entries (collection_of t held) wanted (ranked t is) (own-ids t is) ids others first.victims second.victims in
    (same, first.is_bytes ∙ ap (bytes_of t) same ∙ sym second.is_bytes)

pub bytes-taken : (t : Table) (held : List ℕ) (wanted : ℕ) → IsTable t → (ids : List ℕ) (bytes : ℕ) → (is : IsCollection t held wanted ids bytes) → bytes ≡ sum_by size_of is.victims.taken
bytes-taken t held wanted is ids bytes of = of.is_bytes ∙ taken-bytes t is held wanted ids of.victims
