-- Entries by their ids.
use Rattle.std.specs.Prelude.{ℕ, Bool, true, ◌&&◌, ◌==◌, not, nat_lt, List, [], ◌∷◌, map, Option, Some, None}
use Rattle.std.specs.List.{filter, find}
use Rattle.catalog_types.specs.PlainEntry.{PlainEntry}
use Rattle.cache_index.specs.Lists.{is_among}

abbrev pub ids_of : List PlainEntry → List ℕ
ids_of entries = map (λ e. e.id) entries

-- each id is above the one before it, and the first above this number
abbrev pub ascend_above : ℕ → List ℕ → Bool
ascend_above low [] = true
ascend_above low (id ∷ ids) = nat_lt low id && ascend_above id ids

-- the entries whose ids aren't among these
abbrev pub left_of : List ℕ → List PlainEntry → List PlainEntry
left_of ids entries = filter (λ e. not (is_among ids e.id)) entries

-- the entry, if there is one, in front of the others
abbrev pub in_front : Option PlainEntry → List PlainEntry → List PlainEntry
in_front None others = others
in_front (Some e) others = e ∷ others

-- the entries with these ids, in the order of the ids
abbrev pub listed : List ℕ → List PlainEntry → List PlainEntry
listed [] entries = []
listed (id ∷ ids) entries = in_front (find (λ e. e.id == id) entries) (listed ids entries)
