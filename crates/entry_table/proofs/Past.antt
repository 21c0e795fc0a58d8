-- Entries were made and used at or before the tick.
use Rattle.std.proofs.Common.{ℕ, ◌+◌, ◌≤◌, List, [], ◌∷◌, arith}
use Rattle.std.specs.List.{AllByRecursion}
use Rattle.catalog_types.specs.PlainEntry.{PlainEntry, PlainNewEntry}
use Rattle.entry_table.specs.AreKept.{IsPast}
use Rattle.entry_table.specs.Ids.{without}
use Rattle.entry_table.specs.Keyed.{Digests}
use Rattle.entry_table.specs.Work.{Kept, with_use, with_uses, new_entries, after_work, after_collection}
use Rattle.entry_table.proofs.Growth.{all-append, all-without, all-used, all-map}

past-later : (before tick : ℕ) → before ≤ tick → (e : PlainEntry) → IsPast before e → IsPast tick e
past-later before tick later e past = (past.0, omega (arith, past.1, later))

past-used : (tick : ℕ) (e : PlainEntry) → IsPast tick e → IsPast tick e × IsPast tick (with_use tick e)
past-used tick e past = (past, (omega (arith, past.0, past.1), omega arith))

past-new : (digests : Digests) (tick id : ℕ) (news : List PlainNewEntry) → AllByRecursion (IsPast tick) (new_entries digests tick id news)
past-new digests tick id [] = tt
past-new digests tick id (new ∷ news) = ((omega arith, omega arith), past-new digests tick (id + 1) news)

pub past-work : (digests : Digests) (before tick : ℕ) (reads dropped : List ℕ) (news : List PlainNewEntry) (k : Kept) → before ≤ tick → AllByRecursion (IsPast before) k.entries
    → AllByRecursion (IsPast tick) (after_work digests tick reads dropped news k).entries
past-work digests before tick reads dropped news k later past =
    all-append (IsPast tick) (with_uses tick reads (without dropped k.entries)) (new_entries digests tick k.next_id news)
    (all-used (IsPast tick) (IsPast tick) tick reads (λ e it. past-used tick e it) (without dropped k.entries) (all-without (IsPast tick) dropped k.entries (all-map (IsPast before) (IsPast tick) (past-later before tick later) k.entries past)))
    (past-new digests tick k.next_id news)

pub past-collection : (before tick : ℕ) (ids : List ℕ) (k : Kept) → before ≤ tick → AllByRecursion (IsPast before) k.entries → AllByRecursion (IsPast tick) (after_collection ids k).entries
past-collection before tick ids k later past =
    all-without (IsPast tick) ids k.entries (all-map (IsPast before) (IsPast tick) (past-later before tick later) k.entries past)
