-- The kept results of a table can be ranked, and have ids of their own, which are numbers of four bytes from 1 on.
use Rattle.std.proofs.Common.{◌≡◌, ◌≢◌, refl, sym, ap, ◌∙◌, ℕ, ◌+◌, ◌<◌, ◌≤◌, ◌==◌, nat_lt, true, List, [], ◌∷◌, arith}
use Rattle.std.specs.List.{All, AllByRecursion, Contains}
use Rattle.std.proofs.lemmas.Bool.{ltb-true, eq-eqb, and_parts}
use Rattle.std.proofs.lemmas.List.Elements.{All-contains, All-from_recursion}
use Rattle.std.proofs.lemmas.List.Folds.{list_any_at, list_all-map}
use Rattle.std.proofs.lemmas.List.Kept.{AllPairs-cons}
use Rattle.std.proofs.lemmas.List.Sums.{AllPass-from_list_all}
use Rattle.catalog_types.specs.PlainEntry.{PlainEntry}
use Rattle.collector.specs.Ratio.{CanBeRanked}
use Rattle.collector.specs.Victims.{HaveOwnIds}
use Rattle.entry_table.specs.AreKept.{IsEntry, IsPast}
use Rattle.entry_table.specs.Ids.{ids_of, ascend_above, is_there}
use Rattle.rows_core.specs.Limits.{most_result_bytes, file_end}
use Rattle.catalog_core.specs.IsTable.{IsTable}
use Rattle.catalog_core.specs.Table.{Table}
use Rattle.catalog_core.proofs.AskedResults.{found-own}
use Rattle.record_codec.specs.Spelling.{IsNumber}
use Rattle.planning.specs.Collecting.{file_of}

-- ---- they can be ranked

each-ranked : (tick : ℕ) (es : List PlainEntry) → AllByRecursion (IsPast tick) es → AllByRecursion IsEntry es → AllByRecursion (CanBeRanked (tick + 1)) es
each-ranked tick [] past are = tt
each-ranked tick (e ∷ es) past are =
    let last = past.0.1 in
    (record { past = omega (arith, last); short = are.0.short; used = are.0.used; worked = are.0.machine }, each-ranked tick es past.1 are.1)

pub ranked : (t : Table) → IsTable t → All (CanBeRanked (t.tick + 1)) t.entries
ranked t is = All-from_recursion (CanBeRanked (t.tick + 1)) t.entries (each-ranked t.tick t.entries is.past is.kept.are_entries)

-- ---- their ids differ

later-differ : (low id : ℕ) (es : List PlainEntry) → id ≤ low → ascend_above low (ids_of es) ≡ true → AllByRecursion (λ (e : PlainEntry). id ≢ e.id) es
later-differ low id [] most up = tt
later-differ low id (e ∷ es) most up =
    let parts = and_parts (nat_lt low e.id) (ascend_above e.id (ids_of es)) up in
    let less : low < e.id = ltb-true low e.id parts.0 in
    (λ same. omega (arith, most, less, same), later-differ e.id id es (omega (arith, most, less)) parts.1)

all-differ : (low : ℕ) (es : List PlainEntry) → ascend_above low (ids_of es) ≡ true → HaveOwnIds es
all-differ low [] up = λ i j d less here. absurd (omega (arith, here))
all-differ low (e ∷ es) up =
    let behind = (and_parts (nat_lt low e.id) (ascend_above e.id (ids_of es)) up).1 in
    AllPairs-cons (λ (e f : PlainEntry). e.id ≢ f.id) e es
    (All-from_recursion (λ (f : PlainEntry). e.id ≢ f.id) es (later-differ e.id e.id es (omega arith) behind)) (all-differ e.id es behind)

pub own-ids : (t : Table) → IsTable t → HaveOwnIds t.entries
own-ids t is = all-differ 0 t.entries is.kept.ascend

-- ---- what is known of the id of each

pub record IsId (t : Table) (id : ℕ) : Type 0 where
  pub there : is_there t.entries id ≡ true
  pub first : 0 < id
  pub number : IsNumber id
  pub short : (file_of t id).len ≤ most_result_bytes

above-low : (low : ℕ) (es : List PlainEntry) → ascend_above low (ids_of es) ≡ true → AllByRecursion (λ (e : PlainEntry). low < e.id) es
above-low low es up = by low low es (omega arith) up
  where
    by : (least low : ℕ) (es : List PlainEntry) → least ≤ low → ascend_above low (ids_of es) ≡ true → AllByRecursion (λ (e : PlainEntry). least < e.id) es
    by least low [] most up = tt
    by least low (e ∷ es) most up =
        let parts = and_parts (nat_lt low e.id) (ascend_above e.id (ids_of es)) up in
        let less : low < e.id = ltb-true low e.id parts.0 in
        (omega (arith, most, less), by least e.id es (omega (arith, most, less)) parts.1)

has-id : (es : List PlainEntry) (e : PlainEntry) → Contains es e → is_there es e.id ≡ true
has-id es e has = list_any_at (λ (z : PlainEntry). z.id == e.id) es has.0 e has.1 (ap (λ (z : PlainEntry). z.id == e.id) has.2 ∙ eq-eqb e.id e.id refl)

pub own-id : (t : Table) → IsTable t → (e : PlainEntry) → Contains t.entries e → IsId t e.id
own-id t is e has =
    let next : t.next_id ≤ t.next_file = is.ids in
    let end : t.next_file ≤ file_end = is.last_file in
    let test : nat_lt e.id t.next_id ≡ true =
    All-contains (λ (z : PlainEntry). nat_lt z.id t.next_id ≡ true) t.entries e
    (AllPass-from_list_all (λ (z : PlainEntry). nat_lt z.id t.next_id) t.entries (sym (list_all-map (λ (id : ℕ). nat_lt id t.next_id) (λ (z : PlainEntry). z.id) t.entries) ∙ is.kept.below)) has in
    let below : e.id < t.next_id = ltb-true e.id t.next_id test in
    let entry = All-contains IsEntry t.entries e (All-from_recursion IsEntry t.entries is.kept.are_entries) has in
    let len : (file_of t e.id).len ≡ e.file.len = ap (λ file. file.len) (found-own t e is has).0 in
    let short : e.file.len ≤ most_result_bytes = entry.short in
    record {
      there = has-id t.entries e has;
      first = All-contains (λ (z : PlainEntry). 0 < z.id) t.entries e (All-from_recursion (λ (z : PlainEntry). 0 < z.id) t.entries (above-low 0 t.entries is.kept.ascend)) has;
      number = omega (arith, below, next, end);
      short = omega (arith, len, short);
    }
