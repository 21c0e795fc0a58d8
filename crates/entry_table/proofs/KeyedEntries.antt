-- Entries with the keys of their plans and cuts.
use Rattle.std.proofs.Common.{◌≡◌, ◌↔◌, ℕ, suc, ◌+◌, List, [], ◌∷◌, length, map, nat_lt, IsTrue, refl, ap, sym, subst, arith}
use Rattle.std.specs.List.{AllByRecursion, list_all}
use Rattle.catalog_types.specs.PlainEntry.{PlainEntry, PlainNewEntry}
use Rattle.entry_table.specs.AreKept.{AreKept, AreAlike, IsEntry, NoTwoAreAlike}
use Rattle.entry_table.specs.Ids.{ids_of, ascend_above, without}
use Rattle.entry_table.specs.Keyed.{Digests, IsKeyed, IsOfItsPlan, with_keys}
use Rattle.entry_table.specs.Work.{Kept, kept_with, with_use, with_uses, new_entries, after_work, after_collection}
use Rattle.entry_table.proofs.Growth.{all-append, all-without, all-used}

-- ---- they stay so

keyed-used : (digests : Digests) (tick : ℕ) (e : PlainEntry) → IsKeyed digests e → IsKeyed digests e × IsKeyed digests (with_use tick e)
keyed-used digests tick e keyed = (keyed, ap (with_use tick) keyed)

keyed-new : (digests : Digests) (tick id : ℕ) (news : List PlainNewEntry) → AllByRecursion (IsKeyed digests) (new_entries digests tick id news)
keyed-new digests tick id [] = tt
keyed-new digests tick id (new ∷ news) = (refl, keyed-new digests tick (id + 1) news)

pub keyed-work : (digests : Digests) (tick : ℕ) (reads dropped : List ℕ) (news : List PlainNewEntry) (k : Kept) → AllByRecursion (IsKeyed digests) k.entries
    → AllByRecursion (IsKeyed digests) (after_work digests tick reads dropped news k).entries
keyed-work digests tick reads dropped news k keyed =
    all-append (IsKeyed digests) (with_uses tick reads (without dropped k.entries)) (new_entries digests tick k.next_id news)
    (all-used (IsKeyed digests) (IsKeyed digests) tick reads (λ e it. keyed-used digests tick e it) (without dropped k.entries) (all-without (IsKeyed digests) dropped k.entries keyed))
    (keyed-new digests tick k.next_id news)

pub keyed-collection : (digests : Digests) (ids : List ℕ) (k : Kept) → AllByRecursion (IsKeyed digests) k.entries → AllByRecursion (IsKeyed digests) (after_collection ids k).entries
keyed-collection digests ids k keyed = all-without (IsKeyed digests) ids k.entries keyed

-- ---- they are given their keys

pub keyed-made : (digests : Digests) (es : List PlainEntry) → AllByRecursion (IsKeyed digests) (map (with_keys digests) es)
keyed-made digests [] = tt
keyed-made digests (e ∷ es) = (refl, keyed-made digests es)

pub keyed-same : (digests : Digests) (es : List PlainEntry) → AllByRecursion (IsKeyed digests) es → map (with_keys digests) es ≡ es
keyed-same digests [] keyed = refl
keyed-same digests (e ∷ es) keyed = λ i. keyed.0 i ∷ keyed-same digests es keyed.1 i

-- their program keys are those of their plans
pub keyed-programs : (digests : Digests) (es : List PlainEntry) → AllByRecursion (IsKeyed digests) es → AllByRecursion IsOfItsPlan es
keyed-programs digests [] keyed = tt
keyed-programs digests (e ∷ es) keyed = (sym (ap (λ (e : PlainEntry). e.program) keyed.0), keyed-programs digests es keyed.1)

-- ---- their keys change nothing of what is asked of a table's entries

pub ids-keyed : (digests : Digests) (es : List PlainEntry) → ids_of (map (with_keys digests) es) ≡ ids_of es
ids-keyed digests [] = refl
ids-keyed digests (e ∷ es) = ap (λ (ids : List ℕ). e.id ∷ ids) (ids-keyed digests es)

as-many-keyed : (digests : Digests) (es : List PlainEntry) → length (map (with_keys digests) es) ≡ length es
as-many-keyed digests [] = refl
as-many-keyed digests (e ∷ es) = ap suc (as-many-keyed digests es)

entries-keyed : (digests : Digests) (es : List PlainEntry) → AllByRecursion IsEntry (map (with_keys digests) es) ↔ AllByRecursion IsEntry es
entries-keyed digests [] = (λ _. tt, λ _. tt)
entries-keyed digests (e ∷ es) =
    let rest = entries-keyed digests es in (
      λ all. (record { used = all.0.used; counted = all.0.counted; machine = all.0.machine; short = all.0.short; plan = all.0.plan }, rest.0 all.1),
      λ all. (record { used = all.0.used; counted = all.0.counted; machine = all.0.machine; short = all.0.short; plan = all.0.plan }, rest.1 all.1),
    )

unlike-keyed : (digests : Digests) (e : PlainEntry) (es : List PlainEntry)
    → AllByRecursion (λ other. ¬ (AreAlike e other)) (map (with_keys digests) es) ↔ AllByRecursion (λ other. ¬ (AreAlike e other)) es
unlike-keyed digests e [] = (λ _. tt, λ _. tt)
unlike-keyed digests e (other ∷ es) = let rest = unlike-keyed digests e es in (λ all. (all.0, rest.0 all.1), λ all. (all.0, rest.1 all.1))

differ-keyed : (digests : Digests) (es : List PlainEntry) → NoTwoAreAlike (map (with_keys digests) es) ↔ NoTwoAreAlike es
differ-keyed digests [] = (λ _. tt, λ _. tt)
differ-keyed digests (e ∷ es) =
    let others = unlike-keyed digests e es in
    let rest = differ-keyed digests es in
    (λ all. (others.0 all.0, rest.0 all.1), λ all. (others.1 all.0, rest.1 all.1))

pub kept-keyed : (digests : Digests) (next_id : ℕ) (es : List PlainEntry) → AreKept (kept_with next_id (map (with_keys digests) es)) ↔ AreKept (kept_with next_id es)
kept-keyed digests next_id es =
    let ids = ids-keyed digests es in
    let many = as-many-keyed digests es in
    let entries = entries-keyed digests es in
    let differ = differ-keyed digests es in (
      λ is. record {
        first = is.first;
        ascend = subst (λ (ids : List ℕ). IsTrue (ascend_above 0 ids)) ids is.ascend;
        below = subst (λ (ids : List ℕ). IsTrue (list_all (λ id. nat_lt id next_id) ids)) ids is.below;
        few = omega (arith, many, is.few);
        are_entries = entries.0 is.are_entries;
        differ = differ.0 is.differ;
      },
      λ is. record {
        first = is.first;
        ascend = subst (λ (ids : List ℕ). IsTrue (ascend_above 0 ids)) (sym ids) is.ascend;
        below = subst (λ (ids : List ℕ). IsTrue (list_all (λ id. nat_lt id next_id) ids)) (sym ids) is.below;
        few = omega (arith, many, is.few);
        are_entries = entries.1 is.are_entries;
        differ = differ.1 is.differ;
      },
    )
