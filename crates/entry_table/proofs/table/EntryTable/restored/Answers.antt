use Rattle.std.proofs.Common.{◌≡◌, ◌∙◌, true, ap, sym, subst, List, map}
use Rattle.catalog_types.specs.PlainEntry.{PlainEntry}
use Rattle.cache_index.specs.Index.{IsIndexOf}
use Rattle.entry_table.specs.AreKept.{AreKept}
use Rattle.entry_table.specs.Keyed.{with_keys}
use Rattle.entry_table.specs.Work.{kept_with}
use Rattle.entry_table.proofs.KeyedEntries.{kept-keyed}
use Rattle.entry_table.proofs.table.EntryTable.restored.Goals as goal

pub returns-then-not-branch-clause-none : goal.returns-then-not-branch-clause-none
returns-then-not-branch-clause-none g c = λ none kept. (
    let read : c.as_slice.result.now ≡ c.args.entries = c.as_slice.ensures.value ∙ c.into_vec-entries.ensures in
    let are = (kept-keyed (g.C.Chains.digests c.args.chains.now) c.args.next_id c.args.entries).0 kept in
    let is : c.in_ok-are_kept.field-0 ≡ true = c.in_ok-are_kept.ensures.1 (subst (λ (es : List PlainEntry). AreKept (kept_with c.args.next_id es)) (sym read) are) in
    let isnt = c.if-not-branch.true in
    absurd (cc)
    )

pub invariant_of-result : goal.invariant_of-result
invariant_of-result g c =
    let digests = g.C.Chains.digests c.args.chains.now in
    let read : c.as_slice.result.now ≡ c.args.entries = c.as_slice.ensures.value ∙ c.into_vec-entries.ensures in
    let are = subst (λ (es : List PlainEntry). AreKept (kept_with c.args.next_id es)) read (c.in_ok-are_kept.ensures.0 c.if-not-branch.false) in
    let keyed : c.put_keys.new.entries.items ≡ map (with_keys digests) c.args.entries = c.in_ok-put_keys.ensures ∙ ap (λ (es : List PlainEntry). map (with_keys digests) es) c.into_vec-entries.ensures in
    record {
      sound = subst (λ (es : List PlainEntry). AreKept (kept_with c.args.next_id es)) (sym keyed) ((kept-keyed digests c.args.next_id c.args.entries).1 are);
      indexed = subst (λ (es : List PlainEntry). IsIndexOf es c.in_ok-index.index) c.as_slice-2.ensures.value c.in_ok-index.ensures;
    }
