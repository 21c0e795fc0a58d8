use Rattle.std.proofs.Common.{rules, ◌≡◌, ◌∙◌, None, IsTrue, List, map, sym, ap, subst, arith}
use Rattle.catalog_types.specs.declared.program.Program.{Program}
use Rattle.catalog_types.specs.declared.snapshot.StreamState.{StreamState}
use Rattle.entry_table.specs.AreKept.{AreKept}
use Rattle.entry_table.specs.Keyed.{with_keys}
use Rattle.entry_table.specs.Tables.{kept_of}
use Rattle.entry_table.specs.Work.{kept_with}
use Rattle.entry_table.specs.declared.table.EntryTable.{EntryTable}
use Rattle.catalog_core.specs.declared.restored_streams.RestoredStreams.{RestoredStreams}
use Rattle.catalog_core.specs.Restoring.{AreStreams, ArePrograms, AreResults}
use Rattle.catalog_core.specs.Results.{digests_of}
use Rattle.catalog_core.specs.Streams.{states_of}
use Rattle.catalog_core.proofs.Nested.{some-at}
use Rattle.catalog_core.proofs.Restored.{restored-table, programs-of, results-of}
use Rattle.catalog_core.proofs.catalog.Catalog.restored.Goals as goal

pub returns-then-not-branch-clause-misfit : goal.returns-then-not-branch-clause-misfit
returns-then-not-branch-clause-misfit c =
    let whole = c.args.whole in
    let streams = some-at (λ (r : RestoredStreams). (states_of r.streams.items ≡ whole.streams) × AreStreams whole.streams) c.in_ok-restored.field-0 c.in-Some.restored c.in-Some.is c.in_ok-restored.ensures.some in
    let states : states_of c.as_slice-streams.result.now ≡ whole.streams = ap states_of c.as_slice-streams.ensures.value ∙ c.know_chains.ensures ∙ streams.0 in
    λ _ fits. programs-of whole fits.table (λ are.
    (let here = subst (λ (s : List StreamState). ArePrograms s c.items-2.result.now) (sym states) (subst (λ (ps : List Program). ArePrograms whole.streams ps) (sym c.items-2.ensures) are) in
    let yes : IsTrue c.in_ok-are_programs.field-0 = c.in_ok-are_programs.ensures.1 here in
    absurd (cc)))

pub returns-in_default-2-clause-misfit : goal.returns-in_default-2-clause-misfit
returns-in_default-2-clause-misfit c =
    let whole = c.args.whole in
    let streams = some-at (λ (r : RestoredStreams). (states_of r.streams.items ≡ whole.streams) × AreStreams whole.streams) c.in_ok-restored.field-0 c.in-Some.restored c.in-Some.is c.in_ok-restored.ensures.some in
    let same : states_of c.know_chains.new.self.streams.items ≡ whole.streams = c.know_chains.ensures ∙ streams.0 in
    let none : c.in_ok-kept.field-0 ≡ None = search rules in
    λ _ fits. c.in_ok-kept.ensures.none none
    (subst (λ (s : List StreamState). AreResults whole.tick whole.next_file s whole.entries) (sym same) (results-of whole fits.table))
    (subst (λ (s : List StreamState). AreKept (kept_with whole.next_id (map (with_keys (digests_of s)) whole.entries))) (sym same) fits.table.kept)

pub invariant_of-result : goal.invariant_of-result
invariant_of-result c =
    let whole = c.args.whole in
    let r = c.know_chains.new.self in
    let states = states_of r.streams.items in
    let streams = some-at (λ (r : RestoredStreams). (states_of r.streams.items ≡ whole.streams) × AreStreams whole.streams) c.in_ok-restored.field-0 c.in-Some.restored c.in-Some.is c.in_ok-restored.ensures.some in
    let yes : IsTrue c.in_ok-are_programs.field-0 = search rules in
    let programs = subst (λ (s : List StreamState). ArePrograms s c.items-2.result.now) (ap states_of c.as_slice-streams.ensures.value) (c.in_ok-are_programs.ensures.0 yes) in
    let results = some-at (λ (_ : EntryTable). AreResults whole.tick whole.next_file states whole.entries) c.in_ok-kept.field-0 c.in-Some-2.kept c.in-Some-2.is c.in_ok-kept.ensures.are in
    let kept = some-at (λ (table : EntryTable). kept_of table ≡ kept_with whole.next_id (map (with_keys (digests_of states)) whole.entries)) c.in_ok-kept.field-0 c.in-Some-2.kept c.in-Some-2.is c.in_ok-kept.ensures.kept in
    record {
      named = r.named;
      kinds = r.kinds;
      counted = r.counted;
      sound = restored-table whole.tick whole.next_file whole.next_id states whole.streams c.items-2.result.now c.into_vec.result.items whole.entries (kept_of c.in-Some-2.kept)
          (omega arith) (c.are_numbers.ensures.0 (search rules)) (c.know_chains.ensures ∙ streams.0) streams.1 programs (c.into_vec.ensures ∙ sym c.items-2.ensures) results kept c.in-Some-2.kept.sound;
    }
