use Rattle.std.proofs.Common.{◌∙◌, inl, ◌<◌, ◌≤◌, ap, sym, subst, length, arith}
use Rattle.std.proofs.lemmas.Result.{IfOk-weaker}
use Rattle.outside_traits.proofs.RunLemmas.{narrows_on}
use Rattle.gated_log.specs.Logs.{Reads, contents}
use Rattle.std.specs.Prelude.{IsTrue, IfOk, ◌↔◌, ℕ, min, ◌^◌, ◌-◌}
use Rattle.journal_store.specs.Journals.{had_root_of, generation_of}
use Rattle.journal_store.specs.Readings.{generation_file, generations, IsUnfinished}
use Rattle.journal_store.proofs.OneReading.{unfinished_names, unfinished_goes_on, have_or_stop, stop_once}
use Rattle.journal_store.proofs.LoadingLemmas.{loading_making, loading_on, have_before, stops_before, empty_end, on_ok}
use Rattle.journal_store.proofs.journal.Journal.load.Goals as goal

pub returns-in_err-root-clause-crash : goal.returns-in_err-root-clause-crash
returns-in_err-root-clause-crash g c = λ told.
    loading_making _ _ c.root_is_short.ensures.narrows _ (inl (c.in_ok-short.ensures.read told c.if-short.true)) (c.make_short.ensures.crash told (c.in_ok-short.ensures.short told c.if-short.true))

pub returns-then-short-clause-end : goal.returns-then-short-clause-end
returns-then-short-clause-end g c = c.in_ok-root.ensures.end ∙ sym (empty_end c.new.result.items c.new.ensures.items)

pub returns-then-short-clause-crash : goal.returns-then-short-clause-crash
returns-then-short-clause-crash g c = λ told.
    loading_making _ _ c.root_is_short.ensures.narrows _ (inl (c.in_ok-short.ensures.read told c.if-short.true)) (c.make_short.ensures.crash told (c.in_ok-short.ensures.short told c.if-short.true))

pub returns-then-short-clause-exactly : goal.returns-then-short-clause-exactly
returns-then-short-clause-exactly g c = λ told file at stops. unfinished_goes_on (g.D.Store.view c.args.store.now).files file at (inl (c.in_ok-short.ensures.read told c.if-short.true)) stops

pub returns-then-short-clause-taken : goal.returns-then-short-clause-taken
returns-then-short-clause-taken g c = λ told made.
    absurd (unfinished_names 0 ((g.D.Store.view c.args.store.now).files 0) made.root (inl (c.in_ok-short.ensures.read told c.if-short.true)))

pub returns-clause-crash : goal.returns-clause-crash
returns-clause-crash g c = λ told. loading_on _ _ c.root_is_short.ensures.narrows _ (c.load_long.ensures.crash told)

pub returns-clause-finished : goal.returns-clause-finished
returns-clause-finished g c = λ told finished.
    narrows_on _ _ _ c.root_is_short.ensures.narrows (c.load_long.ensures.finished told (λ unfinished. finished (subst (λ x. IsUnfinished x) (c.root_is_short.ensures.narrows.same 0) unfinished)))

pub returns-clause-not_a_store : goal.returns-clause-not_a_store
returns-clause-not_a_store g c = λ told file at err.
    stops_before _ _ c.root_is_short.ensures.narrows file at (c.load_long.ensures.not_a_store told (subst (λ x. 9 < length x) (sym (c.root_is_short.ensures.narrows.same 0)) (c.in_ok-short.ensures.long told c.if-short.false)) file at err)

pub returns-clause-store : goal.returns-clause-store
returns-clause-store g c = λ told h bodies have file at err.
    have_or_stop (g.D.Store.view c.args.store.now).files h bodies file at have
    (stops_before _ _ c.root_is_short.ensures.narrows file at (c.load_long.ensures.not_a_store told (subst (λ x. 9 < length x) (sym (c.root_is_short.ensures.narrows.same 0)) (c.in_ok-short.ensures.long told c.if-short.false)) file at err))

pub returns-clause-exactly : goal.returns-clause-exactly
returns-clause-exactly g c = λ told file at stops.
    on_ok _ _ ⊥ (c.load_long.ensures.reading told) (λ r have. have_or_stop (g.D.Store.view c.args.store.now).files _ _ file at (have_before _ _ c.root_is_short.ensures.narrows _ _ have) stops)

pub returns-clause-place : goal.returns-clause-place
returns-clause-place g c = λ told file at other b stops err.
    stop_once (g.D.Store.view c.args.store.now).files other b file at
    (stops_before _ _ c.root_is_short.ensures.narrows other b (c.load_long.ensures.not_a_store told (subst (λ x. 9 < length x) (sym (c.root_is_short.ensures.narrows.same 0)) (c.in_ok-short.ensures.long told c.if-short.false)) other b err)) stops

pub returns-clause-most_taken : goal.returns-clause-most_taken
returns-clause-most_taken g c = λ told n all.
    let most = c.load_long.ensures.most_taken told n (λ h reads. subst (λ x. length x ≤ n) (sym (c.root_is_short.ensures.narrows.same (generation_file h))) (all h (subst (λ x. Reads (generations h) x) (c.root_is_short.ensures.narrows.same 0) reads))) in
    omega (arith, most, c.root_is_short.ensures.taken, ap length (c.root_is_short.ensures.narrows.same 0))

pub returns-clause-had_root : goal.returns-clause-had_root
returns-clause-had_root g c = λ told.
    let long = subst (λ x. 9 < length x) (sym (c.root_is_short.ensures.narrows.same 0)) (c.in_ok-short.ensures.long told c.if-short.false) in
    subst (λ x. IfOk c.load_long.result (λ r. IsTrue (had_root_of r.0) ↔ (IsUnfinished x → ⊥))) (c.root_is_short.ensures.narrows.same 0) (c.load_long.ensures.had_root told long)

pub returns-clause-taken : goal.returns-clause-taken
returns-clause-taken g c = λ told.
    let same = c.root_is_short.ensures.narrows.same in
    IfOk-weaker c.load_long.result _ _ (λ r taken made.
    let of_log = taken (record {
      root = subst (λ x. Reads (generations (generation_of r.0)) x) (sym (same 0)) made.root;
      log = subst (λ x. Reads (contents r.1.items) x) (sym (same (generation_file (generation_of r.0)))) made.log;
      few = made.few;
    }) in
    of_log ∙ ap (λ (n : ℕ). min n (2 ^ 64 - 1)) (omega (arith, c.root_is_short.ensures.taken, ap length (same 0), ap length (same (generation_file (generation_of r.0))))))
    (c.load_long.ensures.taken told)
