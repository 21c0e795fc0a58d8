use Rattle.std.proofs.Common.{◌∙◌, inr, ◌+◌, ap, sym, subst, refl, ℕ, List, length}
use Rattle.std.proofs.lemmas.Result.{IfOk-weaker}
use Rattle.outside_traits.proofs.RunLemmas.{narrows_on}
use Rattle.gated_log.specs.Logs.{contents, front, Reads, StopsAt}
use Rattle.gated_log.specs.Stands.{Stands}
use Rattle.gated_log.proofs.Crash.{length-front_empty}
use Rattle.journal_store.proofs.OneReading.{unfinished_names}
use Rattle.journal_store.proofs.Numbers.{root_end}
use Rattle.journal_store.proofs.LoadingLemmas.{none_inside, loading_narrow, loading_making, empty_end, named_keeps}
use Rattle.journal_store.proofs.journal.Journal.load_long.Goals as goal

pub make_behind-requires-clause-room : goal.make_behind-requires-clause-room
make_behind-requires-clause-room g c =
    let none = none_inside c.in-Ok.read.1 _ c.is_empty.ensures c.if-is_empty.true in
    c.in-Ok.ensures.end ∙ ap (λ (l : List (List ℕ)). length (front l) + 1) none ∙ ap (λ (n : ℕ). n + 1) length-front_empty

pub returns-in_err-root-clause-crash : goal.returns-in_err-root-clause-crash
returns-in_err-root-clause-crash g c = λ told.
    let none = none_inside c.in-Ok.read.1 _ c.is_empty.ensures c.if-is_empty.true in
    loading_making _ _ c.read.ensures.narrows _ (inr (subst (λ l. Reads l ((g.D.Store.view c.args.store.now).files 0)) none (c.in-Ok.ensures.bodies told)))
    (c.make_behind.ensures.crash told (subst (λ l. Stands (g.D.Store.view c.read.new.store) c.in-Ok.read.0 l) none (c.in-Ok.ensures.stands told)))

pub returns-in_err-root-clause-finished : goal.returns-in_err-root-clause-finished
returns-in_err-root-clause-finished g c = λ told finished.
    let none = none_inside c.in-Ok.read.1 _ c.is_empty.ensures c.if-is_empty.true in
    absurd (finished (inr (subst (λ l. Reads l ((g.D.Store.view c.args.store.now).files 0)) none (c.in-Ok.ensures.bodies told))))

pub returns-then-is_empty-clause-end : goal.returns-then-is_empty-clause-end
returns-then-is_empty-clause-end g c = c.in_ok-root.ensures.end ∙ sym (empty_end c.new.result.items c.new.ensures.items)

pub returns-then-is_empty-clause-keeps : goal.returns-then-is_empty-clause-keeps
returns-then-is_empty-clause-keeps g c = λ told.
    let none = none_inside c.in-Ok.read.1 _ c.is_empty.ensures c.if-is_empty.true in
    named_keeps _ _ 0 _ refl (ap contents c.new.ensures.items) (c.in_ok-root.ensures.made told (subst (λ l. Stands (g.D.Store.view c.read.new.store) c.in-Ok.read.0 l) none (c.in-Ok.ensures.stands told)))

pub returns-then-is_empty-clause-stable : goal.returns-then-is_empty-clause-stable
returns-then-is_empty-clause-stable g c = λ told.
    let none = none_inside c.in-Ok.read.1 _ c.is_empty.ensures c.if-is_empty.true in
    c.in_ok-root.ensures.stable told (subst (λ l. Stands (g.D.Store.view c.read.new.store) c.in-Ok.read.0 l) none (c.in-Ok.ensures.stands told))

pub returns-then-is_empty-clause-crash : goal.returns-then-is_empty-clause-crash
returns-then-is_empty-clause-crash g c = λ told.
    let none = none_inside c.in-Ok.read.1 _ c.is_empty.ensures c.if-is_empty.true in
    loading_making _ _ c.read.ensures.narrows _ (inr (subst (λ l. Reads l ((g.D.Store.view c.args.store.now).files 0)) none (c.in-Ok.ensures.bodies told)))
    (c.make_behind.ensures.crash told (subst (λ l. Stands (g.D.Store.view c.read.new.store) c.in-Ok.read.0 l) none (c.in-Ok.ensures.stands told)))

pub returns-then-is_empty-clause-finished : goal.returns-then-is_empty-clause-finished
returns-then-is_empty-clause-finished g c = λ told finished.
    let none = none_inside c.in-Ok.read.1 _ c.is_empty.ensures c.if-is_empty.true in
    absurd (finished (inr (subst (λ l. Reads l ((g.D.Store.view c.args.store.now).files 0)) none (c.in-Ok.ensures.bodies told))))

pub returns-then-is_empty-clause-taken : goal.returns-then-is_empty-clause-taken
returns-then-is_empty-clause-taken g c = λ told made.
    let none = none_inside c.in-Ok.read.1 _ c.is_empty.ensures c.if-is_empty.true in
    absurd (unfinished_names 0 ((g.D.Store.view c.args.store.now).files 0) made.root (inr (subst (λ l. Reads l ((g.D.Store.view c.args.store.now).files 0)) none (c.in-Ok.ensures.bodies told))))

pub load_generation-requires-clause-root_end : goal.load_generation-requires-clause-root_end
load_generation-requires-clause-root_end g c =
    let names = sym (ap contents c.deref.ensures.value) ∙ c.in_ok-generation.ensures.names in
    root_end (contents c.in-Ok.read.1.items) c.in_ok-generation.generation c.in-Ok.read.0.end names c.in-Ok.ensures.end

pub returns-clause-crash : goal.returns-clause-crash
returns-clause-crash g c = λ told. loading_narrow _ _ (narrows_on _ _ _ c.read.ensures.narrows c.load_generation.ensures.narrows)

pub returns-clause-finished : goal.returns-clause-finished
returns-clause-finished g c = λ told finished. narrows_on _ _ _ c.read.ensures.narrows c.load_generation.ensures.narrows

pub returns-clause-not_a_store : goal.returns-clause-not_a_store
returns-clause-not_a_store g c = λ told long file at err.
    let names = sym (ap contents c.deref.ensures.value) ∙ c.in_ok-generation.ensures.names in
    let stop = c.load_generation.ensures.not_a_store told file at err in
    inr (inr (record {
      generation = c.in_ok-generation.generation;
      root = subst (λ l. Reads l ((g.D.Store.view c.args.store.now).files 0)) names (c.in-Ok.ensures.bodies told);
      is_log = stop.0;
      stops = subst (λ x. StopsAt at x) (c.read.ensures.narrows.same file) stop.1;
    }))

pub returns-clause-root_taken : goal.returns-clause-root_taken
returns-clause-root_taken g c = λ told none.
    let names = sym (ap contents c.deref.ensures.value) ∙ c.in_ok-generation.ensures.names in
    absurd (unfinished_names c.in_ok-generation.generation ((g.D.Store.view c.args.store.now).files 0)
    (subst (λ l. Reads l ((g.D.Store.view c.args.store.now).files 0)) names (c.in-Ok.ensures.bodies told)) (inr none))

pub returns-clause-had_root : goal.returns-clause-had_root
returns-clause-had_root g c = λ told long.
    let names = sym (ap contents c.deref.ensures.value) ∙ c.in_ok-generation.ensures.names in
    let root = subst (λ l. Reads l ((g.D.Store.view c.args.store.now).files 0)) names (c.in-Ok.ensures.bodies told) in
    IfOk-weaker c.load_generation.result _ _
    (λ r had. (λ is unfinished. unfinished_names c.in_ok-generation.generation ((g.D.Store.view c.args.store.now).files 0) root unfinished, λ finished. had))
    c.load_generation.ensures.had_root
