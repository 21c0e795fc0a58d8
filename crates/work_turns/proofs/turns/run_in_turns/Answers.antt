use Rattle.std.proofs.Common.{refl, sym, ap, ◌∙◌, subst, ◌<◌, List, [], ◌++◌, ◌∷◌, length, arith}
use Rattle.std.proofs.lemmas.Result.{err_from_is_err_and}
use Rattle.outside_traits.proofs.RunLemmas.{narrows_none, narrows_on}
use Rattle.plan_core.specs.PlainPlan.{leaves}
use Rattle.rewrite_core.specs.PlainRewriting.{rewriting_of}
use Rattle.catalog_core.specs.Catalogs.{table_of}
use Rattle.catalog_core.specs.Programs.{AreCuts}
use Rattle.entry_table.specs.Ids.{AreIdsOf, without}
use Rattle.executor.proofs.RestSteps.{rises_on}
use Rattle.plan_choice.specs.Leaving.{leaving_out}
use Rattle.work_turns.specs.Turns.{EndsTurn, IsChosenOf, IsTold}
use Rattle.work_turns.proofs.LeftOut.{chosen_again, left_plan, left_root, left_taken}
use Rattle.work_turns.proofs.TurnLists.{fewer}
use Rattle.work_turns.proofs.TurnSteps.{Turned, last-is, last-read, turned-more, turned-none}
use Rattle.work_turns.proofs.TurnsOver.{AreOver, has-cause, over-more, over-none, took-in-turns}
use Rattle.work_turns.proofs.turns.run_in_turns.Goals as goal

pub loop-lost-init : goal.loop-lost-init
loop-lost-init g c = record {
  narrows = narrows_none (g.D.Store.view c.args.store.now);
  counts = record { reads = omega arith; writes = refl; removes = refl; taken = omega arith };
  no_fault = refl;
  chosen = λ plan is. subst (λ (ids : List _). IsChosenOf (table_of c.args.catalog.now) ids plan c.args.normal.now.plan c.args.cuts.now c.args.choice) (sym c.new-lost.ensures.items) is;
  over = λ plan is. over-none g.D.Store.tells (table_of c.args.catalog.now) plan c.args.normal.now.plan c.args.cuts.now c.new-lost.result.items c.new-lost.ensures.items (g.D.Store.counts c.args.store.now);
  turned = λ told care s plan left means is. turned-none care s plan c.args.normal.now.plan c.args.cuts.now c.new-lost.result.items c.new-lost.ensures.items (g.D.Store.counts c.args.store.now);
}

pub take_turn-requires : goal.take_turn-requires
take_turn-requires g c =
    let q = c.requires in
    (c.loop-lost.lost.items, q.0, c.args.normal.now.plan, c.args.cuts.now, c.loop-lost.invariant.chosen q.0 q.1)

-- ---- a result was lost

pub choose_again-requires : goal.choose_again-requires
choose_again-requires g c =
    let q = c.requires in
    let t = table_of c.args.catalog.now in
    let is = c.loop-lost.invariant.chosen q.0 q.1 in
    let serve = c.taken_rewritings.ensures.serves in
    let root = left_root serve c.taken_rewritings.ensures.more t c.loop-lost.lost.items q.0 c.args.normal.now.plan c.args.cuts.now c.loop-lost.next is in
    let plan = left_plan serve c.taken_rewritings.ensures.more t c.loop-lost.lost.items q.0 c.args.normal.now.plan c.args.cuts.now c.loop-lost.next is in
    let same = ap leaves (sym plan) ∙ c.serving_rewritings.ensures.leaves t q.0 _ _ _ root.serves in
    subst (λ (ls : List _). AreCuts t.streams ls c.args.cuts.now) (sym same) is.chosen.are_cuts

pub loop-lost-smaller : goal.loop-lost-smaller
loop-lost-smaller g c =
    let q = c.requires in
    let t = table_of c.args.catalog.now in
    let lost = c.loop-lost.lost.items in
    let told = subst (IsTold t lost c.loop-lost.next) c.in-Lost.is (c.in_ok-end.ensures.told lost q.0 c.args.normal.now.plan c.args.cuts.now (c.loop-lost.invariant.chosen q.0 q.1)) in
    subst (λ (ids : List _). length (without ids t.entries) < length (without lost t.entries)) (sym c.in_ok-next-in-Lost.ensures.lost) (fewer lost c.in-Lost.found.id t.entries told.0)

pub loop-lost-preserved : goal.loop-lost-preserved
loop-lost-preserved g c =
    let inv = c.loop-lost.invariant in
    let t = table_of c.args.catalog.now in
    let form = c.args.normal.now.plan in
    let cuts = c.args.cuts.now in
    let lost = c.loop-lost.lost.items in
    let more = lost ++ c.in-Lost.found.id ∷ [] in
    let next = c.in_ok-next-in-Lost.next in
    let old = g.D.Store.counts c.args.store.now in
    let half = g.D.Store.counts c.loop-lost.store in
    let new = g.D.Store.counts c.take_turn.new.store in
    record {
      narrows = narrows_on (g.D.Store.view c.args.store.now) (g.D.Store.view c.loop-lost.store) (g.D.Store.view c.take_turn.new.store) inv.narrows c.take_turn.ensures.narrows;
      counts = rises_on old half new inv.counts c.take_turn.ensures.counts;
      no_fault = c.in_ok-end.ensures.no_fault ∙ inv.no_fault;
      chosen = λ plan is.
          subst (λ (ids : List _). IsChosenOf t ids plan form cuts next) (sym c.in_ok-next-in-Lost.ensures.lost)
          (chosen_again c.taken_rewritings.ensures.serves t lost plan form cuts c.loop-lost.next (inv.chosen plan is) more next (c.in_ok-next-in-Lost.ensures.chosen plan) c.in_ok-next-in-Lost.ensures.form);
      over = λ plan is.
          let chosen = inv.chosen plan is in
          let named = subst (IsTold t lost c.loop-lost.next) c.in-Lost.is (c.in_ok-end.ensures.told lost plan form cuts chosen) in
          subst (λ (ids : List _). AreOver g.D.Store.tells t plan form cuts ids old new) (sym c.in_ok-next-in-Lost.ensures.lost)
          (over-more g.D.Store.tells t plan form cuts lost old half new (inv.over plan is) (rewriting_of c.loop-lost.next.rewriting)
          (left_taken c.taken_rewritings.ensures.serves c.taken_rewritings.ensures.more t lost plan form cuts c.loop-lost.next chosen) c.in-Lost.found.id named.1 c.take_turn.ensures.most);
      turned = λ told care s plan left means is.
          let now = c.left_stores.ensures.kept care s s c.args.store.now c.loop-lost.store inv.narrows left in
          let ends = subst (EndsTurn care s lost plan form cuts (rewriting_of c.loop-lost.next.rewriting) half new) c.in-Lost.is (c.in_ok-end.ensures.ends told care s lost plan form cuts now means (inv.chosen plan is)) in
          subst (λ (ids : List _). Turned care s plan form cuts ids c.saturating_add-ended.result old new) (sym c.in_ok-next-in-Lost.ensures.lost)
          (turned-more care s plan form cuts lost c.loop-lost.ended old half new (inv.turned told care s plan left means is) (rewriting_of c.loop-lost.next.rewriting) c.in-Lost.found c.saturating_add-ended.result
          c.saturating_add-ended.ensures ends);
    }

pub returns-in_err-end-clause-err : goal.returns-in_err-end-clause-err
returns-in_err-end-clause-err g c = λ told care s plan left means is.
    let p = err_from_is_err_and c.from_residual.result c.from_residual.ensures.1 in
    let inv = c.loop-lost.invariant in
    rw (p.1, p.2)
    (c.in_err-end.ensures.err told care s c.loop-lost.lost.items plan c.args.normal.now.plan c.args.cuts.now (c.left_stores.ensures.kept care s s c.args.store.now c.loop-lost.store inv.narrows left) means (inv.chosen plan is))

pub returns-in_err-end-clause-cause : goal.returns-in_err-end-clause-cause
returns-in_err-end-clause-cause g c = λ plan is.
    let p = err_from_is_err_and c.from_residual.result c.from_residual.ensures.1 in
    let inv = c.loop-lost.invariant in
    let t = table_of c.args.catalog.now in
    let form = c.args.normal.now.plan in
    let cuts = c.args.cuts.now in
    let lost = c.loop-lost.lost.items in
    let old = g.D.Store.counts c.args.store.now in
    let half = g.D.Store.counts c.loop-lost.store in
    let new = g.D.Store.counts c.take_turn.new.store in
    rw (p.1, p.2)
    (has-cause g.D.Store.tells t plan form cuts lost old half new (inv.over plan is) (rewriting_of c.loop-lost.next.rewriting)
    (left_taken c.taken_rewritings.ensures.serves c.taken_rewritings.ensures.more t lost plan form cuts c.loop-lost.next (inv.chosen plan is)) inv.no_fault inv.counts.taken
    (g.D.Store.view c.args.store.now).files (g.D.Store.view c.loop-lost.store).files inv.narrows.same _ c.in_err-end.ensures.cause c.in_err-end.ensures.extents c.in_err-end.ensures.found)

pub returns-in_err-end-clause-most : goal.returns-in_err-end-clause-most
returns-in_err-end-clause-most g c = λ told plan is.
    let inv = c.loop-lost.invariant in
    let t = table_of c.args.catalog.now in
    let form = c.args.normal.now.plan in
    let cuts = c.args.cuts.now in
    let lost = c.loop-lost.lost.items in
    took-in-turns g.D.Store.tells t plan form cuts lost (g.D.Store.counts c.args.store.now) (g.D.Store.counts c.loop-lost.store) (g.D.Store.counts c.take_turn.new.store) (inv.over plan is) (rewriting_of c.loop-lost.next.rewriting)
    (left_taken c.taken_rewritings.ensures.serves c.taken_rewritings.ensures.more t lost plan form cuts c.loop-lost.next (inv.chosen plan is)) told (c.take_turn.ensures.most told)

pub returns-in_err-end-clause-narrows : goal.returns-in_err-end-clause-narrows
returns-in_err-end-clause-narrows g c =
    narrows_on (g.D.Store.view c.args.store.now) (g.D.Store.view c.loop-lost.store) (g.D.Store.view c.take_turn.new.store) c.loop-lost.invariant.narrows c.take_turn.ensures.narrows

pub returns-in_err-end-clause-counts : goal.returns-in_err-end-clause-counts
returns-in_err-end-clause-counts g c =
    rises_on (g.D.Store.counts c.args.store.now) (g.D.Store.counts c.loop-lost.store) (g.D.Store.counts c.take_turn.new.store) c.loop-lost.invariant.counts c.take_turn.ensures.counts

pub returns-in_err-next-in-Lost-clause-err : goal.returns-in_err-next-in-Lost-clause-err
returns-in_err-next-in-Lost-clause-err g c = λ told care s plan left means is. (let p = err_from_is_err_and c.from_residual-in_err-next-in-Lost.result c.from_residual-in_err-next-in-Lost.ensures.1 in rw (p.1, p.2) tt)

pub returns-in_err-next-in-Lost-clause-cause : goal.returns-in_err-next-in-Lost-clause-cause
returns-in_err-next-in-Lost-clause-cause g c = λ plan is.
    let p = err_from_is_err_and c.from_residual-in_err-next-in-Lost.result c.from_residual-in_err-next-in-Lost.ensures.1 in
    let inv = c.loop-lost.invariant in
    let t = table_of c.args.catalog.now in
    let form = c.args.normal.now.plan in
    let cuts = c.args.cuts.now in
    let lost = c.loop-lost.lost.items in
    let old = g.D.Store.counts c.args.store.now in
    let half = g.D.Store.counts c.loop-lost.store in
    let new = g.D.Store.counts c.take_turn.new.store in
    rw (p.1, p.2)
    (has-cause g.D.Store.tells t plan form cuts lost old half new (inv.over plan is) (rewriting_of c.loop-lost.next.rewriting)
    (left_taken c.taken_rewritings.ensures.serves c.taken_rewritings.ensures.more t lost plan form cuts c.loop-lost.next (inv.chosen plan is)) inv.no_fault inv.counts.taken
    (g.D.Store.view c.args.store.now).files (g.D.Store.view c.loop-lost.store).files inv.narrows.same _ c.in_ok-end.ensures.no_fault tt (λ told. tt))

pub returns-in_err-next-in-Lost-clause-most : goal.returns-in_err-next-in-Lost-clause-most
returns-in_err-next-in-Lost-clause-most g c = λ told plan is.
    let inv = c.loop-lost.invariant in
    let t = table_of c.args.catalog.now in
    let form = c.args.normal.now.plan in
    let cuts = c.args.cuts.now in
    let lost = c.loop-lost.lost.items in
    took-in-turns g.D.Store.tells t plan form cuts lost (g.D.Store.counts c.args.store.now) (g.D.Store.counts c.loop-lost.store) (g.D.Store.counts c.take_turn.new.store) (inv.over plan is) (rewriting_of c.loop-lost.next.rewriting)
    (left_taken c.taken_rewritings.ensures.serves c.taken_rewritings.ensures.more t lost plan form cuts c.loop-lost.next (inv.chosen plan is)) told (c.take_turn.ensures.most told)

pub returns-in_err-next-in-Lost-clause-narrows : goal.returns-in_err-next-in-Lost-clause-narrows
returns-in_err-next-in-Lost-clause-narrows g c =
    narrows_on (g.D.Store.view c.args.store.now) (g.D.Store.view c.loop-lost.store) (g.D.Store.view c.take_turn.new.store) c.loop-lost.invariant.narrows c.take_turn.ensures.narrows

pub returns-in_err-next-in-Lost-clause-counts : goal.returns-in_err-next-in-Lost-clause-counts
returns-in_err-next-in-Lost-clause-counts g c =
    rises_on (g.D.Store.counts c.args.store.now) (g.D.Store.counts c.loop-lost.store) (g.D.Store.counts c.take_turn.new.store) c.loop-lost.invariant.counts c.take_turn.ensures.counts

-- ---- the last turn

pub returns-in-Last-clause-ok : goal.returns-in-Last-clause-ok
returns-in-Last-clause-ok g c = λ told care s plan left means is.
    let inv = c.loop-lost.invariant in
    let t = table_of c.args.catalog.now in
    let form = c.args.normal.now.plan in
    let cuts = c.args.cuts.now in
    let lost = c.loop-lost.lost.items in
    let next = c.loop-lost.next in
    let old = g.D.Store.counts c.args.store.now in
    let half = g.D.Store.counts c.loop-lost.store in
    let new = g.D.Store.counts c.take_turn.new.store in
    let now = c.left_stores.ensures.kept care s s c.args.store.now c.loop-lost.store inv.narrows left in
    let chosen = inv.chosen plan is in
    let ends = subst (EndsTurn care s lost plan form cuts (rewriting_of next.rewriting) half new) c.in-Last.is (c.in_ok-end.ensures.ends told care s lost plan form cuts now means chosen) in
    let of_choice = subst (IsTold t lost next) c.in-Last.is (c.in_ok-end.ensures.told lost plan form cuts chosen) in
    last-is care s plan form cuts lost c.loop-lost.ended old half new (inv.turned told care s plan left means is) t means next chosen
    (left_taken c.taken_rewritings.ensures.serves c.taken_rewritings.ensures.more t lost plan form cuts next chosen) c.in-Last.done c.saturating_add-read.result c.saturating_add-read.ensures of_choice ends _ refl refl refl

pub returns-in-Last-clause-taken : goal.returns-in-Last-clause-taken
returns-in-Last-clause-taken g c = λ told care s left means.
    let q = c.requires in
    let plan = q.0 in
    let inv = c.loop-lost.invariant in
    let t = table_of c.args.catalog.now in
    let form = c.args.normal.now.plan in
    let cuts = c.args.cuts.now in
    let lost = c.loop-lost.lost.items in
    let next = c.loop-lost.next in
    let old = g.D.Store.counts c.args.store.now in
    let half = g.D.Store.counts c.loop-lost.store in
    let new = g.D.Store.counts c.take_turn.new.store in
    let now = c.left_stores.ensures.kept care s s c.args.store.now c.loop-lost.store inv.narrows left in
    let chosen = inv.chosen plan q.1 in
    let ends = subst (EndsTurn care s lost plan form cuts (rewriting_of next.rewriting) half new) c.in-Last.is (c.in_ok-end.ensures.ends told care s lost plan form cuts now means chosen) in
    let of_choice = subst (IsTold t lost next) c.in-Last.is (c.in_ok-end.ensures.told lost plan form cuts chosen) in
    last-read care s plan form cuts lost c.loop-lost.ended old half new (inv.turned told care s plan left means q.1) t means next chosen
    (left_taken c.taken_rewritings.ensures.serves c.taken_rewritings.ensures.more t lost plan form cuts next chosen) c.in-Last.done c.saturating_add-read.result c.saturating_add-read.ensures of_choice ends

pub returns-in-Last-clause-most : goal.returns-in-Last-clause-most
returns-in-Last-clause-most g c = λ told plan is.
    let inv = c.loop-lost.invariant in
    let t = table_of c.args.catalog.now in
    let form = c.args.normal.now.plan in
    let cuts = c.args.cuts.now in
    let lost = c.loop-lost.lost.items in
    took-in-turns g.D.Store.tells t plan form cuts lost (g.D.Store.counts c.args.store.now) (g.D.Store.counts c.loop-lost.store) (g.D.Store.counts c.take_turn.new.store) (inv.over plan is) (rewriting_of c.loop-lost.next.rewriting)
    (left_taken c.taken_rewritings.ensures.serves c.taken_rewritings.ensures.more t lost plan form cuts c.loop-lost.next (inv.chosen plan is)) told (c.take_turn.ensures.most told)

pub returns-in-Last-clause-no_fault : goal.returns-in-Last-clause-no_fault
returns-in-Last-clause-no_fault g c = c.in_ok-end.ensures.no_fault ∙ c.loop-lost.invariant.no_fault

pub returns-in-Last-clause-narrows : goal.returns-in-Last-clause-narrows
returns-in-Last-clause-narrows g c =
    narrows_on (g.D.Store.view c.args.store.now) (g.D.Store.view c.loop-lost.store) (g.D.Store.view c.take_turn.new.store) c.loop-lost.invariant.narrows c.take_turn.ensures.narrows

pub returns-in-Last-clause-counts : goal.returns-in-Last-clause-counts
returns-in-Last-clause-counts g c =
    rises_on (g.D.Store.counts c.args.store.now) (g.D.Store.counts c.loop-lost.store) (g.D.Store.counts c.take_turn.new.store) c.loop-lost.invariant.counts c.take_turn.ensures.counts

pub returns-in-Last-clause-told : goal.returns-in-Last-clause-told
returns-in-Last-clause-told g c =
    let q = c.requires in
    let t = table_of c.args.catalog.now in
    let form = c.args.normal.now.plan in
    let cuts = c.args.cuts.now in
    let lost = c.loop-lost.lost.items in
    let next = c.loop-lost.next in
    let is = c.loop-lost.invariant.chosen q.0 q.1 in
    let of_choice = subst (IsTold t lost next) c.in-Last.is (c.in_ok-end.ensures.told lost q.0 form cuts is) in
    let ids = c.serving_rewritings.ensures.ids (leaving_out lost t) q.0 is.chosen.choice_is.normal cuts (rewriting_of next.rewriting) next.used.items (c.results_are_left_out.ensures.table t lost c.know_table.ensures)
    (c.taken_rewritings.ensures.serves (leaving_out lost t) q.0 is.chosen.choice_is.normal cuts (rewriting_of next.rewriting) is.chosen.choice_is.taken) is.chosen.are_cuts is.chosen.choice_is.used in
    record {
      used = subst (λ u. AreIdsOf (without lost t.entries) u.items) (sym of_choice.used) ids;
      few = of_choice.few;
      narrow = of_choice.narrow;
      made = of_choice.made;
    }
