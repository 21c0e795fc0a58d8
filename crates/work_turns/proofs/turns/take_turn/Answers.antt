use Rattle.std.proofs.Common.{refl, sym, ap, ◌∙◌, subst, Bool, Option, Some}
use Rattle.outside_traits.proofs.RunLemmas.{idles_narrow}
use Rattle.estimator.specs.Bytes.{capped}
use Rattle.rewrite_core.specs.Files.{Result, files_of}
use Rattle.rewrite_core.specs.PlainRewriting.{rewriting_of}
use Rattle.growth_laws.specs.MadePlaces.{made_places}
use Rattle.growth_laws.specs.Parts.{plan_at, cuts_at}
use Rattle.growth_laws.specs.Pieces.{pieces_of}
use Rattle.catalog_core.specs.Catalogs.{table_of}
use Rattle.catalog_core.specs.Named.{HasFile, file_at, machine_at, bytes_named}
use Rattle.catalog_core.specs.Programs.{kinds_of_streams}
use Rattle.catalog_core.specs.Table.{Table}
use Rattle.executor.specs.Runs.{EndsAt, IsRunFound}
use Rattle.executor.specs.Sources.{sources}
use Rattle.executor.specs.declared.refusal.LostResult.{LostResult}
use Rattle.folder.specs.State.{table}
use Rattle.plan_choice.specs.Leaving.{leaving_out}
use Rattle.work_run.proofs.FewColumns.{few_in_rows}
use Rattle.work_run.proofs.Rooted.{fit-kept}
use Rattle.work_turns.proofs.LeftOut.{left_cuts, left_files, left_plan, left_root, left_taken}
use Rattle.work_turns.proofs.Turning.{bytes-left, ends-lost, named}
use Rattle.work_run.proofs.Worked.{FileLaws, Laws, counted, hold, refused}
use Rattle.work_turns.proofs.turns.take_turn.Goals as goal

-- ---- what running the rewriting asks

pub run-requires-clause-formed : goal.run-requires-clause-formed
run-requires-clause-formed g c =
    let q = c.requires in
    let t = table_of c.args.catalog.now in
    let root = left_root c.taken_rewritings.ensures.serves c.taken_rewritings.ensures.more t q.0 q.1 q.2 q.3 c.args.choice q.4 in
    c.serving_rewritings.ensures.formed t q.1 _ _ (rewriting_of c.args.choice.rewriting) c.know_table.ensures root.serves

pub run-requires-clause-cuts : goal.run-requires-clause-cuts
run-requires-clause-cuts g c =
    let q = c.requires in
    let t = table_of c.args.catalog.now in
    let root = left_root c.taken_rewritings.ensures.serves c.taken_rewritings.ensures.more t q.0 q.1 q.2 q.3 c.args.choice q.4 in
    c.serving_rewritings.ensures.length t q.1 _ _ (rewriting_of c.args.choice.rewriting) root.serves root.are_cuts

pub run-requires-clause-typed : goal.run-requires-clause-typed
run-requires-clause-typed g c =
    let q = c.requires in
    let t = table_of c.args.catalog.now in
    (left_root c.taken_rewritings.ensures.serves c.taken_rewritings.ensures.more t q.0 q.1 q.2 q.3 c.args.choice q.4).fit.over.typed

pub run-requires-clause-there : goal.run-requires-clause-there
run-requires-clause-there g c =
    let q = c.requires in
    let t = table_of c.args.catalog.now in
    let root = left_root c.taken_rewritings.ensures.serves c.taken_rewritings.ensures.more t q.0 q.1 q.2 q.3 c.args.choice q.4 in
    c.serving_rewritings.ensures.there t q.1 _ _ (rewriting_of c.args.choice.rewriting) c.know_table.ensures root.serves root.are_cuts

-- ---- how it ends

pub returns-in-Ok-clause-ends : goal.returns-in-Ok-clause-ends
returns-in-Ok-clause-ends g c = λ told care s left_out plan form cuts left means is.
    let file_laws : FileLaws = record {
      found = c.kept_results_of_tables.ensures.found;
      extents = c.files_of_states.ensures.extents;
      results = c.files_of_states.ensures.results;
      formed = c.serving_rewritings.ensures.formed;
      pieces = c.serving_rewritings.ensures.pieces;
      there = c.serving_rewritings.ensures.there;
      typed = c.pieces_of_typed_rewritings.ensures;
    } in
    let t = table_of c.args.catalog.now in
    let r = rewriting_of c.args.choice.rewriting in
    let root = left_root c.taken_rewritings.ensures.serves c.taken_rewritings.ensures.more t left_out plan form cuts c.args.choice is in
    let files = (g.D.Store.view c.args.store.now).files in
    let runs = c.in-Ok.ensures.outcome _ _ (hold file_laws care files s left.read t means c.know_table.ensures plan r root g.D.Store.tells told) in (
      runs.0,
      c.in-Ok.ensures.places,
      counted file_laws care files s left.read t means c.know_table.ensures plan r root (capped (bytes_named (table s) (files_of r))) (g.D.Store.counts c.args.store.now) (g.D.Store.counts c.run.new.store)
          (ap (λ (x : Table). capped (bytes_named x (files_of r))) (sym means)) runs.1,
    )

pub returns-in-Ok-clause-told : goal.returns-in-Ok-clause-told
returns-in-Ok-clause-told g c = λ left_out plan form cuts is.
    let t = table_of c.args.catalog.now in
    let r = rewriting_of c.args.choice.rewriting in
    let serve = c.taken_rewritings.ensures.serves in
    let root = left_root serve c.taken_rewritings.ensures.more t left_out plan form cuts c.args.choice is in
    record {
      used = refl;
      read = is.chosen.choice_is.read ∙ ap capped (bytes-left c.results_are_left_out.ensures.file t left_out (files_of r) (left_files c.serving_rewritings.ensures.there serve t left_out plan form cuts c.args.choice is (c.results_are_left_out.ensures.table t left_out c.know_table.ensures)));
      few = c.serving_rewritings.ensures.few t plan _ _ r c.args.choice.used.items c.know_table.ensures root.serves root.are_cuts is.chosen.choice_is.used;
      narrow = few_in_rows (kinds_of_streams t.streams) (plan_at r) c.in-Ok.outcome.rows.items root.fit.over.typed c.in-Ok.ensures.kinds;
      made = fit-kept t.streams (made_places (plan_at r) (cuts_at r) r) (c.places_of_fit_plans.ensures.made t.streams (plan_at r) (cuts_at r) r root.fit) c.in-Ok.outcome.made.items c.in-Ok.ensures.places;
    }

pub returns-in-Ok-clause-narrows : goal.returns-in-Ok-clause-narrows
returns-in-Ok-clause-narrows g c = idles_narrow (g.D.Store.view c.args.store.now) (g.D.Store.view c.run.new.store) c.in-Ok.ensures.idles

-- ---- where it ends at a file

pub returns-in-Some-clause-ends : goal.returns-in-Some-clause-ends
returns-in-Some-clause-ends g c = λ told care s left_out plan form cuts left means is.
    let laws : Laws = record {
      entries = c.kept_results_of_tables.ensures.sound;
      meaning = c.serving_rewritings.ensures.meaning;
      same_leaves = c.serving_rewritings.ensures.leaves;
      places = c.places_of_fit_plans.ensures.made;
      shaped = c.kept_forms_have_their_shape.ensures;
    } in
    let file_laws : FileLaws = record {
      found = c.kept_results_of_tables.ensures.found;
      extents = c.files_of_states.ensures.extents;
      results = c.files_of_states.ensures.results;
      formed = c.serving_rewritings.ensures.formed;
      pieces = c.serving_rewritings.ensures.pieces;
      there = c.serving_rewritings.ensures.there;
      typed = c.pieces_of_typed_rewritings.ensures;
    } in
    let t = table_of c.args.catalog.now in
    let r = rewriting_of c.args.choice.rewriting in
    let serve = c.taken_rewritings.ensures.serves in
    let more = c.taken_rewritings.ensures.more in
    let root = left_root serve more t left_out plan form cuts c.args.choice is in
    let files = (g.D.Store.view c.args.store.now).files in
    let old = g.D.Store.counts c.args.store.now in
    let new = g.D.Store.counts c.run.new.store in
    ends-lost file_laws care files s left.read t means c.know_table.ensures left_out plan form cuts r root (left_taken serve more t left_out plan form cuts c.args.choice is) old new c.in-Err.ended.why c.in-Some.lost
    (subst (λ (b : Bool). EndsAt (sources b files (file_at t) (machine_at t) (kinds_of_streams t.streams)) r old new c.in-Err.ended.why (Some c.in-Some.lost)) told
    (subst (λ (o : Option LostResult). EndsAt (sources g.D.Store.tells files (file_at t) (machine_at t) (kinds_of_streams t.streams)) r old new c.in-Err.ended.why o) c.in-Some.is c.in-Err.ensures.lost))
    (refused laws file_laws care files s left.read t means c.know_table.ensures plan form cuts r root (left_plan serve more t left_out plan form cuts c.args.choice is) (left_cuts serve more t left_out plan form cuts c.args.choice is)
    old new c.in-Err.ended.why c.in-Err.ensures.cause
    (subst (λ (b : Bool). IsRunFound (sources b files (file_at t) (machine_at t) (kinds_of_streams t.streams)) (pieces_of r) (files_of r) c.in-Err.ended.why) told (c.in-Err.ensures.found told))
    (c.in-Err.ensures.outcome _ _ (hold file_laws care files s left.read t means c.know_table.ensures plan r root g.D.Store.tells told)))

pub returns-in-Some-clause-told : goal.returns-in-Some-clause-told
returns-in-Some-clause-told g c = λ left_out plan form cuts is.
    let t = table_of c.args.catalog.now in
    let r = rewriting_of c.args.choice.rewriting in
    let files = (g.D.Store.view c.args.store.now).files in
    let loses = subst (λ (o : Option LostResult). EndsAt (sources g.D.Store.tells files (file_at t) (machine_at t) (kinds_of_streams t.streams)) r (g.D.Store.counts c.args.store.now) (g.D.Store.counts c.run.new.store) c.in-Err.ended.why o) c.in-Some.is c.in-Err.ensures.lost in
    let files_there = left_files c.serving_rewritings.ensures.there c.taken_rewritings.ensures.serves t left_out plan form cuts c.args.choice is (c.results_are_left_out.ensures.table t left_out c.know_table.ensures) in
    (named (HasFile (leaving_out left_out t)) (files_of r) loses.before loses.others (Result c.in-Some.lost.id) loses.names files_there, (loses.before, loses.others, loses.names))

-- ---- where it ends at an extent, or by something else

pub returns-clause-err : goal.returns-clause-err
returns-clause-err g c = λ told care s left_out plan form cuts left means is.
    let laws : Laws = record {
      entries = c.kept_results_of_tables.ensures.sound;
      meaning = c.serving_rewritings.ensures.meaning;
      same_leaves = c.serving_rewritings.ensures.leaves;
      places = c.places_of_fit_plans.ensures.made;
      shaped = c.kept_forms_have_their_shape.ensures;
    } in
    let file_laws : FileLaws = record {
      found = c.kept_results_of_tables.ensures.found;
      extents = c.files_of_states.ensures.extents;
      results = c.files_of_states.ensures.results;
      formed = c.serving_rewritings.ensures.formed;
      pieces = c.serving_rewritings.ensures.pieces;
      there = c.serving_rewritings.ensures.there;
      typed = c.pieces_of_typed_rewritings.ensures;
    } in
    let t = table_of c.args.catalog.now in
    let r = rewriting_of c.args.choice.rewriting in
    let serve = c.taken_rewritings.ensures.serves in
    let more = c.taken_rewritings.ensures.more in
    let root = left_root serve more t left_out plan form cuts c.args.choice is in
    let files = (g.D.Store.view c.args.store.now).files in
    refused laws file_laws care files s left.read t means c.know_table.ensures plan form cuts r root (left_plan serve more t left_out plan form cuts c.args.choice is) (left_cuts serve more t left_out plan form cuts c.args.choice is)
    (g.D.Store.counts c.args.store.now) (g.D.Store.counts c.run.new.store) c.in-Err.ended.why c.in-Err.ensures.cause
    (subst (λ (b : Bool). IsRunFound (sources b files (file_at t) (machine_at t) (kinds_of_streams t.streams)) (pieces_of r) (files_of r) c.in-Err.ended.why) told (c.in-Err.ensures.found told))
    (c.in-Err.ensures.outcome _ _ (hold file_laws care files s left.read t means c.know_table.ensures plan r root g.D.Store.tells told))
