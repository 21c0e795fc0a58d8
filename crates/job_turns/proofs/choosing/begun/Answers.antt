use Rattle.std.proofs.Common.{refl}
use Rattle.growth_laws.specs.Parts.{cuts_at, plan_at}
use Rattle.rewrite_core.specs.PlainRewriting.{rewriting_of}
use Rattle.catalog_core.specs.Catalogs.{table_of}
use Rattle.catalog_core.specs.Programs.{kinds_of_streams}
use Rattle.folder.specs.Files.{results_in}
use Rattle.folder.specs.State.{kinds_in, extents_in}
use Rattle.work_turns.proofs.LeftOut.{left_root}
use Rattle.job_turns.proofs.Chosen.{fresh-work}
use Rattle.job_turns.proofs.choosing.begun.Goals as goal

pub prepare-requires-clause-formed : goal.prepare-requires-clause-formed
prepare-requires-clause-formed c =
    let q = c.requires.chosen in
    let t = table_of c.args.catalog.now in
    let r = rewriting_of c.args.choice.rewriting in
    let root = left_root c.taken_rewritings.ensures.serves c.taken_rewritings.ensures.more t q.0 q.1 q.2 c.args.program.cuts c.args.choice q.3 in
    (cuts_at r, c.serving_rewritings.ensures.formed t q.1 (plan_at r) (cuts_at r) r c.know_table.ensures root.serves)

pub prepare-requires-clause-typed : goal.prepare-requires-clause-typed
prepare-requires-clause-typed c =
    let q = c.requires.chosen in
    let t = table_of c.args.catalog.now in
    (kinds_of_streams t.streams, (left_root c.taken_rewritings.ensures.serves c.taken_rewritings.ensures.more t q.0 q.1 q.2 c.args.program.cuts c.args.choice q.3).fit.over.typed)

pub returns-clause-fresh : goal.returns-clause-fresh
returns-clause-fresh c = λ left_out plan form is.
    let job = c.in_ok-job.ensures in
    fresh-work c.taken_rewritings.ensures.serves c.taken_rewritings.ensures.more (table_of c.args.catalog.now) left_out plan form c.args.program c.args.choice is c.requires.program _ refl job.rewriting refl refl job.left job.taken
    job.parts (λ s. job.read (kinds_in s.streams) (extents_in s.streams) (results_in s))
