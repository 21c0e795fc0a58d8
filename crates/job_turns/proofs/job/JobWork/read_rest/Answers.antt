use Rattle.std.proofs.Common.{refl, sym, ◌∙◌, arith}
use Rattle.std.proofs.lemmas.Result.{err_from_is_err_and}
use Rattle.outside_traits.proofs.RunLemmas.{narrows_none, narrows_on}
use Rattle.catalog_core.specs.Catalogs.{table_of}
use Rattle.executor.specs.Runs.{of_reading}
use Rattle.executor.proofs.RestSteps.{rises_on}
use Rattle.job_turns.proofs.Reading.{fewer-left, halts-then, reads-nothing, reads-then}
use Rattle.job_turns.proofs.job.JobWork.read_rest.Goals as goal

pub loop-init : goal.loop-init
loop-init g c = record {
  job = λ plan is. is;
  reads = λ plan is. reads-nothing g.D.Store.tells (table_of c.args.catalog.now) (g.D.Store.view c.args.store.now) plan c.args.self.now (g.D.Store.counts c.args.store.now) is;
  narrows = narrows_none (g.D.Store.view c.args.store.now);
  counts = record { reads = omega arith; writes = refl; removes = refl; taken = omega arith };
}

pub read_turn-requires : goal.read_turn-requires
read_turn-requires g c = (c.requires.0, c.loop.invariant.job c.requires.0 c.requires.1)

-- ---- a turn ended

pub loop-smaller : goal.loop-smaller
loop-smaller g c = fewer-left (table_of c.args.catalog.now) c.loop.self c.read_turn.new.self c.in_ok-read_turn.field-0 (sym c.is_some.ensures ∙ c.if-is_some.true) c.in_ok-read_turn.ensures.end

pub loop-preserved : goal.loop-preserved
loop-preserved g c =
    let inv = c.loop.invariant in
    let start = g.D.Store.view c.args.store.now in
    let half = g.D.Store.view c.loop.store in
    let first = g.D.Store.counts c.args.store.now in
    let mid = g.D.Store.counts c.loop.store in
    record {
      job = λ plan is. c.in_ok-read_turn.ensures.job plan (inv.job plan is);
      reads = λ plan is.
          reads-then g.D.Store.tells (table_of c.args.catalog.now) start half plan c.args.self.now c.loop.self c.read_turn.new.self first mid (g.D.Store.counts c.read_turn.new.store) (inv.reads plan is)
          (λ care s left. c.left_stores.ensures.kept care s s c.args.store.now c.loop.store inv.narrows left) (c.in_ok-read_turn.ensures.reads plan (inv.job plan is));
      narrows = narrows_on start half (g.D.Store.view c.read_turn.new.store) inv.narrows c.in_ok-read_turn.ensures.narrows;
      counts = rises_on first mid (g.D.Store.counts c.read_turn.new.store) inv.counts c.in_ok-read_turn.ensures.counts;
    }

-- ---- one was refused

pub returns-in_err-read_turn-clause-job : goal.returns-in_err-read_turn-clause-job
returns-in_err-read_turn-clause-job g c = λ plan is. c.in_err-read_turn.ensures.job plan (c.loop.invariant.job plan is)

pub returns-in_err-read_turn-clause-halts : goal.returns-in_err-read_turn-clause-halts
returns-in_err-read_turn-clause-halts g c = λ plan is.
    let inv = c.loop.invariant in
    let p = err_from_is_err_and c.from_residual.result c.from_residual.ensures.1 in
    rw (p.1, p.2)
    (halts-then g.D.Store.tells (table_of c.args.catalog.now) (g.D.Store.view c.args.store.now) (g.D.Store.view c.loop.store) plan c.args.self.now c.loop.self c.read_turn.new.self (g.D.Store.counts c.args.store.now)
    (g.D.Store.counts c.loop.store) (g.D.Store.counts c.read_turn.new.store) (inv.reads plan is) (λ care s left. c.left_stores.ensures.kept care s s c.args.store.now c.loop.store inv.narrows left) inv.narrows.same inv.counts.taken
    (of_reading c.in_err-read_turn.field-0.0) (c.in_err-read_turn.ensures.halts plan (inv.job plan is)))

-- ---- all are read

pub returns-clause-job : goal.returns-clause-job
returns-clause-job g c = λ plan is. c.in_ok-read_turn.ensures.job plan (c.loop.invariant.job plan is)

pub returns-clause-reads : goal.returns-clause-reads
returns-clause-reads g c = λ plan is.
    let inv = c.loop.invariant in
    reads-then g.D.Store.tells (table_of c.args.catalog.now) (g.D.Store.view c.args.store.now) (g.D.Store.view c.loop.store) plan c.args.self.now c.loop.self c.read_turn.new.self (g.D.Store.counts c.args.store.now)
    (g.D.Store.counts c.loop.store) (g.D.Store.counts c.read_turn.new.store) (inv.reads plan is) (λ care s left. c.left_stores.ensures.kept care s s c.args.store.now c.loop.store inv.narrows left)
    (c.in_ok-read_turn.ensures.reads plan (inv.job plan is))
