use Rattle.std.proofs.Common.{◌-◌, length}
use Rattle.nectar_top.proofs.TakingLemmas.{TakenSoFar}
use Rattle.nectar_top.proofs.server.Server.take.Given as goal

abbrev pub invariant-loop-at : goal.invariant-loop-at
invariant-loop-at g l =
    TakenSoFar g.row.D.Denot g.D.Store.view g.D.Store.tells l.quiet l.fn.self.reader l.server.reader l.fn.self.session l.server.session l.fn.self.summary l.server.summary (g.K.Sink.written l.initial.sink) (g.K.Sink.written l.sink) (g.D.Store.view l.initial.store) (g.D.Store.view l.store)
    (g.K.Sink.faults l.initial.sink) (g.K.Sink.faults l.sink) (g.D.Store.counts l.initial.store) (g.D.Store.counts l.store) l.piece l.at

abbrev pub decreases-loop-at : goal.decreases-loop-at
decreases-loop-at g l = length l.piece - l.at
