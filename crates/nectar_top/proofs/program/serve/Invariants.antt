use Rattle.nectar_top.specs.Outside.{shown, faults}
use Rattle.nectar_top.proofs.TurnLemmas.{ReadSoFar}
use Rattle.nectar_top.proofs.program.serve.Given as goal

abbrev pub invariant-loop : goal.invariant-loop
invariant-loop g l =
    ReadSoFar g.row.D.Denot g.D.Store.view g.D.Store.tells l.fn.server.reader l.server.reader l.fn.server.session l.server.session l.fn.server.summary l.server.summary (g.D.Store.view l.initial.store) (g.D.Store.view l.store)
    (shown l.quiet (g.S.Source.left l.initial.source) (g.K.Sink.written l.initial.sink) (g.D.Store.counts l.initial.store)) (shown l.quiet (g.S.Source.left l.source) (g.K.Sink.written l.sink) (g.D.Store.counts l.store))
    (faults (g.S.Source.faults l.initial.source) (g.K.Sink.faults l.initial.sink) (g.D.Store.counts l.initial.store)) (faults (g.S.Source.faults l.source) (g.K.Sink.faults l.sink) (g.D.Store.counts l.store)) l.taken l.counter
