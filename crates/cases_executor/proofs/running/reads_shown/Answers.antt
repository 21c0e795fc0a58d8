use Rattle.cases_executor.proofs.running.reads_shown.Goals as goal

pub reads-bytes-requires-clause-formed : goal.reads-bytes-requires-clause-formed
reads-bytes-requires-clause-formed c = c.requires.formed

pub reads-bytes-requires-clause-cuts : goal.reads-bytes-requires-clause-cuts
reads-bytes-requires-clause-cuts c = c.requires.cuts
