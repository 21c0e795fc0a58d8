use Rattle.std.proofs.Common.{refl}
use Rattle.std.proofs.lemmas.Option.{slice_get_read}
use Rattle.job_table.proofs.table.JobTable.at.Goals as goal

pub returns : goal.returns
returns g c = (c.index.result.now, slice_get_read c.args.self.now.jobs.items _ c.args.place c.index.result.now refl c.requires c.index.ensures, refl)
