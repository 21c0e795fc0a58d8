-- The job that is removed is the one at its place.
use Rattle.std.proofs.Common.{refl, sym}
use Rattle.std.specs.Prelude.{bytes_eq}
use Rattle.std.proofs.lemmas.List.Quantifiers.{position-Some}
use Rattle.std.proofs.lemmas.Option.{slice_get_read}
use Rattle.job_table.proofs.table.JobTable.give.Goals as goal

pub returns-clause-some : goal.returns-clause-some
returns-clause-some g c =
    let jobs = c.args.self.now.jobs.items in
    let place = sym c.in_ok-at.ensures in
    let there = position-Some (λ job. bytes_eq job.name c.args.name.now) jobs c.in_ok-at.at c.remove.result place in
    record {
      at = c.in_ok-at.at;
      taken = c.remove.result;
      place = place;
      stood = slice_get_read jobs _ c.in_ok-at.at c.remove.result refl there.0 c.remove.ensures.value;
      is = refl;
      stand = c.remove.ensures.items;
    }
