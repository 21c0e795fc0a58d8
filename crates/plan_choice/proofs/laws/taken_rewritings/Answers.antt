use Rattle.std.proofs.Common.{[]}
use Rattle.rewrite_core.specs.Entries.{entry_of}
use Rattle.growth_laws.proofs.NamedResults.{renamed}
use Rattle.cache_index.specs.Asked.{asked}
use Rattle.plan_choice.specs.Leaving.{leaving_out}
use Rattle.plan_choice.specs.Taken.{kept_in}
use Rattle.plan_choice.proofs.Serving.{among_kept}
use Rattle.plan_choice.proofs.laws.taken_rewritings.Goals as goal

pub returns-clause-serves : goal.returns-clause-serves
returns-clause-serves c = λ t plan normal cuts r taken. record { normal = taken.normal; over = among_kept (asked [] t.entries) normal cuts r taken.least.is }

pub returns-clause-more : goal.returns-clause-more
returns-clause-more c = λ t left_out plan normal cuts r serves.
    let more = c.results_are_left_out.ensures.more t left_out in
    record {
      normal = serves.normal;
      over = renamed (kept_in (asked [] (leaving_out left_out t).entries)) (kept_in (asked [] t.entries))
          (λ plan cuts hit named. record { here = named.here; kept = more (entry_of plan hit) named.kept })
          (λ plan cuts hit named. record { kept = more (entry_of plan hit) named.kept; other = named.other; before = named.before }) r normal cuts serves.over;
    }
