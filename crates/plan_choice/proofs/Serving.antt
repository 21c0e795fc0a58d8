-- A rewriting over a table's kept results that others may have joined.
use Rattle.std.proofs.Common.{}
use Rattle.plan_core.specs.PlainPlan.{PlainPlan}
use Rattle.estimator.specs.Cuts.{Cuts}
use Rattle.rewrite_core.specs.Entries.{Entries, AreSound, entry_of}
use Rattle.rewrite_core.specs.IsRewriting.{IsRewriting, among, whichever}
use Rattle.rewrite_core.specs.PlainRewriting.{PlainRewriting}
use Rattle.growth_laws.proofs.NamedResults.{renamed}
use Rattle.plan_choice.specs.Taken.{kept_in}

module _ (entries : Entries) (plan : PlainPlan) (cuts : Cuts) (r : PlainRewriting) where
  -- it names the entries that one over them names
  pub among_kept : IsRewriting (among entries) plan cuts r → IsRewriting (kept_in entries) plan cuts r
  among_kept is = renamed (among entries) (kept_in entries) (λ plan cuts hit named. named) (λ plan cuts hit named. named.candidate) r plan cuts is

  pub kept_formed : AreSound entries → IsRewriting (kept_in entries) plan cuts r → IsRewriting whichever plan cuts r
  kept_formed sound is =
      renamed (kept_in entries) whichever (λ plan cuts hit named. named.here) (λ plan cuts hit named. (named.other, sound.intervals (entry_of plan hit) named.kept)) r plan cuts is
