-- What has come of no rows, and of further ones.
use Rattle.std.proofs.Common.{◌≡◌, sym, ap, ◌∙◌, List, [], ◌∷◌, ◌++◌, IsSome, Result, Ok, arith}
use Rattle.plan_core.specs.Columns.{Rows}
use Rattle.plan_core.specs.PlainPlan.{PlainPlan, leaves}
use Rattle.plan_core.specs.PlanTyping.{Kinds, plan_kinds}
use Rattle.plan_core.specs.TypedRows.{AreOfStreams}
use Rattle.plan_laws.proofs.TypedParts.{GivesTypedRows}
use Rattle.growth_laws.specs.Growth.{Made, whole_made}
use Rattle.gathering.specs.declared.held.Held.{Held}
use Rattle.gathering.specs.declared.progress.Going.{Going}
use Rattle.result_ops.specs.declared.stop.Stop.{Stop}
use Rattle.growth_laws.specs.Chains.{IsOneStream}
use Rattle.gathering.specs.Gathered.{Gathers}
use Rattle.gathering.specs.Holding.{kept_of_chain, kept_in, came_of, IsFormFor, IsSound, Follows}
use Rattle.gathering.proofs.Fit.{comes_to, comes_follow, further_of_stream, none_of_stream, whole_of_none}
use Rattle.gathering.proofs.Sums.{summed_none}

module _ (law : GivesTypedRows) (schemas : List Kinds) (plan : PlainPlan) (is : IsOneStream plan) where
  pub none_gathers : (held : Held) → IsFormFor plan held → kept_in held ≡ kept_of_chain plan [] → IsSome (plan_kinds schemas plan) → Gathers schemas [] (record { plan = plan; came = came_of (Ok (record { held = held; taken_in = 0 })) })
  none_gathers held formed none typed =
      let of = none_of_stream schemas plan is in
      let follows : whole_made plan ([] ∷ []) ≡ Ok (record { kept = kept_in held; taken_in = 0 }) = whole_of_none plan is ∙ ap (λ form. Ok (record { kept = form; taken_in = 0 })) (sym none) in
      record {
        typed = typed;
        of_stream = of;
        comes = comes_to law schemas plan [] (Ok (record { held = held; taken_in = 0 })) is typed of (formed, ([], none, summed_none plan), omega arith) follows;
      }

  pub further_gathers : (fed rows : Rows) (old : Result Made Stop) (new : Result Going Stop) → IsSound plan new → (Follows (whole_made plan (fed ∷ [])) old → Follows (whole_made plan ((fed ++ rows) ∷ [])) (came_of new))
      → AreOfStreams schemas (leaves plan) (rows ∷ []) → Gathers schemas fed (record { plan = plan; came = old }) → Gathers schemas (fed ++ rows) (record { plan = plan; came = came_of new })
  further_gathers fed rows old new sound follows further gathers =
      let of = further_of_stream schemas (leaves plan) fed rows gathers.of_stream further in
      record {
        typed = gathers.typed;
        of_stream = of;
        comes = comes_to law schemas plan (fed ++ rows) new is gathers.typed of sound (follows (comes_follow schemas plan (whole_made plan (fed ∷ [])) old gathers.comes));
      }
