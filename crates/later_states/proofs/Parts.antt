-- The parts of a rewriting's pieces stay these over further streams.
use Rattle.std.proofs.Common.{◌≡◌, sym, subst, List, [], ◌∷◌, ◌++◌, Option, None, Some}
use Rattle.std.specs.Option.{IfSome}
use Rattle.plan_core.specs.PlainPlan.{PlainPlan, leaves}
use Rattle.plan_core.specs.PlanTyping.{Kinds}
use Rattle.growth_laws.specs.Chains.{IsOneStream}
use Rattle.growth_laws.specs.Pieces.{Piece, Entry, Gathered}
use Rattle.executor.specs.Pieces.{HasTyping}
use Rattle.executor.specs.Loading.{IsFitLoad}
use Rattle.gathering.specs.Gathered as so_far
use Rattle.gathering.specs.Gathered.{Gathers}
use Rattle.executor.specs.Progress.{Loaded, IsStreamPart, IsPartOf, ArePartsOf}
use Rattle.executor.specs.declared.part.Part.{Part}
use Rattle.executor.specs.declared.part.Part.TheVariants as part
use Rattle.later_states.proofs.Typed.{typing-still, load-still, gathers-still}

-- what was gathered by a part stays gathered
module _ (schemas others : List Kinds) where
  pub part-gathers : (plan : PlainPlan) (gathering : so_far.Gathered) (stream : _) (fed : _) → IsStreamPart schemas plan gathering stream → Gathers schemas fed gathering → Gathers (schemas ++ others) fed gathering
  part-gathers plan gathering stream fed is =
      gathers-still schemas others gathering stream fed (subst IsOneStream (sym is.of_plan) is.one) (subst (HasTyping schemas) (sym is.of_plan) is.typed)
      (subst (λ (p : PlainPlan). leaves p ≡ stream ∷ []) (sym is.of_plan) is.of_stream)

  loaded-still : (plan : PlainPlan) (loaded : Option Loaded) → HasTyping schemas plan → IfSome loaded (IsFitLoad schemas plan) → IfSome loaded (IsFitLoad (schemas ++ others) plan)
  loaded-still plan None typed is = tt
  loaded-still plan (Some loaded) typed is = load-still schemas others plan loaded typed is

  part-still : (piece : Piece) (p : Part) → IsPartOf schemas piece p → IsPartOf (schemas ++ others) piece p
  part-still (Entry plan id) (part.Entry boxed id' loaded) is =
      (is.0, is.1, record { typed = typing-still schemas others plan is.2.typed; fit = loaded-still plan loaded is.2.typed is.2.fit })
  part-still (Gathered plan cuts) (part.Gathered gathering stream next end) is = record {
    typed = typing-still schemas others plan is.typed;
    one = is.one;
    of_plan = is.of_plan;
    of_stream = is.of_stream;
    fed = is.fed;
    gathers = part-gathers plan gathering stream is.fed is is.gathers;
  }
  part-still (Entry plan id) (part.Gathered gathering stream next end) is = absurd is
  part-still (Gathered plan cuts) (part.Entry boxed id loaded) is = absurd is

  pub parts-still : (pieces : List Piece) (parts : List Part) → ArePartsOf schemas pieces parts → ArePartsOf (schemas ++ others) pieces parts
  parts-still [] [] are = tt
  parts-still [] (p ∷ parts) are = absurd are
  parts-still (piece ∷ pieces) [] are = absurd are
  parts-still (piece ∷ pieces) (p ∷ parts) are = (part-still piece p are.0, parts-still pieces parts are.1)
