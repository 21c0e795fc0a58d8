-- What a rewriting comes to, of what was made, is what finishing gives.
use Rattle.std.proofs.Common.{◌≡◌, refl, sym, ap, ◌∙◌, subst, ℕ, ◌+◌, ◌<◌, ◌≤◌, List, [], ◌∷◌, ◌++◌, Ok, Err, Result, IfOk, OnOk, arith}
use Rattle.std.specs.List.{AllByRecursion}
use Rattle.rows_core.specs.declared.overflow.Overflow.{Overflow}
use Rattle.scalar_ops.specs.Meaning.{overflow}
use Rattle.plan_core.specs.MachineTime.{machine_time}
use Rattle.plan_core.specs.PlanMeaning.{plan_meaning}
use Rattle.rewrite_core.specs.PlainRewriting.{PlainRewriting}
use Rattle.growth_laws.specs.Growth as laws
use Rattle.growth_laws.specs.Growth.{machine_of, rows_of_made}
use Rattle.growth_laws.specs.KeptResults.{KeptResults}
use Rattle.growth_laws.specs.Lists.{Extents, plan_lists}
use Rattle.growth_laws.specs.MadePlaces.{place, made_places}
use Rattle.growth_laws.specs.Parts.{plan_at, cuts_at}
use Rattle.growth_laws.specs.Trees.{made_by}
use Rattle.result_ops.specs.Bounds.{limit}
use Rattle.result_ops.specs.Steps.{made_of, Makes}
use Rattle.result_ops.specs.declared.made.Made.{Made}
use Rattle.result_ops.specs.declared.refusal.MakeRefusal.{MakeRefusal}
use Rattle.result_ops.specs.declared.refusal.MakeRefusal.TheVariants as refusal
use Rattle.executor.specs.Passing.{Passes, IsWithin}
use Rattle.executor.specs.Recording.{recorded_below, AreMade, AreRecorded}
use Rattle.executor.specs.declared.recording.MadePlace.{MadePlace}
use Rattle.executor.specs.Outcomes.{IsMadeAt, IsAnyMadeAt, IsResultAt, ComesTo, AreSound, GivesRows, GivesOutcome, Finishes}
use Rattle.executor.specs.declared.outcome.Outcome.{Outcome}
use Rattle.executor.proofs.MadeResults.{kept_each}

module _ (extents : Extents) (results : KeptResults) (r : PlainRewriting) where
  abbrev Given : Result laws.Made Overflow → Type 0
  Given given = made_by extents results r ≡ given

  -- where nothing was made
  pub refused : (e : MakeRefusal) → (AreSound extents results r → rows_of_made (made_by extents results r) ≡ plan_meaning (plan_at r) (plan_lists extents (plan_at r) (cuts_at r)))
      → Makes (Passes extents results r) (plan_at r) (made_by extents results r) (Err e) → Finishes extents results r (Err e)
  refused refusal.Overflow rows makes =
      let none : rows_of_made (made_by extents results r) ≡ Err overflow = ap rows_of_made makes in record { rows = none; sound = λ (s : AreSound extents results r). sym (rows s) ∙ none }
  refused refusal.Machine rows makes = record { rows = makes; sound = λ (s : AreSound extents results r). makes s.named s.stored s.typed }
  refused refusal.Memory rows makes = record { rows = tt; sound = λ (s : AreSound extents results r). tt }

  module _ (made : Made) (found : List MadePlace) (rows : AreSound extents results r → rows_of_made (made_by extents results r) ≡ plan_meaning (plan_at r) (plan_lists extents (plan_at r) (cuts_at r)))
      (machine : AreSound extents results r → IfOk (made_by extents results r) (λ m. machine_of m ≡ machine_time (plan_at r) (plan_lists extents (plan_at r) (cuts_at r))))
      (any : (own : MadePlace) → AreSound extents results r → IsMadeAt (place (plan_at r) (cuts_at r)) own → AllByRecursion (IsAnyMadeAt (own ∷ found)) (made_places (plan_at r) (cuts_at r) r))
      (each : (own : MadePlace) → AreSound extents results r → IsMadeAt (place (plan_at r) (cuts_at r)) own → made_by extents results r ≡ Ok (made_of own.made) → IsWithin extents (plan_at r) (cuts_at r)
      → AllByRecursion (IsResultAt extents) (own ∷ found))
      (given : Given (Ok (made_of made))) (below : made.taken_in < limit) where
    within : AreSound extents results r → IsWithin extents (plan_at r) (cuts_at r)
    within s =
        let time : machine_of (made_of made) ≡ machine_time (plan_at r) (plan_lists extents (plan_at r) (cuts_at r)) =
        subst (λ (g : Result laws.Made Overflow). IfOk g (λ m. machine_of m ≡ machine_time (plan_at r) (plan_lists extents (plan_at r) (cuts_at r)))) given (machine s) in
        bound made.taken_in (machine_time (plan_at r) (plan_lists extents (plan_at r) (cuts_at r))) below time
      where
        bound : (taken time : ℕ) → taken < limit → 1 + taken ≡ time → time ≤ limit
        bound taken time low is = omega (arith, low, is)

    pub comes : (result : Result Outcome MakeRefusal) → ComesTo r made found result → Finishes extents results r result
    comes (Ok outcome) is =
        let given_rows : rows_of_made (made_by extents results r) ≡ Ok outcome.rows.items = ap rows_of_made given ∙ is.0 in
        let own : MadePlace = is.1.0 in
        record {
          rows = given_rows;
          sound = λ (s : AreSound extents results r). record {
            rows = sym (rows s) ∙ given_rows;
            within = within s;
            made = kept_each extents (own ∷ found) (made_places (plan_at r) (cuts_at r) r) outcome.made.items
                (each own s is.1.1 (given ∙ ap (λ (m : Made). Ok (made_of m)) (sym is.1.2)) (within s)) (is.1.3 (any own s is.1.1));
          };
        }
    comes (Err refusal.Overflow) is =
        let none : rows_of_made (made_by extents results r) ≡ Err overflow = ap rows_of_made given ∙ is in record { rows = none; sound = λ (s : AreSound extents results r). sym (rows s) ∙ none }
    comes (Err refusal.Machine) is = absurd is
    comes (Err refusal.Memory) is = record { rows = tt; sound = λ (s : AreSound extents results r). tt }

-- those that were recorded behind none
pub none_before : (extents : Extents) (results : KeptResults) (trees : List PlainRewriting) (found : List MadePlace) → AreRecorded extents results trees [] found → AreMade extents results trees found
none_before extents results trees found is = subst (AreMade extents results trees) (sym is.1) is.2
