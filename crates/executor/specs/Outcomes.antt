-- What a job comes to: the plan's rows, and what is kept of each result that was made on the way.
use Rattle.std.specs.Prelude.{◌≡◌, ◌⊎◌, ℕ, ◌+◌, ◌<◌, ◌≤◌, min, List, [], ◌∷◌, ◌++◌, length, Option, None, Some, Result, Ok, Err, Contains}
use Rattle.std.specs.List.{AllByRecursion}
use Rattle.scalar_ops.specs.Meaning.{overflow}
use Rattle.row_blob.specs.Kept.{AreEach}
use Rattle.plan_core.specs.MachineTime.{machine_time}
use Rattle.plan_core.specs.PlainPlan.{PlainPlan, plan_of, leaf_count}
use Rattle.plan_core.specs.PlanMeaning.{plan_meaning}
use Rattle.plan_core.specs.PlanTyping.{Kinds}
use Rattle.estimator.specs.Cuts.{Cuts}
use Rattle.plan_laws.specs.KeptForm.{rows_of_kept}
use Rattle.rewrite_core.specs.IsRewriting.{IsRewriting}
use Rattle.rewrite_core.specs.PlainRewriting.{PlainRewriting}
use Rattle.growth_laws.specs.Growth.{IsMade, rows_of_made}
use Rattle.growth_laws.specs.KeptResults.{KeptResult, KeptResults, IsResultOf, kept_among}
use Rattle.growth_laws.specs.Lists.{Extents, plan_lists}
use Rattle.growth_laws.specs.MadePlaces.{Place, place, made_places}
use Rattle.growth_laws.specs.Parts.{plan_at, cuts_at}
use Rattle.growth_laws.specs.Pieces.{pieces_of}
use Rattle.growth_laws.specs.Trees.{made_by}
use Rattle.result_ops.specs.Bounds.{limit}
use Rattle.result_ops.specs.Steps.{made_of}
use Rattle.result_ops.specs.declared.made.Made.{Made}
use Rattle.result_ops.specs.declared.refusal.MakeRefusal.{MakeRefusal}
use Rattle.result_ops.specs.declared.refusal.MakeRefusal.TheVariants as refusal
use Rattle.executor.specs.Passing.{Passes, IsStored, IsTyped, IsWithin}
use Rattle.executor.specs.declared.recording.MadePlace.{MadePlace}
use Rattle.executor.specs.Progress.{ArePartsOf, HaveRead}
use Rattle.executor.specs.declared.outcome.KeptPlace.{KeptPlace}
use Rattle.executor.specs.declared.outcome.Outcome.{Outcome}
use Rattle.executor.specs.declared.part.Part.{Part}

-- ---- what is kept of results that were made

-- it was made of this plan at this cut
abbrev pub IsMadeAt : Place → MadePlace → Type 0
IsMadeAt at made = (plan_of made.plan ≡ at.plan) × (made.cuts ≡ at.cuts)

abbrev pub IsAnyMadeAt : List MadePlace → Place → Type 0
IsAnyMadeAt mades at = (made : MadePlace) × Contains mades made × IsMadeAt at made

-- what is kept of a made result, cut at the greatest machine time
pub record IsKeptOf (made : MadePlace) (at : Place) (kept : KeptPlace) : Type 0 where
  pub plan : plan_of kept.plan ≡ at.plan
  pub cuts : kept.cuts ≡ at.cuts
  pub form : kept.kept ≡ made.made.kept
  pub machine : kept.machine ≡ min (made.made.taken_in + 1) limit

-- it is kept of one that was made at the place
abbrev pub KeepsAt : List MadePlace → Place → KeptPlace → Type 0
KeepsAt mades at kept = (made : MadePlace) × Contains mades made × IsMadeAt at made × IsKeptOf made at kept

-- the one that was found was made at the place; or none was
abbrev pub FindsAt : List MadePlace → Place → Option MadePlace → Type 0
FindsAt mades at (Some made) = Contains mades made × IsMadeAt at made
FindsAt mades at None = (made : MadePlace) → Contains mades made → IsMadeAt at made → ⊥

-- what is kept of one that was made at the place comes behind the others
abbrev pub ComesBehind : List MadePlace → Place → List KeptPlace → List KeptPlace → Type 0
ComesBehind mades at before after = (kept : KeptPlace) × (after ≡ before ++ kept ∷ []) × KeepsAt mades at kept

-- so where one was made at the place; where none was, the others stay
abbrev pub PutsKept : List MadePlace → Place → List KeptPlace → List KeptPlace → Type 0
PutsKept mades at before after = ComesBehind mades at before after ⊎ ((after ≡ before) × (IsAnyMadeAt mades at → ⊥))

-- at each place, where one was made at each
abbrev pub KeepEach : List MadePlace → List Place → List KeptPlace → Type 0
KeepEach mades places kept = AllByRecursion (IsAnyMadeAt mades) places → AreEach (KeepsAt mades) places kept

-- it is kept of one of these places, with a machine time within the limit
abbrev pub IsKeptFrom : List Place → KeptPlace → Type 0
IsKeptFrom places kept = Contains places (place (plan_of kept.plan) kept.cuts) × (0 < kept.machine) × (kept.machine ≤ limit)

-- each is kept of a place at which the rewriting makes a result
abbrev pub AreKeptFrom : PlainRewriting → List KeptPlace → Type 0
AreKeptFrom r = AllByRecursion (IsKeptFrom (made_places (plan_at r) (cuts_at r) r))

-- it is what is kept of its plan's result at its cut, with a machine time within the limit
abbrev pub IsResultAt : Extents → MadePlace → Type 0
IsResultAt extents made =
    IsMade (plan_of made.plan) (plan_lists extents (plan_of made.plan) made.cuts) (Ok (made_of made.made))
    × (machine_time (plan_of made.plan) (plan_lists extents (plan_of made.plan) made.cuts) ≤ limit)

-- the rewriting's own rows, and what is kept of what was made
abbrev pub ComesTo : PlainRewriting → Made → List MadePlace → Result Outcome MakeRefusal → Type 0
ComesTo r made found (Ok outcome) =
    (rows_of_kept made.kept ≡ Ok outcome.rows.items)
    × ((own : MadePlace) × IsMadeAt (place (plan_at r) (cuts_at r)) own × (own.made ≡ made) × KeepEach (own ∷ found) (made_places (plan_at r) (cuts_at r) r) outcome.made.items)
ComesTo r made found (Err refusal.Overflow) = rows_of_kept made.kept ≡ Err overflow
ComesTo r made found (Err refusal.Machine) = ⊥
ComesTo r made found (Err refusal.Memory) = Unit {0}

-- ---- whatever the extents and the kept results hold

-- the rows of what the definitions make of them; `Machine`, over sound results, only where the machine time is above its limit
abbrev pub GivesRows : Extents → KeptResults → PlainRewriting → Result Outcome MakeRefusal → Type 0
GivesRows extents results r (Ok outcome) = rows_of_made (made_by extents results r) ≡ Ok outcome.rows.items
GivesRows extents results r (Err refusal.Overflow) = rows_of_made (made_by extents results r) ≡ Err overflow
GivesRows extents results r (Err refusal.Machine) = Passes extents results r
GivesRows extents results r (Err refusal.Memory) = Unit {0}

-- ---- over sound results

-- each named result is that of its plan at its cut, and what is stored is valid
pub record AreSound (extents : Extents) (results : KeptResults) (r : PlainRewriting) : Type 0 where
  pub named : IsRewriting (kept_among extents results) (plan_at r) (cuts_at r) r
  pub stored : IsStored extents results (plan_at r)
  pub typed : IsTyped (plan_at r)

abbrev pub kept_result : KeptPlace → KeptResult
kept_result kept = record { form = kept.kept; machine = kept.machine }

-- it is what is kept of the place's result
pub record IsKeptAt (extents : Extents) (at : Place) (kept : KeptPlace) : Type 0 where
  pub plan : plan_of kept.plan ≡ at.plan
  pub cuts : kept.cuts ≡ at.cuts
  pub result : IsResultOf extents at.plan at.cuts (kept_result kept)

-- the plan's rows, a machine time within the limit, and what is kept at each made place
pub record IsOutcome (extents : Extents) (r : PlainRewriting) (outcome : Outcome) : Type 0 where
  pub rows : plan_meaning (plan_at r) (plan_lists extents (plan_at r) (cuts_at r)) ≡ Ok outcome.rows.items
  pub within : IsWithin extents (plan_at r) (cuts_at r)
  pub made : AreEach (IsKeptAt extents) (made_places (plan_at r) (cuts_at r) r) outcome.made.items

abbrev pub GivesOutcome : Extents → PlainRewriting → Result Outcome MakeRefusal → Type 0
GivesOutcome extents r (Ok outcome) = IsOutcome extents r outcome
GivesOutcome extents r (Err refusal.Overflow) = plan_meaning (plan_at r) (plan_lists extents (plan_at r) (cuts_at r)) ≡ Err overflow
GivesOutcome extents r (Err refusal.Machine) = IsWithin extents (plan_at r) (cuts_at r) → ⊥
GivesOutcome extents r (Err refusal.Memory) = Unit {0}

pub record Finishes (extents : Extents) (results : KeptResults) (r : PlainRewriting) (result : Result Outcome MakeRefusal) : Type 0 where
  pub rows : GivesRows extents results r result
  pub sound : AreSound extents results r → GivesOutcome extents r result

-- these are parts of the rewriting's pieces, on a cut of one interval for each leaf, and what was read is what these extents and
-- kept results are
pub record AreReadAs (schemas : List Kinds) (extents : Extents) (results : KeptResults) (r : PlainRewriting) (parts : List Part) : Type 0 where
  pub are : ArePartsOf schemas (pieces_of r) parts
  pub cuts : length (cuts_at r) ≡ leaf_count (plan_at r)
  pub read : HaveRead schemas extents results (pieces_of r) parts
