-- The kept results that a rewriting may read, and which of them it reads.
use Rattle.std.specs.Prelude.{◌≡◌, ◌≢◌, ℕ, ◌≤◌, ◌<◌, ◌⊎◌, List, length, Option, Some, None}
use Rattle.std.specs.List.{Contains}
use Rattle.plan_core.specs.PlainPlan.{PlainPlan, leaf_count}
use Rattle.rewrite_core.specs.declared.rewriting.Hit.{Hit}
use Rattle.estimator.specs.Cuts.{Cuts, AreIntervals, AreAtOrBefore, reach}

-- what of an entry counts here
pub record Entry : Type 0 where
  pub id : ℕ
  pub plan : PlainPlan
  pub cuts : Cuts
  pub len : ℕ

abbrev pub Entries : Type 0
Entries = List Entry

-- the entry that is named so, for this plan
abbrev pub entry_of : PlainPlan → Hit → Entry
entry_of plan hit = record { id = hit.id; plan = plan; cuts = hit.cuts; len = hit.len }

-- Ids differ, no two entries have the same plan and cut, and each cut has one interval per leaf.
pub record AreSound (entries : Entries) : Type 0 where
  pub ids : (e f : Entry) → Contains entries e → Contains entries f → e.id ≡ f.id → e ≡ f
  pub places : (e f : Entry) → Contains entries e → Contains entries f → e.plan ≡ f.plan → e.cuts ≡ f.cuts → e ≡ f
  pub intervals : (e : Entry) → Contains entries e → AreIntervals e.cuts
  pub leaves : (e : Entry) → Contains entries e → length e.cuts ≡ leaf_count e.plan

-- the entry of this plan and cut
pub record IsWhole (entries : Entries) (plan : PlainPlan) (cuts : Cuts) (hit : Hit) : Type 0 where
  pub here : hit.cuts ≡ cuts
  pub kept : Contains entries (entry_of plan hit)

-- an entry of the same plan and another cut, which is at or before this one
pub record IsBefore (entries : Entries) (plan : PlainPlan) (cuts : Cuts) (hit : Hit) : Type 0 where
  pub kept : Contains entries (entry_of plan hit)
  pub other : hit.cuts ≢ cuts
  pub before : AreAtOrBefore hit.cuts cuts

-- it reaches further, or as far with an id that isn't greater
abbrev pub IsChosenOver : Hit → Hit → Type 0
IsChosenOver rival hit =
    (reach rival.cuts < reach hit.cuts) ⊎ ((reach rival.cuts ≡ reach hit.cuts) × (hit.id ≤ rival.id))

-- of the entries before this cut the one that reaches furthest, and of those the one with the least id
pub record IsEarlier (entries : Entries) (plan : PlainPlan) (cuts : Cuts) (hit : Hit) : Type 0 where
  pub candidate : IsBefore entries plan cuts hit
  pub first : (rival : Hit) → IsBefore entries plan cuts rival → IsChosenOver rival hit

-- what the look-ups of a list of entries answer
abbrev pub AnswersWhole : Entries → PlainPlan → Cuts → Option Hit → Type 0
AnswersWhole entries plan cuts None = (hit : Hit) → IsWhole entries plan cuts hit → ⊥
AnswersWhole entries plan cuts (Some hit) = IsWhole entries plan cuts hit

abbrev pub AnswersEarlier : Entries → PlainPlan → Cuts → Option Hit → Type 0
AnswersEarlier entries plan cuts None = (hit : Hit) → IsEarlier entries plan cuts hit → ⊥
AnswersEarlier entries plan cuts (Some hit) = IsEarlier entries plan cuts hit
