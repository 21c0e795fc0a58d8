-- Turns that are over, whatever the files are: how many bytes were taken at most, and why none is the last.
use Rattle.std.proofs.Common.{◌≡◌, refl, sym, subst, ℕ, ◌+◌, ◌≤◌, Bool, List, [], ◌∷◌, ◌++◌, IsTrue, arith}
use Rattle.outside_traits.specs.View.{Counts}
use Rattle.plan_core.specs.PlainPlan.{PlainPlan}
use Rattle.estimator.specs.Cuts.{Cuts}
use Rattle.rewrite_core.specs.Files.{files_of}
use Rattle.rewrite_core.specs.PlainRewriting.{PlainRewriting}
use Rattle.growth_laws.specs.Pieces.{pieces_of}
use Rattle.catalog_core.specs.Named.{file_at, bytes_named}
use Rattle.catalog_core.specs.Table.{Table}
use Rattle.executor.specs.Running.{TookAtMost}
use Rattle.executor.specs.Runs.{HasRunCause, IsRunFound, IsOfExtent}
use Rattle.executor.specs.declared.refusal.RunRefusal.{RunRefusal}
use Rattle.plan_choice.specs.Leaving.{leaving_out}
use Rattle.plan_choice.specs.Taken.{IsTaken}
use Rattle.work_run.specs.Ends.{sources_of}
use Rattle.work_run.proofs.OpenSteps.{cause-since, found-since}
use Rattle.work_turns.specs.Turns.{AreTurns, HasCauseInTurns, IsNamedBy, IsTakenAfter, IsTurnOver, TookInTurns}
use Rattle.work_turns.proofs.TurnLists.{turns-more}

-- these results were lost in turns that are over, whose files have as many bytes as were taken, or more
abbrev pub AreOver : Bool → Table → PlainPlan → PlainPlan → Cuts → List ℕ → Counts → Counts → Type 0
AreOver tells t plan form cuts lost old new = (bytes : ℕ) × AreTurns (IsTurnOver t plan form cuts) [] lost bytes × (IsTrue tells → TookAtMost bytes old new)

module _ (tells : Bool) (t : Table) (plan form : PlainPlan) (cuts : Cuts) where
  pub over-none : (lost : List ℕ) → lost ≡ [] → (counts : Counts) → AreOver tells t plan form cuts lost counts counts
  over-none lost none counts = subst (λ (ids : List ℕ). AreOver tells t plan form cuts ids counts counts) (sym none) (0, refl, λ told. omega arith)

  module _ (lost : List ℕ) (old half new : Counts) (so_far : AreOver tells t plan form cuts lost old half) (r : PlainRewriting) (taken : IsTaken (leaving_out lost t) plan form cuts r) where
    abbrev after : IsTakenAfter t plan form cuts r
    after = record { lost = lost; bytes = so_far.0; over = so_far.1; taken = taken }

    both-taken : IsTrue tells → TookAtMost (bytes_named t (files_of r)) half new → TookAtMost (so_far.0 + bytes_named t (files_of r)) old new
    both-taken told most =
        let first : half.taken ≤ old.taken + so_far.0 = so_far.2 told in
        let then : new.taken ≤ half.taken + bytes_named t (files_of r) = most in
        omega (arith, first, then)

    pub over-more : (id : ℕ) → IsNamedBy r id → (IsTrue tells → TookAtMost (bytes_named t (files_of r)) half new) → AreOver tells t plan form cuts (lost ++ id ∷ []) old new
    over-more id named most = (
      so_far.0 + bytes_named t (files_of r),
      turns-more (IsTurnOver t plan form cuts) [] lost so_far.0 id (bytes_named t (files_of r)) so_far.1 (record { rewriting = r; taken = taken; named = named; bytes_are = refl }),
      λ told. both-taken told (most told),
    )

    pub took-in-turns : IsTrue tells → TookAtMost (bytes_named t (files_of r)) half new → TookInTurns t plan form cuts old new
    took-in-turns told most = record { rewriting = r; after = after; most = both-taken told most }

    pub has-cause : half.reads ≡ old.reads → old.taken ≤ half.taken → (files later : ℕ → List ℕ) → ((g : ℕ) → later g ≡ files g) → (why : RunRefusal) → HasRunCause (file_at t) (files_of r) half new why → IsOfExtent (file_at t) r why
        → (IsTrue tells → IsRunFound (sources_of t later) (pieces_of r) (files_of r) why) → HasCauseInTurns tells t plan form cuts files old new why
    has-cause same before files later unchanged why cause of_extent found = record {
      rewriting = r;
      after = after;
      cause = cause-since t (files_of r) old half new same before why cause;
      of_extent = of_extent;
      found = λ told. found-since t (pieces_of r) (files_of r) files later unchanged why (found told);
    }
