-- Turns that have ended, and the next one.
use Rattle.std.proofs.Common.{◌≡◌, refl, sym, ap, ◌∙◌, subst, ℕ, ◌+◌, ◌-◌, ◌^◌, min, inl, inr, List, [], ◌∷◌, ◌++◌, Ok, arith}
use Rattle.std.specs.List.{AllByRecursion}
use Rattle.outside_traits.specs.View.{Counts}
use Rattle.plan_core.specs.PlainPlan.{PlainPlan}
use Rattle.estimator.specs.Bytes.{capped}
use Rattle.estimator.specs.Cuts.{Cuts}
use Rattle.rewrite_core.specs.Files.{AreIdsOf, files_of}
use Rattle.rewrite_core.specs.PlainRewriting.{PlainRewriting, rewriting_of}
use Rattle.catalog_core.specs.Named.{bytes_named}
use Rattle.catalog_core.specs.Table.{Table}
use Rattle.catalog_core.proofs.Kept.{all-push}
use Rattle.executor.specs.Outcomes.{AreKeptFrom, Finishes}
use Rattle.executor.specs.declared.refusal.LostResult.{LostResult}
use Rattle.folder.specs.Sound.{Care}
use Rattle.folder.specs.Files.{results_in}
use Rattle.folder.specs.State.{State, table, extents_in}
use Rattle.plan_choice.specs.Leaving.{leaving_out}
use Rattle.plan_choice.specs.Taken.{IsTaken}
use Rattle.plan_choice.specs.declared.choosing.Choice.{Choice}
use Rattle.work_run.specs.Ends.{CountsRead}
use Rattle.work_turns.specs.Turns.{EndsTurn, HaveEnded, IsEndedTurn, IsChosenOf, IsLastTurn, IsLost, IsOfChoice}
use Rattle.work_turns.specs.declared.turns.LastTurn.{LastTurn}
use Rattle.work_turns.specs.declared.turns.Turn.{Turn}
use Rattle.work_turns.specs.declared.turns.TurnEnd.TheVariants as turn
use Rattle.work_turns.proofs.TurnLists.{counts-cut, counts-on, turns-more}

-- turns ended at these results, which show damage, and so many bytes were taken
abbrev pub Turned : Care → State → PlainPlan → PlainPlan → Cuts → List ℕ → ℕ → Counts → Counts → Type 0
Turned care s plan form cuts lost ended old new =
    (bytes : ℕ) × HaveEnded (table s) plan form cuts [] lost bytes × AllByRecursion (IsLost care s) lost × (ended ≡ capped bytes) × CountsRead bytes old new

pub turned-none : (care : Care) (s : State) (plan form : PlainPlan) (cuts : Cuts) (lost : List ℕ) → lost ≡ [] → (counts : Counts) → Turned care s plan form cuts lost 0 counts counts
turned-none care s plan form cuts lost none counts = subst (λ (ids : List ℕ). Turned care s plan form cuts ids 0 counts counts) (sym none) (0, refl, tt, refl, inr (refl, refl))

module _ (care : Care) (s : State) (plan form : PlainPlan) (cuts : Cuts) (lost : List ℕ) (ended : ℕ) (old half new : Counts) (so_far : Turned care s plan form cuts lost ended old half) where
  pub turned-more : (r : PlainRewriting) (found : LostResult) (sum : ℕ) → sum ≡ min (ended + found.taken) (2 ^ 64 - 1) → EndsTurn care s lost plan form cuts r half new (turn.Lost found)
      → Turned care s plan form cuts (lost ++ found.id ∷ []) sum old new
  turned-more r found sum is (more, ended_turn, shows, taken, counted) =
      let before : ended ≡ min so_far.0 (2 ^ 64 - 1) = so_far.3 in
      let here : found.taken ≡ min more (2 ^ 64 - 1) = taken in (
        so_far.0 + more,
        turns-more (IsEndedTurn (table s) plan form cuts) [] lost so_far.0 found.id more so_far.1 ended_turn,
        all-push (IsLost care s) lost found.id so_far.2 shows,
        omega (arith, is, before, here),
        counts-on so_far.0 more old half new so_far.4 (inl counted),
      )

  module _ (t : Table) (same : t ≡ table s) (choice : Choice) (is : IsChosenOf t lost plan form cuts choice) (taken : IsTaken (leaving_out lost t) plan form cuts (rewriting_of choice.rewriting)) (done : Turn) (sum : ℕ)
      (is_sum : sum ≡ min (ended + done.read) (2 ^ 64 - 1)) (told : IsOfChoice t choice done) (ends : EndsTurn care s lost plan form cuts (rewriting_of choice.rewriting) half new (turn.Last done)) where
    abbrev r : PlainRewriting
    r = rewriting_of choice.rewriting

    named_bytes : done.read ≡ min (bytes_named (table s) (files_of r)) (2 ^ 64 - 1)
    named_bytes = told.read ∙ ap (λ (x : Table). capped (bytes_named x (files_of r))) same

    pub last-read : CountsRead sum old new
    last-read =
        let before : ended ≡ min so_far.0 (2 ^ 64 - 1) = so_far.3 in
        counts-cut (so_far.0 + capped (bytes_named (table s) (files_of r))) sum old new (omega (arith, is_sum, before, named_bytes))
        (counts-on so_far.0 (capped (bytes_named (table s) (files_of r))) old half new so_far.4 ends.2)

    pub last-is : (last : LastTurn) → last.turn ≡ done → last.lost.items ≡ lost → last.read ≡ sum → IsLastTurn care s plan form cuts last
    last-is last same_turn same_lost same_read =
        let before : ended ≡ min so_far.0 (2 ^ 64 - 1) = so_far.3 in
        record {
          bytes = so_far.0;
          ended = subst (λ (ids : List ℕ). HaveEnded (table s) plan form cuts [] ids so_far.0) (sym same_lost) so_far.1;
          lost = subst (AllByRecursion (IsLost care s)) (sym same_lost) so_far.2;
          rewriting = r;
          taken = subst (λ (ids : List ℕ). IsTaken (leaving_out ids (table s)) plan form cuts r) (sym same_lost) (subst (λ (x : Table). IsTaken (leaving_out lost x) plan form cuts r) same taken);
          used = subst (λ (d : Turn). AreIdsOf (files_of r) d.used.items) (sym same_turn) (subst (λ u. AreIdsOf (files_of r) u.items) (sym told.used) is.chosen.choice_is.used);
          read = (let sums : last.read ≡ min (so_far.0 + bytes_named (table s) (files_of r)) (2 ^ 64 - 1) = omega (arith, same_read, is_sum, before, named_bytes) in sums);
          outcome = subst (λ (d : Turn). Finishes (extents_in s.streams) (results_in s) r (Ok d.outcome)) (sym same_turn) ends.0;
          kept = subst (λ (d : Turn). AreKeptFrom r d.outcome.made.items) (sym same_turn) ends.1;
        }
