-- What is admitted of the others behind those that were admitted so far is what is admitted of all.
use Rattle.std.proofs.Common.{◌≡◌, ◌≤◌, [], List, length, map}
use Rattle.std.specs.List.{AllByRecursion}
use Rattle.std.specs.Vec.Iter.{into_iter_items, into_iter_len}
use Rattle.plan_core.specs.PlainPlan.{plan_of}
use Rattle.plan_spelling.specs.Spelling.{HasPlanSpelling}
use Rattle.entry_table.specs.Ids.{without}
use Rattle.rows_core.specs.Limits.{most_entries}
use Rattle.executor.specs.declared.outcome.KeptPlace.{KeptPlace}
use Rattle.admission.specs.declared.new_result.NewResult.{NewResult}
use Rattle.admission.specs.Admitting.{made_of, Admits}
use Rattle.admission.proofs.admitting.admit.Given as goal

abbrev pub invariant-loop-place : goal.invariant-loop-place
invariant-loop-place l = record {
  left : into_iter_len l.place-iterator ≡ length (into_iter_items l.place-iterator);
  spelled : AllByRecursion (λ (place : KeptPlace). HasPlanSpelling (plan_of place.plan)) (into_iter_items l.place-iterator);
  few : length l.admitted.items ≤ most_entries;
  behind : (final : List NewResult) → Admits (without l.fn.dropped l.fn.entries) l.fn.file l.admitted.items (map made_of (into_iter_items l.place-iterator)) final
      → Admits (without l.fn.dropped l.fn.entries) l.fn.file [] (map made_of l.fn.made.items) final;
}
