-- Each step is on a shorter list.
use Rattle.std.proofs.Common.{length}
use Rattle.postfix_plans.proofs.soundness.+are_sound.Given as goal

abbrev pub decreases-are_sound : goal.decreases-are_sound
decreases-are_sound l = length l.results.now
