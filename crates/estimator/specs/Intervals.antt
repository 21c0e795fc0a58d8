-- The intervals of which the bytes are summed: those of a cut, or those that one cut has behind another.
use Rattle.estimator.specs.Cuts.{Cuts, added_cuts}
use Rattle.estimator.specs.declared.bytes.Intervals.{Intervals}
use Rattle.estimator.specs.declared.bytes.Intervals.TheVariants.{Whole, Added}

abbrev pub cuts_of : Intervals → Cuts
cuts_of (Whole cuts) = cuts.now
cuts_of (Added old new) = added_cuts old.now new.now
