use Rattle.script_text.specs.declared.place.Place.TheVariants as place
use Rattle.script_text.proofs.ReaderLemmas.{StandsAt-new}
use Rattle.script_text.proofs.lines.Lines.new.Goals as goal

pub returns : goal.returns
returns c = StandsAt-new place.Outside _ _ tt c.in_ok-new.ensures
