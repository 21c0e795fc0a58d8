-- A stretch's plan at its old and at its new cut.
use Rattle.rewriter.specs.declared.parts.Part.{Part}
use Rattle.rewriter.specs.declared.parts.Stretch.{Stretch}

abbrev pub before : Stretch → Part
before s = record { plan = s.plan; place = s.place; cuts = s.old }

abbrev pub after : Stretch → Part
after s = record { plan = s.plan; place = s.place; cuts = s.new }
