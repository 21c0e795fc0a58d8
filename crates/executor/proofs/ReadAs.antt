-- Parts of which no file is left, read as extents and kept results are, give what these hold.
use Rattle.std.proofs.Common.{◌≡◌, [], List, map}
use Rattle.plan_core.specs.PlanTyping.{Kinds}
use Rattle.rewrite_core.specs.PlainRewriting.{PlainRewriting}
use Rattle.growth_laws.specs.KeptResults.{KeptResults}
use Rattle.growth_laws.specs.Lists.{Extents}
use Rattle.growth_laws.specs.Parts.{plan_at, cuts_at}
use Rattle.growth_laws.specs.Pieces.{pieces_of}
use Rattle.executor.specs.Loading.{HoldAll}
use Rattle.executor.specs.Parts.{IsFormed}
use Rattle.executor.specs.Loads.{load_of_part}
use Rattle.executor.specs.Outcomes.{AreReadAs}
use Rattle.executor.specs.Progress.{left_in}
use Rattle.executor.specs.declared.part.Part.{Part}
use Rattle.executor.proofs.PieceCuts.{pieces_have, parts_cut}
use Rattle.executor.proofs.ReadParts.{hold_all}

pub hold_read : (schemas : List Kinds) (extents : Extents) (results : KeptResults) (r : PlainRewriting) (parts : List Part) → left_in parts ≡ [] → IsFormed r → AreReadAs schemas extents results r parts
    → HoldAll extents results (pieces_of r) (map load_of_part parts)
hold_read schemas extents results r parts left formed are =
    hold_all schemas extents results (pieces_of r) parts left are.are (parts_cut schemas (pieces_of r) parts are.are (pieces_have r (plan_at r) (cuts_at r) formed are.cuts)) are.read
