use Rattle.catalog_types.specs.declared.change.Change.TheVariants.{Checkpoint}
use Rattle.record_codec.specs.Forms.{newest}
use Rattle.record_codec.proofs.Keyless.{keyless_is, keyless_spelled}
use Rattle.folder.proofs.Limits.{checkpoint-short}
use Rattle.folder.proofs.Restored.{keyless-fits, table-back}
use Rattle.folder.proofs.Whole.{whole-spelled}
use Rattle.folder.proofs.checkpoint_laws.checkpoints_are_changes.Goals as goal

pub returns-clause-spelled : goal.returns-clause-spelled
returns-clause-spelled c = whole-spelled

pub returns-clause-short : goal.returns-clause-short
returns-clause-short c = checkpoint-short

pub returns-clause-read : goal.returns-clause-read
returns-clause-read c = λ t is spelled. (keyless_is newest (Checkpoint t) (whole-spelled t is spelled), keyless_spelled newest (Checkpoint t))

pub returns-clause-fits : goal.returns-clause-fits
returns-clause-fits c = keyless-fits

pub returns-clause-after : goal.returns-clause-after
returns-clause-after c = table-back
