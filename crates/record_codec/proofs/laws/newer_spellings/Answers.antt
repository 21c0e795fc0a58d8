-- A newer form has what an older one has.
use Rattle.record_codec.proofs.Newer.{newer, told}
use Rattle.record_codec.proofs.laws.newer_spellings.Goals as goal

pub returns-clause-newer : goal.returns-clause-newer
returns-clause-newer c = newer

pub returns-clause-told : goal.returns-clause-told
returns-clause-told c = told
