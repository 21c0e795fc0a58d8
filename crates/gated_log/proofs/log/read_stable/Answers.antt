use Rattle.std.proofs.Common.{◌-◌, ◌^◌, ◌∙◌, arith}
use Rattle.std.proofs.lemmas.List.{take_all}
use Rattle.gated_log.proofs.log.read_stable.Goals as goal

pub returns-clause-bytes : goal.returns-clause-bytes
returns-clause-bytes g c = λ told.
    c.in_ok-read_front.ensures.bytes told ∙ take_all (2 ^ 64 - 1) _ (omega (arith, c.in_ok-read_front.ensures.fits told)) ∙ c.sync.ensures.acts.seen
