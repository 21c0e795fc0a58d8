use Rattle.std.proofs.Common.{List, ℕ, [], refl, ◌∙◌, ap}
use Rattle.outside_traits.specs.Calls.{overlaid}
use Rattle.outside_traits.proofs.ByteLemmas.{overlaid_end}
use Rattle.extent_files.proofs.files.write_file.Goals as goal

pub returns-clause-written : goal.returns-clause-written
returns-clause-written g c = λ told.
    c.sync.ensures.acts.seen ∙ c.in_ok-write.ensures.written told
    ∙ ap (λ (l : List ℕ). overlaid l 0 c.args.bytes.now) (c.in_ok-cut.ensures.cut told) ∙ overlaid_end [] c.args.bytes.now 0 refl

pub returns-clause-stable : goal.returns-clause-stable
returns-clause-stable g c = λ told x now.
    c.in_ok-sync.ensures.stable told x now ∙ c.in_ok-write.ensures.written told
    ∙ ap (λ (l : List ℕ). overlaid l 0 c.args.bytes.now) (c.in_ok-cut.ensures.cut told) ∙ overlaid_end [] c.args.bytes.now 0 refl
