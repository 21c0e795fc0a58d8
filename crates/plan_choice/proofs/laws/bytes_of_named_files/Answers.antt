use Rattle.std.proofs.Common.{ℕ, ◌<◌, [], subst}
use Rattle.cache_index.specs.Asked.{asked}
use Rattle.catalog_core.specs.Named.{lengths_of, file_at}
use Rattle.rewriter.proofs.Formed.{in_streams}
use Rattle.plan_choice.proofs.NamedBytes.{reads_are}
use Rattle.plan_choice.proofs.laws.bytes_of_named_files.Goals as goal

pub returns : goal.returns
returns c = λ t plan cuts r table is are.
    let lengths = lengths_of t.streams in
    let entries = asked [] t.entries in
    let formed = c.rewritings_are_formed.ensures entries (c.kept_results_of_tables.ensures.sound t [] table) plan cuts r is in
    reads_are lengths entries (λ name. (file_at t name).len)
    (λ stream number low. c.cuts_of_tables.ensures.len t stream number (subst (λ (n : ℕ). number < n) (c.cuts_of_tables.ensures.counts t stream) low))
    (λ e has. c.kept_results_of_tables.ensures.len t [] e table has)
    r plan cuts is (in_streams lengths plan cuts r formed (c.cuts_of_tables.ensures.cuts t plan cuts are))
