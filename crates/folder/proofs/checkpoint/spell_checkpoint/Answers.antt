use Rattle.std.proofs.Common.{◌≡◌, sym, ap, subst, ◌∙◌, ◌<◌, length}
use Rattle.std.proofs.lemmas.Result.{IfOk-weaker}
use Rattle.catalog_types.specs.declared.change.Change.TheVariants.{Checkpoint}
use Rattle.record_codec.specs.Spelling.{change_spelling, HasChangeSpelling}
use Rattle.catalog_core.specs.Catalogs.{table_of}
use Rattle.folder.proofs.Limits.{sized}
use Rattle.folder.proofs.Whole.{whole-spelled}
use Rattle.folder.proofs.checkpoint.spell_checkpoint.Goals as goal

pub spell_change-requires : goal.spell_change-requires
spell_change-requires c = subst HasChangeSpelling (sym c.in_ok-change.ensures) (whole-spelled (table_of c.args.catalog.now) c.know_table.ensures c.requires)

pub returns-clause-bytes : goal.returns-clause-bytes
returns-clause-bytes c =
    IfOk-weaker c.spell_change.result (λ bytes. bytes.items ≡ change_spelling c.in_ok-change.change) (λ bytes. bytes.items ≡ change_spelling (Checkpoint (table_of c.args.catalog.now)))
    (λ bytes is. is ∙ ap change_spelling c.in_ok-change.ensures) c.spell_change.ensures

pub returns-clause-size : goal.returns-clause-size
returns-clause-size c =
    IfOk-weaker c.spell_change.result (λ bytes. bytes.items ≡ change_spelling c.in_ok-change.change) (λ bytes. (0 < length bytes.items) × (length bytes.items < 536870912))
    (λ bytes is. sized (table_of c.args.catalog.now) c.know_table.ensures c.requires bytes.items (is ∙ ap change_spelling c.in_ok-change.ensures)) c.spell_change.ensures
