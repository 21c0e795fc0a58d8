use Rattle.std.proofs.Common.{rules, not}
use Rattle.std.proofs.lemmas.Fn.{filter_same}
use Rattle.catalog_types.specs.PlainEntry.{PlainEntry}
use Rattle.entry_table.specs.Ids.{is_among}
use Rattle.entry_table.proofs.Lists.{without-none}
use Rattle.entry_table.proofs.uses.drop_entries.Goals as goal

pub returns-then-is_empty-clause-entries : goal.returns-then-is_empty-clause-entries
returns-then-is_empty-clause-entries c =
    without-none c.args.ids.now c.args.entries.now.items c.is_empty.result c.is_empty.ensures c.if-is_empty.true

pub returns-clause-entries : goal.returns-clause-entries
returns-clause-entries c =
    filter_same _ (λ (e : PlainEntry). not (is_among c.args.ids.now e.id)) _ (λ x b q k. search rules) _ _ c.retain.ensures.filtered
