use Rattle.catalog_core.proofs.laws.know_table.Goals as goal

pub returns : goal.returns
returns c = c.streams.ensures.table
