use Rattle.catalog_page.proofs.program_keys.key_of_typed.Goals as goal

pub returns : goal.returns
returns c = (c.in_ok-normal.normal.plan, c.in_ok-normal.ensures.normal, c.in_ok-key.ensures)
