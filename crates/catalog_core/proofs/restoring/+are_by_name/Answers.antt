use Rattle.std.proofs.Common.{◌∙◌, refl, sym, arith}
use Rattle.catalog_core.proofs.ByName.{by-name-at, by-name-short}
use Rattle.catalog_core.proofs.restoring.+are_by_name.Goals as goal

pub returns-in_default : goal.returns-in_default
returns-in_default t c = (λ _. by-name-short c.args.programs.now (omega arith), λ _. refl)

pub returns-then-is_below : goal.returns-then-is_below
returns-then-is_below t c =
    let at = by-name-at c.args.programs.now c.program-item.result c.next-item.result (omega arith) c.program-item.is c.next-item.is in
    (λ rest. at.1 (sym c.is_below.ensures ∙ c.if-is_below.true, c.are_by_name.ensures.0 rest), λ sorted. c.are_by_name.ensures.1 (at.0 sorted).1)

pub returns-else-is_below : goal.returns-else-is_below
returns-else-is_below t c =
    let at = by-name-at c.args.programs.now c.program-item.result c.next-item.result (omega arith) c.program-item.is c.next-item.is in
    (λ is. absurd (cc), λ sorted. c.is_below.ensures ∙ (at.0 sorted).0)
