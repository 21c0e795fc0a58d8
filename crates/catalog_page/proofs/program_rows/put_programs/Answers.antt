use Rattle.std.proofs.Common.{map}
use Rattle.catalog_page.specs.Plain.{kept_of}
use Rattle.catalog_page.specs.Page.{program_row}
use Rattle.catalog_page.proofs.Written.{rows_start, rows_more, rows_end}
use Rattle.catalog_page.proofs.program_rows.put_programs.Goals as goal

pub loop-program-init : goal.loop-program-init
loop-program-init c = rows_start _

pub loop-program-preserved : goal.loop-program-preserved
loop-program-preserved c =
    rows_more (program_row (map kept_of c.args.catalogue.now.results.items)) _ _ _ _ _ _ c.loop-program-test.true c.program-item.is c.loop-program.invariant c.in_ok-put_program.ensures

pub returns : goal.returns
returns c = rows_end (program_row (map kept_of c.args.catalogue.now.results.items)) _ _ _ _ c.loop-program-test.false c.loop-program.invariant
