use Rattle.std.proofs.Common.{◌≡◌, Some, rules}
use Rattle.catalog_core.specs.Catalogs.{table_of}
use Rattle.catalog_core.specs.Table.{place_of}
use Rattle.planning.proofs.AppendLemmas.{IsAppending-refused, IfOk-appending, IfErr-appending}
use Rattle.planning.proofs.accepting.accept_append.Goals as goal

pub returns-in-Ok-clause-ok : goal.returns-in-Ok-clause-ok
returns-in-Ok-clause-ok c =
    let is : place_of (table_of c.args.catalog.now).streams c.args.name ≡ Some c.in-Some.place = search rules in
    IfOk-appending (table_of c.args.catalog.now) c.args.name c.args.lines.now c.in-Some.place is c.in-Ok.rows.items c.in-Ok.ensures.rows c.within_limits.result c.within_limits.ensures.place c.within_limits.ensures.kept c.within_limits.ensures.count c.within_limits.ensures.ok

pub returns-in-Ok-clause-err : goal.returns-in-Ok-clause-err
returns-in-Ok-clause-err c =
    let is : place_of (table_of c.args.catalog.now).streams c.args.name ≡ Some c.in-Some.place = search rules in
    IfErr-appending (table_of c.args.catalog.now) c.args.name c.args.lines.now c.in-Some.place is c.in-Ok.rows.items c.in-Ok.ensures.rows c.within_limits.result c.within_limits.ensures.err

pub returns-clause-err : goal.returns-clause-err
returns-clause-err c =
    let is : place_of (table_of c.args.catalog.now).streams c.args.name ≡ Some c.in-Some.place = search rules in
    IsAppending-refused (table_of c.args.catalog.now) c.args.name c.args.lines.now c.in-Some.place is c.in-Err.refusal c.in-Err.ensures.refused
