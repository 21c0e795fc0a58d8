use Rattle.std.proofs.Common.{ap, List, map, sym, subst}
use Rattle.std.specs.List.{Contains}
use Rattle.rewrite_core.specs.Entries.{Entries}
use Rattle.catalog_types.specs.PlainEntry.{PlainEntry}
use Rattle.cache_index.specs.Asked.{entry}
use Rattle.entry_table.specs.Ids.{without}
use Rattle.plan_choice.proofs.LeftOut.{found-among, there-before, file-left}
use Rattle.catalog_core.proofs.OverStreams.{collection-keeps-table}
use Rattle.catalog_core.specs.Table.{Table}
use Rattle.catalog_core.proofs.IdleWork.{all-stay}
use Rattle.plan_choice.proofs.leaving.results_are_left_out.Goals as goal

pub returns-clause-table : goal.returns-clause-table
returns-clause-table c = λ t ids is. collection-keeps-table ids t is

pub returns-clause-none : goal.returns-clause-none
returns-clause-none c = λ t. ap (λ (es : List PlainEntry). let kept : Table = record t { entries = es } in kept) (all-stay t.entries)

pub returns-clause-asked : goal.returns-clause-asked
returns-clause-asked c = λ t ids. ap (map entry) (all-stay (without ids t.entries))

pub returns-clause-there : goal.returns-clause-there
returns-clause-there c = λ t ids name has. there-before t ids name has

pub returns-clause-file : goal.returns-clause-file
returns-clause-file c = λ t ids name has. file-left t ids name has

pub returns-clause-more : goal.returns-clause-more
returns-clause-more c = λ t ids e has.
    subst (λ (es : Entries). Contains es e) (sym (ap (map entry) (all-stay t.entries)))
    (found-among ids t.entries e (subst (λ (es : Entries). Contains es e) (ap (map entry) (all-stay (without ids t.entries))) has))
