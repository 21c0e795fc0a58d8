use Rattle.std.proofs.Common.{ℕ, List, [], map, IfOk, subst}
use Rattle.catalog_types.specs.PlainEntry.{PlainEntry}
use Rattle.admission.specs.Admitting.{made_of, Admits}
use Rattle.entry_table.specs.Ids.{without}
use Rattle.catalog_core.specs.Catalogs.{table_of}
use Rattle.work_plan.proofs.work.admitted_beside.Goals as goal

pub returns : goal.returns
returns c =
    subst (λ (entries : List PlainEntry). IfOk c.admit.result (λ admitted. Admits (without c.args.dropped.now entries) (table_of c.args.catalog.now).next_file [] (map made_of c.args.made.items) admitted.items)) c.entries.ensures.entries
    (subst (λ (file : ℕ). IfOk c.admit.result (λ admitted. Admits (without c.args.dropped.now c.entries.result.now) file [] (map made_of c.args.made.items) admitted.items)) c.next_file.ensures c.admit.ensures.admits)
