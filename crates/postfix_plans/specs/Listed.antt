-- What of a list of kept results counts.
use Rattle.std.specs.Prelude.{List, map}
use Rattle.plan_core.specs.PlainPlan.{plan_of}
use Rattle.rewrite_core.specs.Entries.{Entry, Entries}
use Rattle.postfix_plans.specs.declared.results.ListedResult.{ListedResult}

abbrev pub entry : ListedResult → Entry
entry r = record { id = r.id; plan = plan_of r.plan; cuts = r.cuts; len = r.len }

abbrev pub entries_of : List ListedResult → Entries
entries_of = map entry
