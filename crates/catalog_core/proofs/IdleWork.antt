-- Work that reads, drops and keeps no result.
use Rattle.std.proofs.Common.{◌≡◌, refl, ap, ◌∙◌, ℕ, ◌+◌, ◌<◌, List, [], ◌∷◌, ◌++◌, Option, append-nil, arith}
use Rattle.catalog_types.specs.PlainEntry.{PlainEntry}
use Rattle.catalog_types.specs.declared.change.Change.TheVariants as change
use Rattle.catalog_types.specs.declared.program.Program.{Program}
use Rattle.entry_table.specs.Ids.{without}
use Rattle.entry_table.specs.Work.{with_uses}
use Rattle.entry_table.proofs.Lists.{without-within}
use Rattle.catalog_core.specs.IsTable.{IsTable}
use Rattle.catalog_core.specs.Table.{Table, table_with, Fits, FitsProgram, after, with_programs, with_stored, with_tick}
use Rattle.rows_core.specs.Limits.{most_ticks}

pub all-stay : (es : List PlainEntry) → without [] es ≡ es
all-stay [] = refl
all-stay (e ∷ es) = ap (λ (xs : List PlainEntry). e ∷ xs) (all-stay es)

none-used : (tick : ℕ) (es : List PlainEntry) → with_uses tick [] es ≡ es
none-used tick [] = refl
none-used tick (e ∷ es) = ap (λ (xs : List PlainEntry). e ∷ xs) (none-used tick es)

-- it is a tick, and stores the program
pub idle-after : (program : Option Program) (t : Table) → after (change.Work program [] [] []) t ≡ with_programs (with_stored program t.programs) (with_tick t)
idle-after program t =
    let same : with_uses (t.tick + 1) [] (without [] t.entries) ++ [] ≡ t.entries = append-nil _ ∙ none-used (t.tick + 1) (without [] t.entries) ∙ all-stay t.entries in
    let id : t.next_id + 0 ≡ t.next_id = omega arith in
    let file : t.next_file + 0 ≡ t.next_file = omega arith in
    λ i. table_with (t.tick + 1) (file i) (id i) t.streams (with_stored program t.programs) (same i)

-- it fits where the tick isn't the last and the program fits
pub idle-fits : (program : Option Program) (t : Table) → IsTable t → t.tick < most_ticks → FitsProgram program t → Fits (change.Work program [] [] []) t
idle-fits program t is low fits = record {
  counted = low;
  results = record {
    over = tt;
    results = record {
      read = record { ascend = refl; there = refl };
      gone = record { ascend = refl; there = refl };
      kept = record {
        are_new = record { few = let less = without-within [] t.entries in omega (arith, less, is.kept.few); results = tt; new = tt; differ = tt };
        files = tt;
        short = tt;
      };
    };
  };
  stored = fits;
}
