-- The checkpoint of a table is within the limits of a change, and so is short.
use Rattle.std.proofs.Common.{◌≡◌, refl, sym, subst, ℕ, ◌<◌, List, [], ◌∷◌, length, arith}
use Rattle.std.proofs.lemmas.List.Sums.{sum_by-cons}
use Rattle.catalog_types.specs.declared.change.Change.TheVariants.{Checkpoint}
use Rattle.catalog_types.specs.declared.program.Program.{Program}
use Rattle.catalog_types.specs.declared.snapshot.StreamState.{StreamState}
use Rattle.entry_table.proofs.Growth.{all-map}
use Rattle.entry_table.specs.AreKept.{IsEntry}
use Rattle.record_codec.specs.Forms.{newest}
use Rattle.record_codec.specs.Limits.{HasShortText, KeepsShortPlan, IsWithinLimits}
use Rattle.record_codec.specs.Limits as codec
use Rattle.record_codec.specs.Spelling.{change_spelling}
use Rattle.record_codec.proofs.Lengths.{some_bytes, within_limits_len}
use Rattle.catalog_core.specs.IsTable.{IsTable}
use Rattle.catalog_core.specs.Programs.{most_text_bytes, IsStored}
use Rattle.catalog_core.specs.Table.{Table, extent_count}
use Rattle.catalog_core.proofs.StoredPrograms.{le-stable}
use Rattle.folder.specs.Spelled.{IsSpelledTable}
use Rattle.folder.proofs.Whole.{whole-spelled}

extents-same : (streams : List StreamState) → codec.extent_count streams ≡ extent_count streams
extents-same [] = refl
extents-same (s ∷ streams) =
    let rest = extents-same streams in
    let sum = sum_by-cons (λ (s : StreamState). length s.extents) s streams in
    omega (arith, rest, sum)

short-text : (streams : List StreamState) (program : Program) → IsStored streams program → HasShortText program
short-text streams program stored = le-stable (length program.text) most_text_bytes (λ long. stored (λ is. long is.short))

within-limits : (t : Table) → IsTable t → IsWithinLimits (Checkpoint t)
within-limits t is =
    let few = is.few_extents in
    let same = extents-same t.streams in (
      is.few_streams,
      omega (arith, few, same),
      (is.few_programs, all-map (IsStored t.streams) HasShortText (short-text t.streams) t.programs is.stored),
      (is.kept.few, all-map IsEntry KeepsShortPlan (λ e it. it.plan) t.entries is.kept.are_entries),
    )

pub checkpoint-short : (t : Table) → IsTable t → IsSpelledTable t → length (change_spelling (Checkpoint t)) < 536870912
checkpoint-short t is spelled = within_limits_len (Checkpoint t) (whole-spelled t is spelled) (within-limits t is)

-- the bytes of its checkpoint are some, and not too many
pub sized : (t : Table) → IsTable t → IsSpelledTable t → (bytes : List ℕ) → bytes ≡ change_spelling (Checkpoint t) → (0 < length bytes) × (length bytes < 536870912)
sized t is spelled bytes same = (
  subst (λ (b : List ℕ). 0 < length b) (sym same) (some_bytes newest (Checkpoint t)),
  subst (λ (b : List ℕ). length b < 536870912) (sym same) (checkpoint-short t is spelled),
)
