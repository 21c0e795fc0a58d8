-- The states that follow from one come later.
use Rattle.std.proofs.Common.{◌≡◌, refl, sym, subst, ℕ, zero, suc, List, [], ◌∷◌, ◌++◌, append-nil, append_assoc, ap, ◌∙◌, Option}
use Rattle.rows_core.specs.declared.schema.Column.{Column}
use Rattle.rows_core.specs.declared.value.Value.{Value}
use Rattle.catalog_types.specs.PlainEntry.{PlainNewEntry}
use Rattle.catalog_types.specs.declared.change.Change.TheVariants as change
use Rattle.catalog_types.specs.declared.program.Program.{Program}
use Rattle.catalog_core.specs.Table.{Fits, updated}
use Rattle.folder.specs.State.{Extent, Stream, State, table, extent_of}
use Rattle.folder.specs.Next.{with_stream, with_rows, with_run, with_work, with_collection, new_extent, grown}
use Rattle.folder.proofs.NextStates.{table-with_stream, table-with_rows}
use Rattle.later_states.specs.Later.{IsLater, IsLaterState, HaveMoreRows, AreHeld, AreFree}
use Rattle.later_states.proofs.Tables.{later-same, later-changed, later-twice, later-fewer}

-- ---- rows

no-more : (x : Stream) → (more : List Extent) × (x.extents ≡ x.extents ++ more)
no-more x = ([], sym (append-nil x.extents))

pub same-rows : (xs : List Stream) → HaveMoreRows xs xs
same-rows [] = tt
same-rows (x ∷ xs) = (no-more x, same-rows xs)

added-stream : (xs ys : List Stream) → HaveMoreRows xs (xs ++ ys)
added-stream [] ys = tt
added-stream (x ∷ xs) ys = (no-more x, added-stream xs ys)

pub added-rows : (e : Extent) (xs : List Stream) (place : ℕ) → HaveMoreRows xs (updated (grown e) xs place)
added-rows e [] place = tt
added-rows e (x ∷ xs) zero = ((e ∷ [], refl), same-rows xs)
added-rows e (x ∷ xs) (suc n) = (no-more x, added-rows e xs n)

more-twice : (xs ys zs : List Stream) → HaveMoreRows xs ys → HaveMoreRows ys zs → HaveMoreRows xs zs
more-twice [] ys zs first second = tt
more-twice (x ∷ xs) [] zs first second = absurd first
more-twice (x ∷ xs) (y ∷ ys) [] first second = absurd second
more-twice (x ∷ xs) (y ∷ ys) (z ∷ zs) first second = (
  (first.0.0 ++ second.0.0, second.0.1 ∙ ap (λ (l : List Extent). l ++ second.0.0) first.0.1 ∙ append_assoc x.extents first.0.0 second.0.0),
  more-twice xs ys zs first.1 second.1,
)

-- ---- states

module _ (held : List ℕ) (s : State) where
  pub state-same : IsLaterState held s s
  state-same = record { tables = later-same held (table s); rows = same-rows s.streams }

  pub state-with_stream : (name : List ℕ) (columns : List Column) → Fits (change.Stream name columns) (table s) → IsLaterState held s (with_stream s name columns)
  state-with_stream name columns fits = record {
    tables = subst (IsLater held (table s)) (sym (table-with_stream s name columns)) (later-changed held (table s) (change.Stream name columns) fits tt);
    rows = added-stream s.streams (record { name = name; columns = columns; extents = [] } ∷ []);
  }

  pub state-with_rows : (place : ℕ) (rows : List (List Value)) → Fits (change.Append place (extent_of (new_extent s.next_file rows))) (table s) → IsLaterState held s (with_rows s place rows)
  state-with_rows place rows fits = record {
    tables = subst (IsLater held (table s)) (sym (table-with_rows s place rows))
        (later-changed held (table s) (change.Append place (extent_of (new_extent s.next_file rows))) fits tt);
    rows = added-rows (new_extent s.next_file rows) s.streams place;
  }

  pub state-with_run : (program : Option Program) → IsLaterState held s (with_run s program)
  state-with_run program = record { tables = record { streams = same.streams; kept = same.kept }; rows = same-rows s.streams }
    where
      same : IsLater held (table s) (table s)
      same = later-same held (table s)

  pub state-with_work : (program : Option Program) (reads dropped : List ℕ) (kept : List PlainNewEntry) → Fits (change.Work program reads dropped kept) (table s) → AreFree held dropped
      → IsLaterState held s (with_work s program reads dropped kept)
  state-with_work program reads dropped kept fits free =
      record { tables = later-changed held (table s) (change.Work program reads dropped kept) fits free; rows = same-rows s.streams }

  pub state-with_collection : (ids : List ℕ) → Fits (change.Collect ids) (table s) → AreFree held ids → IsLaterState held s (with_collection s ids)
  state-with_collection ids fits free = record { tables = later-changed held (table s) (change.Collect ids) fits free; rows = same-rows s.streams }

pub state-twice : (held : List ℕ) (s u v : State) → IsLaterState held s u → IsLaterState held u v → IsLaterState held s v
state-twice held s u v first second = record {
  tables = later-twice held (table s) (table u) (table v) first.tables second.tables;
  rows = more-twice s.streams u.streams v.streams first.rows second.rows;
}

pub state-fewer : (held others : List ℕ) (s u : State) → AreHeld held others → IsLaterState held s u → IsLaterState others s u
state-fewer held others s u are later = record { tables = later-fewer held others (table s) (table u) are later.tables; rows = later.rows }
