-- The file of an append.
use Rattle.std.proofs.Common.{◌≡◌, ◌+◌, ◌<◌, ◌^◌, ℕ, List, refl, ap, subst, length, arith}
use Rattle.rows_core.specs.declared.value.Value.{Value}
use Rattle.catalog_types.specs.declared.change.Change.{Change}
use Rattle.catalog_types.specs.declared.change.Change.TheVariants as change
use Rattle.catalog_core.specs.Table.{Table, Fits}
use Rattle.folder.specs.Next.{new_extent}
use Rattle.folder.specs.State as folder
use Rattle.folder.specs.State.{State, table, extent_of}
use Rattle.planning.specs.Appending.{Append, append_change, file_bytes}

-- its bytes are those that the state speaks of
pub file_is : (rows : List (List Value)) → file_bytes rows ≡ folder.file_bytes rows
unfolding folder.file_bytes
file_is rows = refl

-- what is recorded is the extent of the next state
pub change_of : (s : State) (a : Append) → append_change (table s) a ≡ change.Append a.place (extent_of (new_extent s.next_file a.rows))
change_of s a = ap (λ b. change.Append a.place (record { file = folder.ref_of s.next_file b; rows = length a.rows })) (file_is a.rows)

-- the file of an append is none ahead of the next one, and that has a number in 32 bits
pub none_ahead : (n : ℕ) → n + 0 ≡ n
none_ahead n = omega arith

pub next_number : (t : Table) (c : Change) (a : Append) → c ≡ append_change t a → Fits c t → t.next_file + 0 < 2 ^ 32
next_number t c a is fits =
    let one = (subst (λ x. Fits x t) is fits).is_next.numbered in
    omega (arith, one)
