-- The streams of a catalogue and of its table, and their names.
use Rattle.std.proofs.Common.{◌≡◌, ℕ, suc, ◌+◌, ◌==◌, not, nat_lt, cond, List, [], ◌∷◌, length, map, bytes_eq, Some, None, refl, sym, ap, subst, ◌∙◌, arith}
use Rattle.std.specs.Prelude.{position}
use Rattle.std.specs.List.{position_or_len, IsDistinct}
use Rattle.std.specs.List.Sorted.{IsStrictlySortedBy}
use Rattle.std.specs.Cmp.Lexicographic.{nat_list_eq_equiv}
use Rattle.rows_core.specs.declared.schema.Column.{Column}
use Rattle.entry_table.specs.Work.{Kept, none_kept}
use Rattle.catalog_types.specs.declared.program.Program.{Program}
use Rattle.catalog_core.specs.declared.stream.CatalogStream.{CatalogStream}
use Rattle.catalog_core.specs.IsTable.{IsTable}
use Rattle.catalog_core.specs.Programs as table
use Rattle.catalog_core.specs.Streams.{name_of, columns_of, states_of}
use Rattle.catalog_core.specs.Table.{place_of, table_with}

pub names-states : (streams : List CatalogStream) → map name_of streams ≡ table.names_of (states_of streams)
names-states [] = refl
names-states (x ∷ xs) = ap (λ (names : List (List ℕ)). name_of x ∷ names) (names-states xs)

pub columns-states : (streams : List CatalogStream) → map columns_of streams ≡ table.columns_of (states_of streams)
columns-states [] = refl
columns-states (x ∷ xs) = ap (λ (columns : List (List Column)). columns_of x ∷ columns) (columns-states xs)

-- the same test at the names and at the streams
at-names : (name : List ℕ) (streams : List CatalogStream)
    → position_or_len (λ key. bytes_eq name key) (map name_of streams) ≡ position_or_len (λ stream. bytes_eq stream.name name) (states_of streams)
at-names name [] = refl
at-names name (x ∷ xs) = λ i. cond (not (nat_list_eq_equiv.symm name x.name i)) (1 + at-names name xs i) 0

as-many : (streams : List CatalogStream) → length (map name_of streams) ≡ length (states_of streams)
as-many [] = refl
as-many (x ∷ xs) = ap suc (as-many xs)

-- the place of a name among the names is the place of its stream
pub place-is : (keys : List (List ℕ)) (streams : List CatalogStream) (name : List ℕ) → keys ≡ map name_of streams
    → position (λ key. bytes_eq name key) keys ≡ place_of (states_of streams) name
place-is keys streams name e =
    ap (λ names. position (λ key. bytes_eq name key) names) e
    ∙ (λ i. cond (nat_lt (at-names name streams i) (as-many streams i)) (Some (at-names name streams i)) None)

no-names : table.AreByName []
unfolding IsStrictlySortedBy
no-names = tt

no-files : IsDistinct (λ (a b : ℕ). a == b) []
unfolding IsDistinct
no-files = tt

-- the first table
pub first-table : (streams : List CatalogStream) (programs : List Program) (k : Kept) → streams ≡ [] → programs ≡ [] → k ≡ none_kept
    → IsTable (table_with 0 1 k.next_id (states_of streams) programs k.entries)
first-table [] [] k e f same =
    subst (λ (k : Kept). IsTable (table_with 0 1 k.next_id [] [] k.entries)) (sym same) (record {
      counted = omega arith;
      first_file = omega arith;
      last_file = omega arith;
      names = refl;
      are_streams = tt;
      few_streams = omega arith;
      few_extents = omega arith;
      few_programs = omega arith;
      by_name = no-names;
      stored = tt;
      kept = record { first = omega arith; ascend = refl; below = refl; few = omega arith; are_entries = tt; differ = tt };
      over = tt;
      keyed = tt;
      past = tt;
      ids = omega arith;
      own_files = record { given = tt; differ = no-files };
    })
first-table (x ∷ xs) programs k e f same = absurd (cc)
first-table [] (p ∷ ps) k e f same = absurd (cc)
