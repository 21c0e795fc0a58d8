-- What was read of open work is what a later state's extents and kept results are.
use Rattle.std.proofs.Common.{◌≡◌, ◌⊎◌, inl, inr, refl, sym, ap, ◌∙◌, subst, ℕ, zero, suc, ◌+◌, ◌-◌, ◌≤◌, max, List, [], ◌∷◌, ◌++◌, length, Option, arith}
use Rattle.std.specs.List.{Contains, AllByRecursion, flat_map}
use Rattle.std.specs.Option.{IfSome}
use Rattle.rows_core.specs.declared.cut.Cut.{Cut}
use Rattle.plan_core.specs.Columns.{Rows}
use Rattle.plan_core.specs.PlainPlan.{PlainPlan, leaves}
use Rattle.plan_core.specs.PlanTyping.{Kinds}
use Rattle.plan_laws.specs.KeptForm.{kept_form}
use Rattle.rewrite_core.specs.Files.{Result, extents_from}
use Rattle.growth_laws.specs.KeptResults.{KeptResult}
use Rattle.growth_laws.specs.Lists.{extents_of, interval_rows}
use Rattle.growth_laws.specs.Pieces.{Piece, Entry, Gathered, piece_files, gathered_files}
use Rattle.gathering.specs.Gathered.{Gathers}
use Rattle.executor.specs.Progress.{Loaded, IsLoadOf, IsPartOf, ArePartsOf, HasRead, HaveRead, up_to}
use Rattle.executor.specs.declared.part.Part.{Part}
use Rattle.executor.specs.declared.part.Part.TheVariants as part
use Rattle.catalog_types.specs.PlainEntry.{PlainEntry}
use Rattle.catalog_core.specs.IsTable.{IsTable}
use Rattle.catalog_core.specs.Programs.{extents_at}
use Rattle.catalog_core.proofs.Typings.{sides}
use Rattle.catalog_core.proofs.AskedResults.{all-at}
use Rattle.folder.specs.Files.{form_of, result_of, results_in}
use Rattle.folder.specs.State.{State, table, states_of, kinds_in, extents_in, lists_in}
use Rattle.folder.proofs.HeldForms.{result-with}
use Rattle.later_states.specs.Later.{IsSameResult, IsLaterState}
use Rattle.later_states.proofs.Kept.{StaysFile, kept-later}
use Rattle.later_states.proofs.Parts.{part-gathers}
use Rattle.later_states.proofs.Rows.{rows-grow, interval-stays, lists-stay}
use Rattle.later_states.proofs.Streams.{kinds-grown}

module _ (held : List ℕ) (s u : State) (is_s : IsTable (table s)) (is_u : IsTable (table u)) (later : IsLaterState held s u) where
  -- ---- kept results

  -- a kept result is of the same plan at the same rows
  same-result : (e f : PlainEntry) → Contains s.entries e → IsSameResult e f → result_of u.streams f ≡ result_of s.streams e
  same-result e f has is =
      let over = all-at _ s.entries e is_s.over has in
      let lists : lists_in u.streams e.plan e.cuts ≡ lists_in s.streams e.plan e.cuts = lists-stay s.streams u.streams (rows-grow s.streams u.streams later.rows) (leaves e.plan) e.cuts over.are_cuts in
      (λ i. record { form = form_of (kept_form (is.plan i) (lists_in u.streams (is.plan i) (is.cuts i))); machine = is.machine i })
      ∙ ap (λ (l : List Rows). record { form = form_of (kept_form e.plan l); machine = e.machine }) lists

  result-stays : (id : ℕ) → StaysFile held (table s) (Result id) → results_in u id ≡ results_in s id
  result-stays id stays =
      let both = kept-later held (table s) (table u) is_s is_u later.tables id stays.0 stays.1 in
      let old : results_in s id ≡ result_of s.streams both.0 = subst (λ (n : ℕ). results_in s n ≡ result_of s.streams both.0) both.4 (result-with s both.0 is_s.kept both.2) in
      let new : results_in u id ≡ result_of u.streams both.1 =
      subst (λ (n : ℕ). results_in u n ≡ result_of u.streams both.1) (both.5.id ∙ both.4) (result-with u both.1 is_u.kept both.3) in
      new ∙ same-result both.0 both.1 both.2 both.5 ∙ sym old

  loaded-stays : (plan : PlainPlan) (id : ℕ) (loaded : Option Loaded) → StaysFile held (table s) (Result id) → IfSome loaded (IsLoadOf plan (results_in s id)) → IfSome loaded (IsLoadOf plan (results_in u id))
  loaded-stays plan id loaded stays = subst (λ (r : KeptResult). IfSome loaded (IsLoadOf plan r)) (sym (result-stays id stays))

  -- ---- rows that were fed

  -- an interval whose extents are there ends within them, if it isn't empty
  ends-within : (stream from count : ℕ) → AllByRecursion (StaysFile held (table s)) (extents_from stream from count) → (count ≡ 0) ⊎ (from + count ≤ length (extents_at (states_of s.streams) stream))
  ends-within stream from zero all = inl refl
  ends-within stream from (suc count) all = inr (by (ends-within stream (from + 1) count all.1))
    where
      by : (count ≡ 0) ⊎ (from + 1 + count ≤ length (extents_at (states_of s.streams) stream)) → from + suc count ≤ length (extents_at (states_of s.streams) stream)
      by (inl none) = let first = all.0 in omega (arith, none, first)
      by (inr rest) = omega (arith, rest)

  -- so do its extents before this one
  fed-within : (stream : ℕ) (cut : Cut) (next : ℕ) → next ≤ max cut.from cut.to → AllByRecursion (StaysFile held (table s)) (extents_from stream cut.from (cut.to - cut.from))
      → (next ≤ cut.from) ⊎ (next ≤ length (extents_at (states_of s.streams) stream))
  fed-within stream cut next most all = by (ends-within stream cut.from (cut.to - cut.from) all)
    where
      by : (cut.to - cut.from ≡ 0) ⊎ (cut.from + (cut.to - cut.from) ≤ length (extents_at (states_of s.streams) stream)) → (next ≤ cut.from) ⊎ (next ≤ length (extents_at (states_of s.streams) stream))
      by (inl none) = inl (omega (arith, most, none))
      by (inr low) = inr (omega (arith, most, low))

  module _ (others : List Kinds) where
    fed-stays : (plan : PlainPlan) (cut : Cut) (p : Part) → AllByRecursion (StaysFile held (table s)) (piece_files (Gathered plan (cut ∷ []))) → IsPartOf (kinds_in s.streams) (Gathered plan (cut ∷ [])) p
        → HasRead (kinds_in s.streams) (extents_in s.streams) (results_in s) (Gathered plan (cut ∷ [])) p
        → HasRead (kinds_in s.streams ++ others) (extents_in u.streams) (results_in u) (Gathered plan (cut ∷ [])) p
    fed-stays plan cut (part.Entry boxed id loaded) all is read = absurd is
    fed-stays plan cut (part.Gathered gathering stream next end) all is read = λ other same.
        let fed = read other same in
        let files : AllByRecursion (StaysFile held (table s)) (extents_from stream cut.from (cut.to - cut.from)) =
        subst (λ (l : List ℕ). AllByRecursion (StaysFile held (table s)) (gathered_files l (cut ∷ []))) is.of_stream all in
        let same_cut : cut ≡ other = cc in
        let here : AllByRecursion (StaysFile held (table s)) (extents_from stream other.from (other.to - other.from)) =
        subst (λ (c : Cut). AllByRecursion (StaysFile held (table s)) (extents_from stream c.from (c.to - c.from))) same_cut files in
        let rows : interval_rows (extents_of (extents_in u.streams) stream) (up_to other next) ≡ interval_rows (extents_of (extents_in s.streams) stream) (up_to other next) =
        interval-stays s.streams u.streams (rows-grow s.streams u.streams later.rows) stream (up_to other next) fed.begun (fed-within stream other next fed.within here) in
        record {
          ends = fed.ends;
          begun = fed.begun;
          within = fed.within;
          gathers = subst (λ (l : Rows). Gathers (kinds_in s.streams ++ others) l gathering) (sym rows)
              (part-gathers (kinds_in s.streams) others plan gathering stream (interval_rows (extents_of (extents_in s.streams) stream) (up_to other next)) is fed.gathers);
        }

    read-stays : (piece : Piece) (p : Part) → AllByRecursion (StaysFile held (table s)) (piece_files piece) → IsPartOf (kinds_in s.streams) piece p
        → HasRead (kinds_in s.streams) (extents_in s.streams) (results_in s) piece p → HasRead (kinds_in s.streams ++ others) (extents_in u.streams) (results_in u) piece p
    read-stays (Entry plan id) (part.Entry boxed id' loaded) all is read = loaded-stays plan id loaded all.0 read
    read-stays (Entry plan id) (part.Gathered gathering stream next end) all is read = absurd is
    read-stays (Gathered plan cuts) (part.Entry boxed id loaded) all is read = absurd is
    read-stays (Gathered plan []) (part.Gathered gathering stream next end) all is read = λ other same. absurd (none other same)
      where
        none : (other : Cut) → [] ≡ other ∷ [] → ⊥
        none other same = cc
    read-stays (Gathered plan (cut ∷ [])) p all is read = fed-stays plan cut p all is read
    read-stays (Gathered plan (cut ∷ further ∷ cuts)) (part.Gathered gathering stream next end) all is read = λ other same. absurd (none other same)
      where
        none : (other : Cut) → cut ∷ further ∷ cuts ≡ other ∷ [] → ⊥
        none other same = cc

    reads-stay : (pieces : List Piece) (parts : List Part) → AllByRecursion (StaysFile held (table s)) (flat_map piece_files pieces) → ArePartsOf (kinds_in s.streams) pieces parts
        → HaveRead (kinds_in s.streams) (extents_in s.streams) (results_in s) pieces parts → HaveRead (kinds_in s.streams ++ others) (extents_in u.streams) (results_in u) pieces parts
    reads-stay [] [] all are read = tt
    reads-stay [] (p ∷ parts) all are read = absurd are
    reads-stay (piece ∷ pieces) [] all are read = absurd are
    reads-stay (piece ∷ pieces) (p ∷ parts) all are read =
        let two = sides (StaysFile held (table s)) (piece_files piece) (flat_map piece_files pieces) all in
        (read-stays piece p two.0 are.0 read.0, reads-stay pieces parts two.1 are.1 read.1)

  pub all-read : (pieces : List Piece) (parts : List Part) → AllByRecursion (StaysFile held (table s)) (flat_map piece_files pieces) → ArePartsOf (kinds_in s.streams) pieces parts
      → HaveRead (kinds_in s.streams) (extents_in s.streams) (results_in s) pieces parts → HaveRead (kinds_in u.streams) (extents_in u.streams) (results_in u) pieces parts
  all-read pieces parts all are read =
      let more = kinds-grown (states_of s.streams) (states_of u.streams) later.tables.streams in
      subst (λ (ks : List Kinds). HaveRead ks (extents_in u.streams) (results_in u) pieces parts) (sym more.1) (reads-stay more.0 pieces parts all are read)
