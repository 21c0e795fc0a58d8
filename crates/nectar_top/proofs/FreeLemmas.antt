-- A file that a state names no more is named by none that follows.
use Rattle.std.proofs.Common.{◌≡◌, ◌≢◌, ◌⊎◌, ◌∙◌, ℕ, zero, suc, ◌+◌, ◌<◌, ◌≤◌, ◌==◌, true, not, List, [], ◌∷◌, ◌++◌, Option, refl, sym, ap, subst, inl, inr, arith}
use Rattle.std.specs.List.{AllByRecursion, Contains}
use Rattle.std.proofs.lemmas.List.Elements.{Contains-append_cases, All-contains, All-from_recursion}
use Rattle.rows_core.specs.declared.schema.Column.{Column}
use Rattle.rows_core.specs.declared.value.Value.{Value}
use Rattle.std.proofs.lemmas.Bool.{eq-eqb, false≢true}
use Rattle.std.proofs.lemmas.List.Folds.{list_any_at}
use Rattle.plan_laws.proofs.Members.{at_front, behind, front_or_behind, none_in_nothing, mapped, mapped_from, was_there}
use Rattle.catalog_types.specs.PlainEntry.{PlainEntry, PlainNewEntry}
use Rattle.catalog_types.specs.declared.extent.Extent as of_table
use Rattle.catalog_types.specs.declared.program.Program.{Program}
use Rattle.catalog_types.specs.declared.snapshot.StreamState.{StreamState}
use Rattle.entry_table.specs.Ids.{is_among, is_there, without}
use Rattle.entry_table.specs.Keyed.{Digests}
use Rattle.entry_table.specs.Work.{new_entries, with_uses}
use Rattle.entry_table.proofs.Growth.{all-append, all-used, all-without}
use Rattle.admission.specs.Admitting.{MadeResult, Admits, entries_of, next_of}
use Rattle.admission.specs.declared.new_result.NewResult.{NewResult}
use Rattle.catalog_core.specs.Results.{digests_of}
use Rattle.catalog_core.specs.IsTable.{IsTable}
use Rattle.catalog_core.specs.Table.{updated}
use Rattle.catalog_core.proofs.OwnNumbers.{result-given, result-own, result-apart}
use Rattle.catalog_core.proofs.Kept.{all-push}
use Rattle.folder.specs.Next.{with_stream, with_rows, with_work, with_collection, grown, new_extent}
use Rattle.folder.specs.Removing.{IsFree}
use Rattle.folder_session.proofs.DroppedLemmas.{was_dropped, was_taken}
use Rattle.nectar_top.specs.Eviction.{Went}
use Rattle.folder.specs.State.{Extent, Stream, State, extent_of, stream_of, states_of, table}

-- the file isn't that of this kept result
abbrev IsOther : ℕ → PlainEntry → Type 0
IsOther file e = ¬ (e.file.file ≡ file)

-- ---- the files of extents

-- each of the new streams' extents is in an old stream, or its file was given from this number on
abbrev ExtentsFrom : ℕ → List Stream → List Stream → Type 0
ExtentsFrom next old new = (stream : Stream) (e : Extent) → Contains new stream → Contains stream.extents e → ((was : Stream) × Contains old was × Contains was.extents e) ⊎ (next ≤ e.file.file)

same_extents : (next : ℕ) (streams : List Stream) → ExtentsFrom next streams streams
same_extents next streams stream e has of_stream = inl (stream, has, of_stream)

stream_extents : (next : ℕ) (streams : List Stream) (new : Stream) → new.extents ≡ [] → ExtentsFrom next streams (streams ++ new ∷ [])
stream_extents next streams new none stream e has of_stream = elim (Contains-append_cases streams (new ∷ []) stream has) [
  | inl was ↦ inl (stream, was, of_stream)
  | inr last ↦ elim (front_or_behind new [] stream last) [
    | inl is ↦ absurd (none_in_nothing e (subst (λ (es : List Extent). Contains es e) (ap (λ (s : Stream). s.extents) (sym is) ∙ none) of_stream))
    | inr no_more ↦ absurd (none_in_nothing stream no_more)
  ]
]

-- one of them is another than before
updated_cases : {A : Type 0} (f : A → A) (xs : List A) (n : ℕ) (y : A) → Contains (updated f xs n) y → Contains xs y ⊎ ((x : A) × Contains xs x × (f x ≡ y))
updated_cases f [] n y has = absurd (none_in_nothing y has)
updated_cases f (x ∷ xs) zero y has = elim (front_or_behind (f x) xs y has) [
  | inl is ↦ inr (x, at_front x xs, is)
  | inr more ↦ inl (behind x xs y more)
]
updated_cases f (x ∷ xs) (suc n) y has = elim (front_or_behind x (updated f xs n) y has) [
  | inl is ↦ inl (subst (Contains (x ∷ xs)) is (at_front x xs))
  | inr more ↦ elim (updated_cases f xs n y more) [
    | inl was ↦ inl (behind x xs y was)
    | inr at ↦ inr (at.0, behind x xs at.0 at.1, at.2)
  ]
]

grown_extents : (next : ℕ) (streams : List Stream) (place : ℕ) (new : Extent) → new.file.file ≡ next → ExtentsFrom next streams (updated (grown new) streams place)
grown_extents next streams place new is stream e has of_stream = elim (updated_cases (grown new) streams place stream has) [
  | inl was ↦ inl (stream, was, of_stream)
  | inr at ↦ elim (Contains-append_cases at.0.extents (new ∷ []) e (subst (λ (s : Stream). Contains s.extents e) (sym at.2) of_stream)) [
    | inl was ↦ inl (at.0, at.1, was)
    | inr last ↦ elim (front_or_behind new [] e last) [
      | inl same ↦ inr (let file : new.file.file ≡ e.file.file = ap (λ (x : Extent). x.file.file) same in omega (arith, file, is))
      | inr no_more ↦ absurd (none_in_nothing e no_more)
    ]
  ]
]

-- ---- the files of kept results

module _ (file : ℕ) where
  others : (es : List PlainEntry) → ((e : PlainEntry) → Contains es e → e.file.file ≢ file) → AllByRecursion (IsOther file) es
  others [] each = tt
  others (e ∷ es) each = (each e (at_front e es), others es (λ x has. each x (behind e es x has)))

  each_other : (es : List PlainEntry) → AllByRecursion (IsOther file) es → (e : PlainEntry) → Contains es e → e.file.file ≢ file
  each_other es all e has = All-contains (IsOther file) es e (All-from_recursion (IsOther file) es all) has

  new_others : (digests : Digests) (tick id next : ℕ) (news : List PlainNewEntry) → file < next → AllByRecursion (λ new. next ≤ new.file.file) news → AllByRecursion (IsOther file) (new_entries digests tick id news)
  new_others digests tick id next [] low from = tt
  new_others digests tick id next (new ∷ news) low from = ((λ is. omega (arith, low, from.0, is)), new_others digests tick (id + 1) next news low from.1)

  worked_left : (digests : Digests) (tick id next : ℕ) (reads dropped : List ℕ) (news : List PlainNewEntry) (es : List PlainEntry) → file < next → AllByRecursion (λ new. next ≤ new.file.file) news → AllByRecursion (IsOther file) (without dropped es)
      → AllByRecursion (IsOther file) (with_uses tick reads (without dropped es) ++ new_entries digests tick id news)
  worked_left digests tick id next reads dropped news es low from left =
      all-append (IsOther file) (with_uses tick reads (without dropped es)) (new_entries digests tick id news)
      (all-used (IsOther file) (IsOther file) tick reads (λ e other. (other, other)) (without dropped es) left)
      (new_others digests tick id next news low from)

  worked_others : (digests : Digests) (tick id next : ℕ) (reads dropped : List ℕ) (news : List PlainNewEntry) (es : List PlainEntry) → file < next → AllByRecursion (λ new. next ≤ new.file.file) news → AllByRecursion (IsOther file) es
      → AllByRecursion (IsOther file) (with_uses tick reads (without dropped es) ++ new_entries digests tick id news)
  worked_others digests tick id next reads dropped news es low from all = worked_left digests tick id next reads dropped news es low from (all-without (IsOther file) dropped es all)

-- results that are admitted stand in files from this number on
abbrev IsFrom : ℕ → NewResult → Type 0
IsFrom next new = next ≤ new.entry.file.file

admitted_from : (entries : List PlainEntry) (next : ℕ) (before : List NewResult) (mades : List MadeResult) (admitted : List NewResult) → Admits entries next before mades admitted → AllByRecursion (IsFrom next) before → AllByRecursion (IsFrom next) admitted
admitted_from entries next before [] admitted is from = subst (AllByRecursion (IsFrom next)) (sym is) from
admitted_from entries next before (made ∷ mades) admitted (inl room) from =
    admitted_from entries next (before ++ next_of next before made ∷ []) mades admitted room.1 (all-push (IsFrom next) before (next_of next before made) from (omega arith))
admitted_from entries next before (made ∷ mades) admitted (inr no_room) from = admitted_from entries next before mades admitted no_room.1 from

entries_from : (next : ℕ) (admitted : List NewResult) → AllByRecursion (IsFrom next) admitted → AllByRecursion (λ new. next ≤ new.file.file) (entries_of admitted)
entries_from next [] from = tt
entries_from next (new ∷ news) from = (from.0, entries_from next news from.1)

pub news_from : (entries : List PlainEntry) (next : ℕ) (mades : List MadeResult) (admitted : List NewResult) (news : List PlainNewEntry) → Admits entries next [] mades admitted → news ≡ entries_of admitted → AllByRecursion (λ (new : PlainNewEntry). next ≤ new.file.file) news
news_from entries next mades admitted news admits is =
    subst (AllByRecursion (λ (new : PlainNewEntry). next ≤ new.file.file)) (sym is) (entries_from next admitted (admitted_from entries next [] mades admitted admits tt))

-- ---- the states that follow

-- where so it is with the streams and the kept results
free_then : (s new : State) (file : ℕ) → s.next_file ≤ new.next_file → ExtentsFrom s.next_file s.streams new.streams → (AllByRecursion (IsOther file) s.entries → AllByRecursion (IsOther file) new.entries) → IsFree (table s) file → IsFree (table new) file
free_then s new file later extents results free = record {
  given = (free.given.0, omega (arith, free.given.1, later));
  no_extent = λ stream extent has of_stream is.
      let from = mapped_from stream_of new.streams stream has in
      let e = mapped_from extent_of from.0.extents extent (subst (λ (x : StreamState). Contains x.extents extent) (sym from.2) of_stream) in
      let same : e.0.file.file ≡ file = ap (λ (x : of_table.Extent). x.file.file) e.2 ∙ is in
      elim (extents from.0 e.0 from.1 e.1) [
        | inl old ↦ free.no_extent (stream_of old.0) (extent_of e.0) (mapped stream_of s.streams old.0 old.1) (mapped extent_of old.0.extents e.0 old.2) same
        | inr above ↦ absurd (omega (arith, free.given.1, above, same))
      ];
  no_result = each_other file new.entries (results (others file s.entries free.no_result));
}

-- a kept result of the first state, whose file is then another's than that of each extent and of each kept result
module _ (s : State) (is_table : IsTable (table s)) (e : PlainEntry) (has : Contains s.entries e) where
  result_free : (new : State) → s.next_file ≤ new.next_file → ExtentsFrom s.next_file s.streams new.streams → AllByRecursion (IsOther e.file.file) new.entries → IsFree (table new) e.file.file
  result_free new later extents results =
      let given = result-given (table s) e is_table has in
      record {
        given = (given.0, (let low = given.1 in omega (arith, low, later)));
        no_extent = λ stream extent has_stream of_stream is.
            let from = mapped_from stream_of new.streams stream has_stream in
            let of = mapped_from extent_of from.0.extents extent (subst (λ (x : StreamState). Contains x.extents extent) (sym from.2) of_stream) in
            let same : of.0.file.file ≡ e.file.file = ap (λ (x : of_table.Extent). x.file.file) of.2 ∙ is in
            elim (extents from.0 of.0 from.1 of.1) [
              | inl old ↦ result-apart (table s) e (stream_of old.0) (extent_of of.0) is_table has (mapped stream_of s.streams old.0 old.1) (mapped extent_of old.0.extents of.0 old.2) (sym same)
              | inr above ↦ (let low = given.1 in absurd (omega (arith, low, above, same)))
            ];
        no_result = each_other e.file.file new.entries results;
      }

  -- no other one has it
  left_others : (ids : List ℕ) → is_among ids e.id ≡ true → AllByRecursion (IsOther e.file.file) (without ids s.entries)
  left_others ids among =
      others e.file.file (without ids s.entries) (λ x left same.
      let was = was_there (λ (y : PlainEntry). not (is_among ids y.id)) s.entries x left in
      let one : e ≡ x = result-own (table s) e x is_table has was.0 (sym same) in
      false≢true (ap not (sym (ap (λ (y : PlainEntry). is_among ids y.id) (sym one) ∙ among)) ∙ was.1))

-- A state that follows: it names no file that wasn't named any more, and none of kept results that went.
pub record LetsGo (s new : State) : Type 0 where
  pub keeps : (file : ℕ) → IsFree (table s) file → IsFree (table new) file
  pub loses : IsTable (table s) → (file : ℕ) → Went s new file → IsFree (table new) file

-- none went where the kept results are as they were
pub none_there : (s new : State) → new.entries ≡ s.entries → (file : ℕ) → Went s new file → ⊥
none_there s new same file (e, has, out, is) =
    false≢true (sym out ∙ ap (λ (es : List PlainEntry). is_there es e.id) same ∙ list_any_at (λ (x : PlainEntry). x.id == e.id) s.entries has.0 e has.1 (ap (λ (x : PlainEntry). x.id == e.id) has.2 ∙ eq-eqb e.id e.id refl))

pub free_same : (s new : State) → new ≡ s → LetsGo s new
free_same s new is = record {
  keeps = λ file free. subst (λ (x : State). IsFree (table x) file) (sym is) free;
  loses = λ is_table file went. absurd (none_there s new (ap (λ (x : State). x.entries) is) file went);
}

pub free_stream : (s : State) (name : List ℕ) (columns : List Column) → LetsGo s (with_stream s name columns)
free_stream s name columns = record {
  keeps = λ file free. free_then s (with_stream s name columns) file (omega arith) (stream_extents s.next_file s.streams (record { name = name; columns = columns; extents = [] }) refl) (λ all. all) free;
  loses = λ is_table file went. absurd (none_there s (with_stream s name columns) refl file went);
}

pub free_rows : (s : State) (place : ℕ) (rows : List (List Value)) → LetsGo s (with_rows s place rows)
free_rows s place rows = record {
  keeps = λ file free. free_then s (with_rows s place rows) file (omega arith) (grown_extents s.next_file s.streams place (new_extent s.next_file rows) refl) (λ all. all) free;
  loses = λ is_table file went. absurd (none_there s (with_rows s place rows) refl file went);
}

pub free_work : (s : State) (program : Option Program) (reads dropped : List ℕ) (news : List PlainNewEntry) → AllByRecursion (λ (new : PlainNewEntry). s.next_file ≤ new.file.file) news → LetsGo s (with_work s program reads dropped news)
free_work s program reads dropped news from =
    let new = with_work s program reads dropped news in
    let digests = digests_of (states_of s.streams) in
    record {
      keeps = λ file free. free_then s new file (omega arith) (same_extents s.next_file s.streams) (worked_others file digests (s.tick + 1) s.next_id s.next_file reads dropped news s.entries free.given.1 from) free;
      loses = λ is_table file went.
          let e = went.0 in
          let among = was_dropped (s.tick + 1) reads dropped s.entries (new_entries digests (s.tick + 1) s.next_id news) e went.1 went.2 in
          let low = (result-given (table s) e is_table went.1).1 in
          let left = left_others s is_table e went.1 dropped among in
          subst (IsFree (table new)) went.3
          (result_free s is_table e went.1 new (omega arith) (same_extents s.next_file s.streams)
          (worked_left e.file.file digests (s.tick + 1) s.next_id s.next_file reads dropped news s.entries low from left));
    }

pub free_collection : (s : State) (ids : List ℕ) → LetsGo s (with_collection s ids)
free_collection s ids =
    let new = with_collection s ids in
    record {
      keeps = λ file free. free_then s new file (omega arith) (same_extents s.next_file s.streams) (all-without (IsOther file) ids s.entries) free;
      loses = λ is_table file went.
          let e = went.0 in
          subst (IsFree (table new)) went.3
          (result_free s is_table e went.1 new (omega arith) (same_extents s.next_file s.streams) (left_others s is_table e went.1 ids (was_taken ids s.entries e went.1 went.2)));
    }
