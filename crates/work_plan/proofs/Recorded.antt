-- What a piece of work records fits the table, and has a spelling, which is short.
use Rattle.std.proofs.Common.{◌≡◌, refl, sym, ap, ◌∙◌, subst, inl, inr, ℕ, ◌+◌, ◌<◌, ◌≤◌, List, [], ◌∷◌, ◌++◌, length, map, Option, IfSome, arith}
use Rattle.std.specs.List.{AllByRecursion}
use Rattle.std.proofs.lemmas.List.{length-map}
use Rattle.std.proofs.lemmas.List.FromFn.{length-range_with_len}
use Rattle.sha2.proofs.Facts256.{length-sha256}
use Rattle.rows_core.specs.Name.{IsName}
use Rattle.row_blob.specs.Spelling.{kept_spelling}
use Rattle.plan_core.specs.PlainPlan.{plan_of}
use Rattle.executor.specs.declared.outcome.KeptPlace.{KeptPlace}
use Rattle.admission.specs.declared.new_result.NewResult.{NewResult}
use Rattle.admission.specs.Admitting.{MadeResult, made_of, kept_in, next_of, entries_of, Admits}
use Rattle.admission.proofs.Behind.{all-behind}
use Rattle.catalog_types.specs.PlainEntry.{PlainEntry, PlainNewEntry}
use Rattle.catalog_types.specs.declared.change.Change.{Change}
use Rattle.catalog_types.specs.declared.change.Change.TheVariants.{Work}
use Rattle.catalog_types.specs.declared.program.Program.{Program}
use Rattle.catalog_types.specs.declared.snapshot.StreamState.{StreamState}
use Rattle.entry_table.proofs.Growth.{all-map}
use Rattle.entry_table.specs.Ids.{AreIdsOf, without}
use Rattle.entry_table.specs.Results.{MayBeKept}
use Rattle.rows_core.specs.Limits.{most_entries, file_end}
use Rattle.entry_table.proofs.Files.{files-fit}
use Rattle.catalog_core.specs.IsTable.{IsTable}
use Rattle.catalog_core.specs.Results.{IsResultOver}
use Rattle.catalog_core.specs.Table.{Table, Fits, FitsProgram}
use Rattle.rows_core.specs.Limits.{most_ticks}
use Rattle.record_codec.specs.Limits.{IsWithinLimits}
use Rattle.record_codec.specs.Spelling.{change_spelling, IsNumber, HasChangeSpelling}
use Rattle.work_plan.specs.declared.work.WorkPlan.{WorkPlan}
use Rattle.work_plan.specs.Fitting.{IsFit}
use Rattle.work_plan.specs.Planning.{ids_from, files_of, IsWorkPlan}
use Rattle.work_plan.proofs.Spelled.{WrittenLimits, program-spelled, IsKnown, results-spelled}
use Rattle.work_plan.proofs.UsedIds.{ids-below, ids-few}

pub all-mapped : {A B : Type 0} (f : A → B) (P : B → Type 0) (xs : List A) → AllByRecursion (λ (x : A). P (f x)) xs → AllByRecursion P (map f xs)
all-mapped f P [] all = tt
all-mapped f P (x ∷ xs) all = (all.0, all-mapped f P xs all.1)

-- ---- what holds of each result that was made, as it is kept in some file, holds of those that are admitted

all-admitted : (entries : List PlainEntry) (file : ℕ) (P : MadeResult → Type 0) (Q : NewResult → Type 0) → ((file : ℕ) (made : MadeResult) → P made → Q (kept_in file made))
    → (before : List NewResult) (mades : List MadeResult) (admitted : List NewResult) → AllByRecursion P mades → AllByRecursion Q before → Admits entries file before mades admitted
    → AllByRecursion Q admitted
all-admitted entries file P Q each before [] admitted all so-far is = subst (AllByRecursion Q) (sym is) so-far
all-admitted entries file P Q each before (made ∷ mades) admitted all so-far (inl is) =
    all-admitted entries file P Q each (before ++ next_of file before made ∷ []) mades admitted all.1
    (all-behind Q before (next_of file before made) so-far (each (file + length before) made all.0)) is.1
all-admitted entries file P Q each before (made ∷ mades) admitted all so-far (inr is) = all-admitted entries file P Q each before mades admitted all.1 so-far is.1

-- a made result may be recorded
abbrev pub IsFitMade : List StreamState → MadeResult → Type 0
IsFitMade streams made = IsFit streams made.plan made.cuts × (0 < made.machine)

pub mades-fit : (streams : List StreamState) (made : List KeptPlace) → AllByRecursion (λ (kept : KeptPlace). IsFit streams (plan_of kept.plan) kept.cuts × (0 < kept.machine)) made
    → AllByRecursion (IsFitMade streams) (map made_of made)
mades-fit streams made all = all-mapped made_of (IsFitMade streams) made all

pub mades-timed : (streams : List StreamState) (mades : List MadeResult) → AllByRecursion (IsFitMade streams) mades → AllByRecursion (λ (made : MadeResult). 0 < made.machine) mades
mades-timed streams mades all = all-map (IsFitMade streams) (λ (made : MadeResult). 0 < made.machine) (λ made is. is.1) mades all

admitted-known : (streams : List StreamState) (entries : List PlainEntry) (file : ℕ) (mades : List MadeResult) (admitted : List NewResult) → AllByRecursion (IsFitMade streams) mades
    → Admits entries file [] mades admitted → AllByRecursion (IsKnown streams) (entries_of admitted)
admitted-known streams entries file mades admitted all is =
    all-mapped (λ (new : NewResult). new.entry) (IsKnown streams) admitted
    (all-admitted entries file (IsFitMade streams) (λ (new : NewResult). IsKnown streams new.entry)
    (λ file made fit. record { fit = fit.0; digest = length-sha256 (kept_spelling made.form) }) [] mades admitted all tt is)

-- ---- the change

pub record IsRecordable (t : Table) (program : Option Program) (used dropped : List ℕ) (admitted : List NewResult) : Type 0 where
  pub fits : Fits (Work program used dropped (entries_of admitted)) t
  pub spelled : HasChangeSpelling (Work program used dropped (entries_of admitted))
  pub within : IsWithinLimits (Work program used dropped (entries_of admitted))
  pub numbered : t.next_id + length admitted ≤ 4294967296
  pub few : length admitted ≤ 4096

pub recordable : (t : Table) → IsTable t → t.tick < most_ticks → WrittenLimits → (program : Option Program) → IfSome program (λ (program : Program). IsName program.name)
    → FitsProgram program t → (used : List ℕ) → AreIdsOf t.entries used → (dropped : List ℕ) → AreIdsOf t.entries dropped
    → (mades : List MadeResult) → AllByRecursion (IsFitMade t.streams) mades
    → (admitted : List NewResult) → Admits (without dropped t.entries) t.next_file [] mades admitted → MayBeKept t.entries dropped t.next_file (entries_of admitted)
    → AllByRecursion (λ (new : PlainNewEntry). IsNumber new.machine) (entries_of admitted) → IsRecordable t program used dropped admitted
recordable t is counted limits program named stored used ids dropped gone mades fit admitted admits may numbers =
    let news = entries_of admitted in
    let known = admitted-known t.streams (without dropped t.entries) t.next_file mades admitted fit admits in
    let spelled = program-spelled t is.are_streams limits program named stored in
    let same : length news ≡ length admitted = length-map admitted (λ (new : NewResult). new.entry) in
    let kept-few : length t.entries ≤ most_entries = is.kept.few in
    let used-few : length used ≤ length t.entries = ids-few 0 t.entries used is.kept.ascend ids.ascend ids.there in
    let dropped-few : length dropped ≤ length t.entries = ids-few 0 t.entries dropped is.kept.ascend gone.ascend gone.there in
    let all-few = may.are_new.few in
    let few : length news ≤ 4096 = omega (arith, all-few) in
    let last : t.next_file ≤ file_end = is.last_file in
    let id : t.next_id ≤ t.next_file = is.ids in
    let numbered : t.next_id + length news ≤ file_end = files-fit t.next_id t.next_file news id last may.files in
    let small = ids-below t.next_id t.entries used is.kept.below ids.there in
    let dropped-small = ids-below t.next_id t.entries dropped is.kept.below gone.there in
    record {
      fits = record {
        counted = counted;
        results = record {
          over = all-map (IsKnown t.streams) (IsResultOver t.streams) (λ new is. is.fit.over) news known;
          results = record { read = ids; gone = gone; kept = may };
        };
        stored = stored;
      };
      spelled = (
        spelled.spelled,
        (omega (arith, used-few, kept-few), all-map (λ (i : ℕ). i < t.next_id) IsNumber (λ i less. omega (arith, less, id, last)) used small),
        (omega (arith, dropped-few, kept-few), all-map (λ (i : ℕ). i < t.next_id) IsNumber (λ i less. omega (arith, less, id, last)) dropped dropped-small),
        (omega (arith, few), results-spelled t.streams is.are_streams t.next_file news known numbers may.files may.are_new.results may.short),
      );
      within = (spelled.short, omega (arith, used-few, kept-few), omega (arith, dropped-few, kept-few), (few, may.short));
      numbered = omega (arith, numbered, same);
      few = omega (arith, few, same);
    }

-- those that are admitted may be kept
abbrev pub KeepingLaw : Type 0
KeepingLaw = (entries : List PlainEntry) (dropped : List ℕ) (file : ℕ) (mades : List MadeResult) (admitted : List NewResult) → length entries ≤ most_entries
    → AllByRecursion (λ (made : MadeResult). 0 < made.machine) mades → Admits (without dropped entries) file [] mades admitted → MayBeKept entries dropped file (entries_of admitted)

pub planned : (t : Table) → IsTable t → t.tick < most_ticks → WrittenLimits → KeepingLaw → (program : Option Program) → IfSome program (λ (program : Program). IsName program.name)
    → FitsProgram program t → (used : List ℕ) → AreIdsOf t.entries used → (dropped : List ℕ) → AreIdsOf t.entries dropped
    → (made : List KeptPlace) → AllByRecursion (λ (kept : KeptPlace). IsFit t.streams (plan_of kept.plan) kept.cuts × (0 < kept.machine)) made
    → (admitted : List NewResult) → Admits (without dropped t.entries) t.next_file [] (map made_of made) admitted → (entries : List PlainNewEntry) → entries ≡ entries_of admitted
    → AllByRecursion (λ (new : PlainNewEntry). IsNumber new.machine) entries → IsRecordable t program used dropped admitted
planned t is counted limits keeping program named stored used ids dropped gone made fit admitted admits entries same numbers =
    let mades = map made_of made in
    let all = mades-fit t.streams made fit in
    recordable t is counted limits program named stored used ids dropped gone mades all admitted admits
    (keeping t.entries dropped t.next_file mades admitted is.kept.few (mades-timed t.streams mades all) admits)
    (subst (AllByRecursion (λ (new : PlainNewEntry). IsNumber new.machine)) same numbers)

-- ---- the whole

pub length-ids : (first count : ℕ) → length (ids_from first count) ≡ count
length-ids first count = length-range_with_len first count

pub is-work-plan : (t : Table) (program : Option Program) (used dropped : List ℕ) (mades : List MadeResult) (admitted : List NewResult)
    → Admits (without dropped t.entries) t.next_file [] mades admitted → IsRecordable t program used dropped admitted → ((change : Change) → HasChangeSpelling change → IsWithinLimits change → length (change_spelling change) < 536870912)
    → (plan : WorkPlan) → plan.change ≡ Work program used dropped (entries_of admitted) → plan.body.items ≡ change_spelling plan.change → plan.files.items ≡ files_of admitted
    → plan.kept.items ≡ ids_from t.next_id (length admitted) → IsWorkPlan t program used dropped mades plan
is-work-plan t program used dropped mades admitted admits good law plan change body files kept =
    let spelled : HasChangeSpelling plan.change = subst HasChangeSpelling (sym change) good.spelled in
    let short = law plan.change spelled (subst IsWithinLimits (sym change) good.within) in
    let bytes : length plan.body.items ≡ length (change_spelling plan.change) = ap length body in
    let count : length plan.kept.items ≡ length admitted = ap length kept ∙ length-ids t.next_id (length admitted) in
    let few = good.few in
    record {
      admitted = admitted;
      admits = admits;
      change = change;
      fits = subst (λ change. Fits change t) (sym change) good.fits;
      spelled = spelled;
      is_body = body;
      short = omega (arith, short, bytes);
      files = files;
      kept = kept;
      few = omega (arith, count, few);
    }
