-- Where the rows of a text stop.
use Rattle.std.proofs.Common.{◌≡◌, ◌+◌, ◌++◌, ℕ, Bool, false, List, [], ◌∷◌, length, Option, Result, Ok, Err, refl, sym, ap, ◌∙◌, subst, inl, inr}
use Rattle.std.proofs.KnownBytes.{Appends-trans}
use Rattle.std.specs.Io.KnownBytes.{Appends}
use Rattle.std.proofs.lemmas.Bool.{false≢true}
use Rattle.std.specs.Bool.{IsTrue}
use Rattle.std.specs.Result.{IfErr}
use Rattle.rows_core.specs.declared.value.Value.{Value}
use Rattle.rows_core.specs.declared.schema.Column.{Column}
use Rattle.csv.specs.declared.reader.Reader.{Reader}
use Rattle.csv.specs.Reading.{reader_state}
use Rattle.csv_script.specs.Blocks.{beginning, blocks_text, joined}
use Rattle.csv_script.specs.Reading.{task_of, IsReading, IsUnderWay, Task}
use Rattle.csv_script.specs.Records.{ArePicks, AreRowsOf}
use Rattle.csv_script.specs.Refusals.{AreFirstRecordsOf, IsNotTaken, IsRefusedFor, IsStopped, IsUntaken, IsUnwritten}
use Rattle.csv_script.specs.declared.append.AppendRefusal.{AppendRefusal}
use Rattle.csv_script.specs.declared.append.AppendRefusal.TheVariants as append
use Rattle.csv_script.specs.declared.pick.Pick.{Pick}
use Rattle.csv_script.specs.declared.record.RecordRefusal.{RecordRefusal}

pub if_err : {T E : Type 0} {Q : E → Type 0} (r : Result T E) → ((e : E) → r ≡ Err e → Q e) → IfErr r Q
if_err (Ok x) f = tt
if_err (Err e) f = f e refl

-- no record was left out where that isn't asked for
none_left_out : (skips : Bool) (picks : List Pick) (width : ℕ) (records : List (List (List ℕ))) (rows : List (List Value)) (skipped : ℕ) → skips ≡ false
    → AreRowsOf skips picks width records rows skipped → AreRowsOf false picks width records rows 0
none_left_out skips picks width [] rows skipped stays all = (all.0, refl)
none_left_out skips picks width (fields ∷ records) rows skipped stays (inl is) = inl (is.0, is.1, is.2, is.3, none_left_out skips picks width records is.1 skipped stays is.4)
none_left_out skips picks width (fields ∷ records) rows skipped stays (inr is) = absurd (false≢true (subst IsTrue stays is.0))

pub first_records : {R : Type 0} (left : R → Option (List ℕ)) (text : List ℕ) (records : List (List (List ℕ))) (reader : Reader R) → IsReading left text records reader → AreFirstRecordsOf text records
first_records left text records reader is = (reader_state reader, is.rest, is.reached)

-- the next record was refused
IsStopped-here : {R : Type 0} (left : R → Option (List ℕ)) (text : List ℕ) (header : List (List ℕ)) (task : Task) (old new : Reader R) (fields : List (List ℕ)) (now later : Option (List ℕ)) (lines : List ℕ)
    (count skipped : ℕ) (why : RecordRefusal) → (was : IsUnderWay left text header task old now lines count skipped) → IsReading left text (header ∷ (was.records ++ fields ∷ [])) new
    → IsNotTaken task.skips task.picks task.width fields why now later → IsStopped text header task later (count + 1) why
IsStopped-here left text header task old new fields now later lines count skipped why was reading is = record {
  records = was.records;
  fields = fields;
  blocks = was.taken.blocked.blocks;
  others = was.taken.blocked.open_rows;
  stays = is.stays;
  number_is = ap (λ n. n + 1) (sym was.count_is);
  are_first = first_records left text (header ∷ (was.records ++ fields ∷ [])) new reading;
  cause = is.cause;
  not_memory = is.not_memory;
  rows_are =
      subst (λ rows. AreRowsOf false task.picks task.width was.records rows 0) was.taken.blocked.rows_are
      (none_left_out task.skips task.picks task.width was.records was.taken.rows skipped is.stays was.taken.rows_are);
  all = was.taken.blocked.all;
  wrote = subst (λ w. Appends task.before w (blocks_text task.name was.taken.blocked.blocks)) (sym is.same) was.taken.blocked.wrote;
}

-- the next record wasn't taken
pub IsUnwritten-here : {R : Type 0} (left : R → Option (List ℕ)) (text : List ℕ) (header : List (List ℕ)) (task : Task) (old new : Reader R) (fields : List (List ℕ)) (now later : Option (List ℕ)) (lines : List ℕ)
    (count skipped number : ℕ) (why : AppendRefusal) → (was : IsUnderWay left text header task old now lines count skipped) → IsReading left text (header ∷ (was.records ++ fields ∷ [])) new
    → number ≡ count + 1 → IsUntaken task.skips task.picks task.width fields number now later why → IsUnwritten text header task later why
IsUnwritten-here left text header task old new fields now later lines count skipped number (append.Record n line why) was reading here is =
    subst (λ k. IsStopped text header task later k why) (sym (is.0 ∙ here)) (IsStopped-here left text header task old new fields now later lines count skipped why was reading is.1)
IsUnwritten-here left text header task old new fields now later lines count skipped number append.Input was reading here is = is
IsUnwritten-here left text header task old new fields now later lines count skipped number append.Output was reading here is = is
IsUnwritten-here left text header task old new fields now later lines count skipped number append.Memory was reading here is = is
IsUnwritten-here left text header task old new fields now later lines count skipped number append.NoHeader was reading here is = absurd is
IsUnwritten-here left text header task old new fields now later lines count skipped number (append.Header why) was reading here is = absurd is

-- behind the beginning, and then the blocks
pub IsRefusedFor-rows : (declares skips : Bool) (name : List ℕ) (columns : List Column) (text : List ℕ) (header : List (List ℕ)) (picks : List Pick) (before begun now : Option (List ℕ)) (why : AppendRefusal)
    → ArePicks header columns picks → Appends before begun (beginning declares name columns) → IsUnwritten text header (task_of skips name columns picks (length header) begun) now why
    → IsRefusedFor declares skips name columns text before now why
IsRefusedFor-rows declares skips name columns text header picks before begun now (append.Record number line why) are wrote is = (
  is.stays,
  record {
    header = header;
    records = is.records;
    fields = is.fields;
    picks = picks;
    blocks = is.blocks;
    others = is.others;
    number_is = is.number_is;
    are_first = is.are_first;
    are_picks = are;
    cause = is.cause;
    not_memory = is.not_memory;
    rows_are = is.rows_are;
    all = is.all;
    wrote = Appends-trans before begun now (beginning declares name columns) (blocks_text name is.blocks) wrote is.wrote;
  },
)
IsRefusedFor-rows declares skips name columns text header picks before begun now append.Input are wrote is = is
IsRefusedFor-rows declares skips name columns text header picks before begun now append.Output are wrote is = is
IsRefusedFor-rows declares skips name columns text header picks before begun now append.Memory are wrote is = is
IsRefusedFor-rows declares skips name columns text header picks before begun now append.NoHeader are wrote is = absurd is
IsRefusedFor-rows declares skips name columns text header picks before begun now (append.Header why) are wrote is = absurd is
