-- Rows that were written as CSV, one more at a time.
use Rattle.std.proofs.Common.{◌≡◌, ◌≢◌, ℕ, ◌+◌, false, List, [], ◌∷◌, ◌++◌, map, Option, None, Some, Result, Ok, Err, refl, sym, ap, ◌∙◌, subst, arith, append_assoc, append-nil, length-append}
use Rattle.std.proofs.KnownBytes.{Appends-kept, Appends-nil, Appends-trans}
use Rattle.std.proofs.lemmas.List.{map-append}
use Rattle.std.specs.Io.KnownBytes.{append_known, Appends, Keeps}
use Rattle.std.specs.Result.{OnOk}
use Rattle.std.specs.List.{flat_map, AllByRecursion}
use Rattle.csv.specs.Writing.{default_writer, fields_written, has_written, row_text, text_written, writer_pending, writer_setup, writer_under}
use Rattle.csv.specs.declared.writer.QuoteStyle.TheVariants as style
use Rattle.csv.specs.declared.writer.Writer.{Writer}
use Rattle.rows_core.specs.declared.value.Value.{Value}
use Rattle.row_text.specs.RowSpelling.{byte_spelling, more_spelling, row_spelling, text_spelling, value_spelling, IsLoose}
use Rattle.csv_script.specs.Blocks.{ended}
use Rattle.csv_script.specs.Cells.{cell_text, IsValueAt}
use Rattle.csv_rows.specs.Lines.{head_of, lines_text, IsNext}
use Rattle.csv_rows.specs.Results.{csv_line, csv_lines, header_text, AreWritten, IsConverted, IsFound, IsFresh, IsWhole}
use Rattle.csv_rows.proofs.LineLemmas.{all-more, flat_map-more}

pub AreWritten-none : (bytes : List ℕ) (left before : Option (List ℕ)) → left ≡ Some bytes → AreWritten bytes 0 left before before
AreWritten-none bytes left before is = record { rows = []; count_is = refl; are_rows = record { rest = bytes; loose = tt; bytes_are = refl; left_is = is }; wrote = Appends-nil before }

pub AreWritten-more : (bytes line : List ℕ) (row : List Value) (fields : List (List ℕ)) (count : ℕ) (left more before now after : Option (List ℕ)) → (is : AreWritten bytes count left before now) → IsNext is.are_rows.rest line more
    → AllByRecursion IsLoose row → line ≡ row_spelling row → fields ≡ map cell_text row → Appends now after (row_text default_writer fields) → AreWritten bytes (count + 1) more before after
AreWritten-more bytes line row fields count left more before now after is next loose spelled cells wrote = record {
  rows = is.rows ++ row ∷ [];
  count_is = length-append is.rows (row ∷ []) ∙ ap (λ n. n + 1) is.count_is;
  are_rows = record {
    rest = next.rest;
    loose = all-more (AllByRecursion IsLoose) is.rows row is.are_rows.loose loose;
    bytes_are =
        is.are_rows.bytes_are ∙ ap (λ r. lines_text (map row_spelling is.rows) ++ r) (next.bytes_are ∙ ap (λ l. ended l ++ next.rest) spelled)
        ∙ sym (append_assoc (lines_text (map row_spelling is.rows)) (ended (row_spelling row)) next.rest)
        ∙ ap (λ t. t ++ next.rest) (sym (flat_map-more ended (map row_spelling is.rows) (row_spelling row)))
        ∙ ap (λ ls. lines_text ls ++ next.rest) (sym (map-append row_spelling is.rows (row ∷ [])));
    left_is = next.left_is;
  };
  wrote = subst (Appends before after) (sym (flat_map-more csv_line is.rows row))
      (Appends-trans before now after (csv_lines is.rows) (csv_line row) is.wrote (subst (λ f. Appends now after (row_text default_writer f)) cells wrote));
}

pub IsConverted-whole : (bytes : List ℕ) (number count : ℕ) (names : List (List ℕ)) (found left before begun now : Option (List ℕ)) → (is : IsFound bytes number count found) → AreWritten is.rest count left begun now
    → Appends before begun (header_text names) → IsConverted bytes number names before now
IsConverted-whole bytes number count names found left before begun now is rows header = record {
  lines = is.lines;
  results = is.before;
  rows = rows.rows;
  rest = rows.are_rows.rest;
  bytes_are =
      is.bytes_are ∙ ap (λ r. lines_text is.lines ++ (ended (head_of count) ++ r)) rows.are_rows.bytes_are
      ∙ ap (λ n. lines_text is.lines ++ (ended (head_of n) ++ (lines_text (map row_spelling rows.rows) ++ rows.are_rows.rest))) (sym rows.count_is);
  are_lines = is.are_lines;
  number_is = is.number_is;
  heads = is.heads;
  loose = rows.are_rows.loose;
  wrote = Appends-trans before begun now (header_text names) (csv_lines rows.rows) header rows.wrote;
}

-- a row behind the values that were read
pub record IsRead (line rest : List ℕ) (fields : List (List ℕ)) : Type 0 where
  pub row : List Value
  pub loose : AllByRecursion IsLoose row
  pub line_is : (value : Value) (more : List ℕ) → rest ≡ value_spelling value ++ more → line ≡ row_spelling (row ++ value ∷ []) ++ more
  pub cells : fields ≡ map cell_text row

pub IsRead-none : (line : List ℕ) (fields : List (List ℕ)) → fields ≡ [] → IsRead line line fields
IsRead-none line fields none = record { row = []; loose = tt; line_is = λ value more is. is ∙ ap (λ v. v ++ more) (sym (append-nil (value_spelling value))); cells = none }

row_spelling-more : (row : List Value) (value next : Value) → row_spelling ((row ++ value ∷ []) ++ next ∷ []) ≡ row_spelling (row ++ value ∷ []) ++ 44 ∷ value_spelling next
row_spelling-more [] value next =
    ap (λ m. value_spelling value ++ m) (append-nil (44 ∷ value_spelling next)) ∙ ap (λ v. v ++ 44 ∷ value_spelling next) (sym (append-nil (value_spelling value)))
row_spelling-more (first ∷ row) value next =
    ap (λ m. value_spelling first ++ m) (flat_map-more (λ v. 44 ∷ value_spelling v) (row ++ value ∷ []) next)
    ∙ sym (append_assoc (value_spelling first) (more_spelling (row ++ value ∷ [])) (44 ∷ value_spelling next))

-- one more value, and a comma behind it
pub IsRead-more : (line rest after more : List ℕ) (fields now : List (List ℕ)) (begun : List ℕ) → IsRead line rest fields → IsValueAt rest after fields now begun → begun ≡ [] → after ≡ 44 ∷ more → IsRead line more now
IsRead-more line rest after more fields now begun is at none comma = record {
  row = is.row ++ at.value ∷ [];
  loose = all-more IsLoose is.row at.value is.loose at.loose;
  line_is = λ value later spelled.
      is.line_is at.value after at.spelled ∙ ap (λ a. row_spelling (is.row ++ at.value ∷ []) ++ a) (comma ∙ ap (λ m. 44 ∷ m) spelled)
      ∙ sym (append_assoc (row_spelling (is.row ++ at.value ∷ [])) (44 ∷ value_spelling value) later)
      ∙ ap (λ r. r ++ later) (sym (row_spelling-more is.row at.value value));
  cells = at.added none ∙ ap (λ f. f ++ cell_text at.value ∷ []) is.cells ∙ sym (map-append cell_text is.row (at.value ∷ []));
}

-- the last value
pub IsRead-last : (line rest after : List ℕ) (fields now : List (List ℕ)) (begun : List ℕ) → IsRead line rest fields → IsValueAt rest after fields now begun → begun ≡ [] → after ≡ [] → IsWhole line now
IsRead-last line rest after fields now begun is at none ends = record {
  row = is.row ++ at.value ∷ [];
  loose = all-more IsLoose is.row at.value is.loose at.loose;
  line_is = is.line_is at.value after at.spelled ∙ ap (λ a. row_spelling (is.row ++ at.value ∷ []) ++ a) ends ∙ append-nil (row_spelling (is.row ++ at.value ∷ []));
  cells = at.added none ∙ ap (λ f. f ++ cell_text at.value ∷ []) is.cells ∙ sym (map-append cell_text is.row (at.value ∷ []));
}

-- a text between its two marks
pub closed_text : (quoted text rest behind : List ℕ) → quoted ≡ flat_map byte_spelling text ++ rest → rest ≡ 34 ∷ behind → 34 ∷ quoted ≡ text_spelling text ++ behind
closed_text quoted text rest behind is closed =
    ap (λ q. 34 ∷ q) (is ∙ ap (λ r. flat_map byte_spelling text ++ r) closed ∙ sym (append_assoc (flat_map byte_spelling text) (34 ∷ []) behind))

-- the writer is at the start of a record again
pub plain_style : {W : Type 0} (writer : Writer W) → IsFresh writer → (writer_setup writer).style ≢ style.NonNumeric
plain_style writer is h =
    let same : style.Necessary ≡ style.NonNumeric = sym (ap (λ s. s.style) is.setup) ∙ h in
    absurd (cc)

pub next_fresh : {W : Type 0} (old now : Writer W) → IsFresh old → writer_setup now ≡ writer_setup old → fields_written now ≡ 0 → has_written now ≡ false → IsFresh now
next_fresh old now is setup fields wrote = record { setup = setup ∙ is.setup; fields = fields; wrote = wrote }

pub on_ok : {T E P Q : Type 0} (r : Result T E) → (P → Q) → OnOk r P → OnOk r Q
on_ok (Ok x) f p = f p
on_ok (Err e) f p = tt

no_more : (known : Option (List ℕ)) → append_known known [] ≡ known
no_more None = refl
no_more (Some bytes) = ap Some (append-nil bytes)

-- what a new writer wrote is what the one underneath holds then
pub kept_whole : {W : Type 0} (contents : W → Option (List ℕ)) (bytes : List ℕ) (number : ℕ) (names : List (List ℕ)) (csv : W) (old now : Writer W) (after : W) → writer_under old ≡ csv → writer_pending old ≡ []
    → IsConverted bytes number names (text_written contents old) (text_written contents now) → Keeps (text_written contents now) (contents after) → IsConverted bytes number names (contents csv) (contents after)
kept_whole contents bytes number names csv old now after under pending done kept =
    let start : text_written contents old ≡ contents csv = ap (append_known (contents (writer_under old))) pending ∙ no_more (contents (writer_under old)) ∙ ap contents under in
    record {
      lines = done.lines;
      results = done.results;
      rows = done.rows;
      rest = done.rest;
      bytes_are = done.bytes_are;
      are_lines = done.are_lines;
      number_is = done.number_is;
      heads = done.heads;
      loose = done.loose;
      wrote = Appends-kept (contents csv) (text_written contents now) (contents after) (header_text names ++ csv_lines done.rows)
          (subst (λ o. Appends o (text_written contents now) (header_text names ++ csv_lines done.rows)) start done.wrote) kept;
    }
