-- Why rows weren't written.
use Rattle.std.proofs.Common.{◌≡◌, ℕ, ◌+◌, ◌<◌, List, Option, Result, Ok, Err, refl, ap, sym, ◌∙◌, subst, inl, inr, arith}
use Rattle.std.specs.Result.{IfErr}
use Rattle.csv_rows.specs.Lines.{IsLine}
use Rattle.csv_rows.specs.Refusals.{AreUnwritten, Begins, IsAtRow, IsBehind, IsCut, IsForRecord, IsRefusedFor}
use Rattle.csv_rows.specs.Results.{AreRows, AreWritten, IsFound}
use Rattle.csv_rows.specs.declared.lines.RowsRefusal.{RowsRefusal}
use Rattle.csv_rows.specs.declared.lines.RowsRefusal.TheVariants as refusal

pub if_err : {T E : Type 0} {Q : E → Type 0} (r : Result T E) → ((e : E) → r ≡ Err e → Q e) → IfErr r Q
if_err (Ok x) f = tt
if_err (Err e) f = f e refl

module _ (bytes : List ℕ) (count number : ℕ) (left before now : Option (List ℕ)) (was : AreWritten bytes number left before now) (within : number < count) where
  begins : Begins bytes was.rows was.are_rows.rest
  begins = record { loose = was.are_rows.loose; bytes_are = was.are_rows.bytes_are }

  -- the next row is one of the result's
  pub IsAtRow-next : IsAtRow bytes count (number + 1)
  IsAtRow-next = record { rows = was.rows; rest = was.are_rows.rest; begins = begins; number_is = ap (λ n. n + 1) (sym was.count_is); within = omega (arith, within) }

  -- no line is left
  pub IsCut-here : IsLine was.are_rows.rest → IsCut bytes count
  IsCut-here unended = record { rows = was.rows; rest = was.are_rows.rest; begins = begins; fewer = omega (arith, within, was.count_is); unended = unended }

-- the record of a row wasn't written
pub AreUnwritten-record : (bytes : List ℕ) (count number : ℕ) (why : RowsRefusal) → IsAtRow bytes count number → IsForRecord number why → AreUnwritten bytes count why
AreUnwritten-record bytes count number (refusal.Width at) row is = subst (IsAtRow bytes count) (sym is) row
AreUnwritten-record bytes count number refusal.Input row is = is
AreUnwritten-record bytes count number refusal.Output row is = is
AreUnwritten-record bytes count number refusal.Memory row is = is
AreUnwritten-record bytes count number refusal.NoResult row is = absurd is
AreUnwritten-record bytes count number refusal.Cut row is = absurd is
AreUnwritten-record bytes count number (refusal.NotRow at) row is = absurd is

behind : (P : List ℕ → ℕ → Type 0) (bytes : List ℕ) (number count : ℕ) (left : Option (List ℕ)) → (found : IsFound bytes number count left) → P found.rest count → IsBehind P bytes number
behind P bytes number count left found holds = record {
  lines = found.lines;
  results = found.before;
  count = count;
  rest = found.rest;
  bytes_are = found.bytes_are;
  are_lines = found.are_lines;
  number_is = found.number_is;
  heads = found.heads;
  holds = holds;
}

-- the rows behind a result's head weren't written
pub IsRefusedFor-rows : (bytes : List ℕ) (number count : ℕ) (left : Option (List ℕ)) (why : RowsRefusal) → (found : IsFound bytes number count left) → AreUnwritten found.rest count why → IsRefusedFor bytes number why
IsRefusedFor-rows bytes number count left refusal.Cut found is = behind IsCut bytes number count left found is
IsRefusedFor-rows bytes number count left (refusal.NotRow at) found is = behind (λ rest n. IsAtRow rest n at) bytes number count left found is
IsRefusedFor-rows bytes number count left (refusal.Width at) found is = inr (behind (λ rest n. IsAtRow rest n at) bytes number count left found is)
IsRefusedFor-rows bytes number count left refusal.Input found is = is
IsRefusedFor-rows bytes number count left refusal.Output found is = is
IsRefusedFor-rows bytes number count left refusal.Memory found is = is
IsRefusedFor-rows bytes number count left refusal.NoResult found is = absurd is

-- the header wasn't written
pub IsRefusedFor-header : (bytes : List ℕ) (number : ℕ) (why : RowsRefusal) → IsForRecord 0 why → IsRefusedFor bytes number why
IsRefusedFor-header bytes number (refusal.Width at) is = inl is
IsRefusedFor-header bytes number refusal.Input is = is
IsRefusedFor-header bytes number refusal.Output is = is
IsRefusedFor-header bytes number refusal.Memory is = is
IsRefusedFor-header bytes number refusal.NoResult is = absurd is
IsRefusedFor-header bytes number refusal.Cut is = absurd is
IsRefusedFor-header bytes number (refusal.NotRow at) is = absurd is
