-- Reading a line stops only where no row is spelled so.
use Prim.Native.Nat.{suc}
use Rattle.std.proofs.Common.{◌≡◌, ◌≢◌, refl, sym, ap, ◌∙◌, ℕ, ◌<◌, ◌≤◌, List, [], ◌∷◌, ◌++◌, length, take, drop, get_or, map, ◌*◌, arith, append_assoc, append-nil, length-append, drop-cons, inl, inr, true, false}
use Rattle.std.proofs.lemmas.List.{take-append-drop, map-append, drop_all, append_cancel_left}
use Rattle.std.specs.List.{flat_map, AllByRecursion}
use Rattle.rows_core.specs.declared.schema.Column.{Column}
use Rattle.rows_core.specs.declared.value.Value.{Value}
use Rattle.rows_core.specs.declared.value.Value.TheVariants.{Int, Text, Bool as Truth}
use Rattle.std.proofs.lemmas.Fmt.{length_signed_le}
use Rattle.rows_core.specs.Schema.{kinds_of}
use Rattle.rows_core.specs.Value.{kind_of}
use Rattle.row_text.specs.declared.field.Field.{Field}
use Rattle.row_text.specs.RowSpelling.{byte_spelling, value_spelling, more_spelling, row_spelling, IsShort, IsLoose, IsLooseRow, IsLong, HasLong}
use Rattle.row_text.specs.Fields.{value_of, values_of, Ends}
use Rattle.row_text.proofs.Spellings.{Spelled, Escaped, Plain, byte_is, signed_decimal-nonempty, truth-nonempty, value_apart}

Ends-more : (values : List Value) → Ends (more_spelling values)
Ends-more [] = tt
Ends-more (v ∷ values) = refl

Ends-before : (values : List Value) (rest : List ℕ) → Ends rest → Ends (more_spelling values ++ rest)
Ends-before [] rest e = e
Ends-before (v ∷ values) rest e = refl

-- what was read of a line is the front of each row that is spelled so
more_front : (done more : List Value) (rest : List ℕ) → AllByRecursion IsLoose done → AllByRecursion IsLoose more → Ends rest → more_spelling done ++ rest ≡ more_spelling more →
    (left : List Value) × (more ≡ done ++ left) × AllByRecursion IsLoose left × (rest ≡ more_spelling left)
more_front [] more rest p q e h = (more, refl, q, h)
more_front (v ∷ done) [] rest p q e h = cc
more_front (v ∷ done) (w ∷ more) rest p q e h =
    let flat : (value_spelling v ++ more_spelling done) ++ rest ≡ value_spelling w ++ more_spelling more = cc in
    let inner : value_spelling v ++ (more_spelling done ++ rest) ≡ value_spelling w ++ more_spelling more = sym (append_assoc (value_spelling v) (more_spelling done) rest) ∙ flat in
    let parts = value_apart v w (more_spelling done ++ rest) (more_spelling more) p.0 q.0 (Ends-before done rest e) (Ends-more more) inner in
    let front = more_front done more rest p.1 q.1 e parts.1 in
    (front.0, (λ i. sym parts.0 i ∷ front.1 i), front.2, front.3)

left_over : (columns : List Column) (i : ℕ) (done more : List Value) (rest bytes : List ℕ) → IsLooseRow (kinds_of (take i columns)) done → Ends rest →
    bytes ≡ more_spelling done ++ rest → IsLooseRow (kinds_of columns) more → bytes ≡ more_spelling more →
    (left : List Value) × (map kind_of left ≡ kinds_of (drop i columns)) × AllByRecursion IsLoose left × (rest ≡ more_spelling left)
left_over columns i done more rest bytes p e spelled q h =
    let front = more_front done more rest p.1 q.1 e (sym spelled ∙ h) in
    let kinds : map kind_of done ++ map kind_of front.0 ≡ kinds_of (take i columns) ++ kinds_of (drop i columns) =
    sym (map-append kind_of done front.0) ∙ ap (map kind_of) (sym front.1) ∙ q.0 ∙ ap kinds_of (sym (take-append-drop i columns)) ∙ map-append (λ column. column.kind) (take i columns) (drop i columns) in
    (front.0, append_cancel_left (kinds_of (take i columns)) _ _ (ap (λ k. k ++ map kind_of front.0) (sym p.0) ∙ kinds), front.2, front.3)

-- a column is left, and no value of its kind stands there
pub no_next : (columns : List Column) (i : ℕ) (column : Column) (done more : List Value) (rest bytes : List ℕ) → i < length columns → column ≡ get_or columns i column →
    IsLooseRow (kinds_of (take i columns)) done → Ends rest → bytes ≡ more_spelling done ++ rest →
    ((value : Value) (after : List ℕ) → kind_of value ≡ column.kind → IsLoose value → Ends after → rest ≢ 44 ∷ (value_spelling value ++ after)) →
    IsLooseRow (kinds_of columns) more → bytes ≢ more_spelling more
no_next columns i column done more rest bytes small at p e spelled none q h =
    let over = left_over columns i done more rest bytes p e spelled q h in
    let kinds : map kind_of over.0 ≡ column.kind ∷ kinds_of (drop (suc i) columns) =
    over.1 ∙ ap kinds_of (drop-cons columns i column small) ∙ ap (λ c. c.kind ∷ kinds_of (drop (suc i) columns)) (sym at) in
    go over.0 kinds over.2 over.3
  where
    go : (left : List Value) → map kind_of left ≡ column.kind ∷ kinds_of (drop (suc i) columns) → AllByRecursion IsLoose left → rest ≡ more_spelling left → ⊥
    go [] kinds all f = cc
    go (w ∷ left) kinds all f = none w (more_spelling left) (cc) all.0 (Ends-more left) f

-- no column is left, and something stands there
pub no_end : (columns : List Column) (i : ℕ) (done more : List Value) (rest bytes : List ℕ) → length columns ≤ i →
    IsLooseRow (kinds_of (take i columns)) done → Ends rest → bytes ≡ more_spelling done ++ rest → rest ≢ [] →
    IsLooseRow (kinds_of columns) more → bytes ≢ more_spelling more
no_end columns i done more rest bytes past p e spelled some q h =
    let over = left_over columns i done more rest bytes p e spelled q h in
    go over.0 (over.1 ∙ ap kinds_of (drop_all i columns past)) over.3
  where
    go : (left : List Value) → map kind_of left ≡ [] → rest ≡ more_spelling left → ⊥
    go [] kinds f = some f
    go (w ∷ left) kinds f = cc

-- no value of the first column's kind stands there
pub no_first : (columns : List Column) (first : Column) (line : List ℕ) → 1 ≤ length columns → first ≡ get_or columns 0 first →
    ((value : Value) (rest : List ℕ) → kind_of value ≡ first.kind → IsLoose value → Ends rest → line ≢ value_spelling value ++ rest) →
    (row : List Value) → IsLooseRow (kinds_of columns) row → line ≢ row_spelling row
no_first [] first line some at none row p h = absurd (omega arith)
no_first (column ∷ columns) first line some at none [] p h = cc (p.0)
no_first (column ∷ columns) first line some at none (v ∷ values) p h =
    let same : first ≡ column = at in
    let kinds : kind_of v ≡ column.kind = cc (p.0) in
    none v (more_spelling values) (kinds ∙ ap (λ c. c.kind) (sym same)) p.1.0 (Ends-more values) h

-- the first value is determined, and no others stand behind it
pub no_others : (columns : List Column) (first : Value) (line rest : List ℕ) → 1 ≤ length columns → IsLoose first → Ends rest → line ≡ value_spelling first ++ rest →
    ((more : List Value) → IsLooseRow (kinds_of (drop 1 columns)) more → rest ≢ more_spelling more) →
    (row : List Value) → IsLooseRow (kinds_of columns) row → line ≢ row_spelling row
no_others [] first line rest some loose e spelled none row p h = absurd (omega arith)
no_others (column ∷ columns) first line rest some loose e spelled none [] p h = cc (p.0)
no_others (column ∷ columns) first line rest some loose e spelled none (v ∷ values) p h =
    let parts = value_apart first v rest (more_spelling values) loose p.1.0 e (Ends-more values) (sym spelled ∙ h) in
    none values (cc (p.0), p.1.1) parts.1

value_spelling-nonempty : (value : Value) → IsLoose value → 0 < length (value_spelling value)
value_spelling-nonempty (Int n) fits = signed_decimal-nonempty n fits
value_spelling-nonempty (Text t) text = omega arith
value_spelling-nonempty (Truth b) truth = truth-nonempty b

row_spelling-nonempty : (v : Value) (values : List Value) → IsLoose v → row_spelling (v ∷ values) ≢ []
row_spelling-nonempty v values loose h =
    let some = value_spelling-nonempty v loose in
    let none = ap length h in
    absurd (omega (arith, some, none, length-append (value_spelling v) (more_spelling values)))

-- no two rows share a spelling
pub row_spelling-injective : (a b : List Value) → AllByRecursion IsLoose a → AllByRecursion IsLoose b → row_spelling a ≡ row_spelling b → a ≡ b
row_spelling-injective [] [] p q h = refl
row_spelling-injective [] (w ∷ b) p q h = absurd (row_spelling-nonempty w b q.0 (sym h))
row_spelling-injective (v ∷ a) [] p q h = absurd (row_spelling-nonempty v a p.0 h)
row_spelling-injective (v ∷ a) (w ∷ b) p q h =
    let parts = value_apart v w (more_spelling a) (more_spelling b) p.0 q.0 (Ends-more a) (Ends-more b) h in
    let front = more_front a b [] p.1 q.1 tt (append-nil (more_spelling a) ∙ parts.1) in
    go front.0 front.1 front.3 parts.0
  where
    go : (left : List Value) → b ≡ a ++ left → [] ≡ more_spelling left → v ≡ w → v ∷ a ≡ w ∷ b
    go [] e f s = let rest : a ≡ b = sym (e ∙ append-nil a) in λ i. s i ∷ rest i
    go (u ∷ left) e f s = cc

byte_spelling-length : (byte : ℕ) {s : List ℕ} → Spelled byte s → length s ≤ 2
byte_spelling-length byte (Escaped e) = omega arith
byte_spelling-length byte (Plain quote slash) = omega arith

text-length : (text : List ℕ) → length (flat_map byte_spelling text) ≤ 2 * length text
text-length [] = omega arith
text-length (b ∷ text) = omega (arith, length-append (byte_spelling b) (flat_map byte_spelling text), byte_spelling-length b (byte_is b), text-length text)

value-length : (value : Value) → IsLoose value → IsShort value → length (value_spelling value) ≤ 2002
value-length (Int n) fits short = omega (arith, length_signed_le 19 n (omega (arith, fits.sfits)) fits.sfits)
value-length (Truth true) truth short = omega arith
value-length (Truth false) truth short = omega arith
value-length (Text t) text short = omega (arith, short, text-length t, length-append (flat_map byte_spelling t) (34 ∷ []))

more-length : (values : List Value) → AllByRecursion IsLoose values → AllByRecursion IsShort values → length (more_spelling values) ≤ 2003 * length values
more-length [] p q = omega arith
more-length (v ∷ values) p q =
    omega (arith, length-append (44 ∷ value_spelling v) (more_spelling values), value-length v p.0 q.0, more-length values p.1 q.1)

-- 32 values with texts of 1,000 bytes, each to be escaped, and the commas between them
pub row_spelling-length : (row : List Value) → AllByRecursion IsLoose row → AllByRecursion IsShort row → length row ≤ 32 → length (row_spelling row) ≤ 64095
row_spelling-length [] p q few = omega arith
row_spelling-length (v ∷ values) p q few =
    omega (arith, length-append (value_spelling v) (more_spelling values), value-length v p.0 q.0, more-length values p.1 q.1, few)

-- a field among all of them
pub IsLoose-within : (before : List Field) (field : Field) (behind : List Field) → AllByRecursion IsLoose (values_of (before ++ field ∷ behind)) → IsLoose (value_of field)
IsLoose-within [] field behind all = all.0
IsLoose-within (f ∷ before) field behind all = IsLoose-within before field behind all.1

pub HasLong-within : (before : List Field) (field : Field) (behind : List Field) → IsLong (value_of field) → HasLong (values_of (before ++ field ∷ behind))
HasLong-within [] field behind long = inl long
HasLong-within (f ∷ before) field behind long = inr (HasLong-within before field behind long)

pub values_of-more : (fields : List Field) (field : Field) → values_of (fields ++ field ∷ []) ≡ values_of fields ++ value_of field ∷ []
values_of-more [] field = refl
values_of-more (f ∷ fields) field = ap (λ (l : List Value). value_of f ∷ l) (values_of-more fields field)

pub short-more : (values : List Value) (value : Value) → AllByRecursion IsShort values → IsShort value → AllByRecursion IsShort (values ++ value ∷ [])
short-more [] value all last = (last, tt)
short-more (v ∷ values) value all last = (all.0, short-more values value all.1 last)

pub none_left : (fields : List Field) → length fields ≡ 0 → fields ≡ []
none_left [] e = refl
none_left (f ∷ fields) e = absurd (omega arith)
