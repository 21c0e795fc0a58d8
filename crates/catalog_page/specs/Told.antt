-- The catalogue that a line tells, or what keeps it from telling one: each key's value is looked for in the order in which it is
-- named here, and the first that is missing, or isn't what it is to be, is the refusal. Other keys are passed over.
use Rattle.std.specs.Prelude.{ℕ, ◌+◌, ◌-◌, ◌*◌, ◌==◌, List, [], ◌∷◌, map, length, nat_lt, nat_le, Option, None, Some, option_map, option_and_then, Result, Ok, Err, if◌then◌else◌}
use Rattle.serde_json.specs.Data.{Data, Items, no_items, item}
use Rattle.serde_json.specs.Find.{get, as_number, as_u64, as_str, as_array}
use Rattle.serde_json.specs.Read.{read}
use Rattle.rows_core.specs.Kind.{kind_with_word}
use Rattle.rows_core.specs.Name.{is_name}
use Rattle.rows_core.specs.Schema.{has_repeat}
use Rattle.rows_core.specs.declared.schema.Column.{Column}
use Rattle.catalog_page.specs.declared.catalogue.LeafCut.{LeafCut}
use Rattle.catalog_page.specs.declared.catalogue.ProgramLine.{ProgramLine}
use Rattle.catalog_page.specs.declared.catalogue.StreamLine.{StreamLine}
use Rattle.catalog_page.specs.declared.key.Key.{Key}
use Rattle.catalog_page.specs.declared.key.Key.TheVariants as key
use Rattle.catalog_page.specs.declared.refusal.ReadRefusal.{ReadRefusal}
use Rattle.catalog_page.specs.declared.refusal.ReadRefusal.TheVariants.{NotJson, Missing, MissingIn}
use Rattle.catalog_page.specs.Keys.{key_word}
use Rattle.catalog_page.specs.Plain.{PlainKept, PlainCatalogue}

-- ---- one after the other, up to the first refusal

abbrev pub and_then : {A B E : Type 0} → Result A E → (A → Result B E) → Result B E
and_then (Ok x) more = more x
and_then (Err e) more = Err e

abbrev pub all_ok : {A E : Type 0} → List (Result A E) → Result (List A) E
all_ok [] = Ok []
all_ok (Err e ∷ rs) = Err e
all_ok (Ok x ∷ rs) = and_then (all_ok rs) (λ xs. Ok (x ∷ xs))

abbrev pub or_else : {A E : Type 0} → E → Option A → Result A E
or_else e None = Err e
or_else e (Some x) = Ok x

-- ---- what the value of a key is read as

unfoldable pub number : Key → Data → Result ℕ Key
number key d = or_else key (option_and_then as_u64 (as_number d))

-- a number in 32 bits
unfoldable pub small : Key → Data → Result ℕ Key
small key d = and_then (number key d) (λ n. if nat_lt n 4294967296 then Ok n else Err key)

-- a number in 32 bits other than 0
unfoldable pub positive : Key → Data → Result ℕ Key
positive key d = and_then (small key d) (λ n. if n == 0 then Err key else Ok n)

-- no more bytes than a kept result has
unfoldable pub size : Key → Data → Result ℕ Key
size key d = and_then (number key d) (λ n. if nat_le n 67108864 then Ok n else Err key)

unfoldable pub text : Key → Data → Result (List ℕ) Key
text key d = or_else key (as_str d)

unfoldable pub name : Key → Data → Result (List ℕ) Key
name key d = and_then (text key d) (λ bytes. if is_name bytes then Ok bytes else Err key)

abbrev pub list_of : Items → List Data
list_of no_items = []
list_of (item d ds) = d ∷ list_of ds

unfoldable pub items : Key → Data → Result (List Data) Key
items key d = or_else key (option_map list_of (as_array d))

-- [name, kind]
abbrev pub column_of : Key → List Data → Result Column Key
column_of key (n ∷ k ∷ []) =
    and_then (name key n) (λ name. and_then (text key k) (λ word.
    and_then (or_else key (kind_with_word word)) (λ kind. Ok (record { name = name; kind = kind }))))
column_of key _ = Err key

unfoldable pub column : Key → Data → Result Column Key
column key d = and_then (items key d) (column_of key)

-- from 1 to 32 columns with different names
unfoldable pub schema_of : Key → List Column → Result (List Column) Key
schema_of key columns =
    if length columns == 0 then Err key
    else if has_repeat columns then Err key
    else if nat_lt 32 (length columns) then Err key
    else Ok columns

unfoldable pub schema : Key → Data → Result (List Column) Key
schema key d = and_then (items key d) (λ ds. and_then (all_ok (map (column key) ds)) (schema_of key))

-- [name of a stream, from, to]
abbrev pub cut_of : Key → List Data → Result LeafCut Key
cut_of key (s ∷ f ∷ t ∷ []) =
    and_then (name key s) (λ stream. and_then (number key f) (λ from. and_then (number key t) (λ to.
    Ok (record { stream = stream; from = from; to = to }))))
cut_of key _ = Err key

unfoldable pub cut : Key → Data → Result LeafCut Key
cut key d = and_then (items key d) (cut_of key)

unfoldable pub cuts : Key → Data → Result (List LeafCut) Key
cuts key d = and_then (items key d) (λ ds. all_ok (map (cut key) ds))

-- ---- objects

unfoldable pub member : Key → Data → Result Data Key
member key d = or_else key (get (key_word key) d)

-- the value of this key of an object, read so
unfoldable pub at : {A : Type 0} → Key → (Key → Data → Result A Key) → Data → Result A Key
at key read d = and_then (member key d) (read key)

unfoldable pub stream_in : Data → Result StreamLine Key
stream_in d =
    and_then (at key.Name name d) (λ name. and_then (at key.Columns schema d) (λ schema. and_then (at key.Extents number d) (λ extents.
    and_then (at key.Rows number d) (λ rows. Ok (record { name = name; schema = schema; extents = extents; rows = rows })))))

unfoldable pub program_in : Data → Result ProgramLine Key
program_in d =
    and_then (at key.Name name d) (λ name. and_then (at key.Plan text d) (λ text. Ok (record { name = name; text = text })))

-- what a collection at the tick `now` goes by: the length, the length times the ticks since the last use, and the uses times
-- the machine time
unfoldable pub kept_in : ℕ → Data → Result PlainKept Key
kept_in now d =
    and_then (at key.Id small d) (λ id. and_then (at key.Bytes size d) (λ size. and_then (at key.Machine positive d) (λ machine.
    and_then (at key.Uses positive d) (λ uses. and_then (at key.Last small d) (λ last. and_then (at key.Made small d) (λ made.
    and_then (at key.Cuts cuts d) (λ cuts. and_then (at key.Key text d) (λ key. Ok (record {
      standing = record { id = id; size = size; idle_bytes = size * (now - last); used_time = uses * machine };
      cuts = cuts;
      key = key;
      machine = machine;
      uses = uses;
      last = last;
      made = made;
    })))))))))

-- ---- the whole

abbrev pub missing : {A : Type 0} → Result A Key → Result A ReadRefusal
missing (Ok x) = Ok x
missing (Err key) = Err (Missing key)

abbrev pub missing_in : {A : Type 0} → Key → Result A Key → Result A ReadRefusal
missing_in of (Ok x) = Ok x
missing_in of (Err key) = Err (MissingIn of key)

-- each item of the list of this key
unfoldable pub each_in : {A : Type 0} → Key → (Data → Result A Key) → Data → Result (List A) ReadRefusal
each_in list item_in d = and_then (missing (at list items d)) (λ ds. missing_in list (all_ok (map item_in ds)))

unfoldable pub catalogue_in : Data → Result PlainCatalogue ReadRefusal
catalogue_in d =
    and_then (missing (at key.Tick small d)) (λ tick. and_then (each_in key.Streams stream_in d) (λ streams.
    and_then (each_in key.Programs program_in d) (λ programs. and_then (each_in key.Entries (kept_in (tick + 1)) d) (λ results.
    Ok (record { streams = streams; programs = programs; results = results; tick = tick })))))

-- the catalogue that a text tells
abbrev pub told : List ℕ → Result PlainCatalogue ReadRefusal
told text = and_then (or_else NotJson (read text)) catalogue_in
