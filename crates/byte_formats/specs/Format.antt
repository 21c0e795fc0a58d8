-- Formats of bytes as descriptions. A format says which values have a spelling, how each is spelled, which bytes begin
-- one as far as reading can tell, and what reading gives. Numbers are big-endian.
use Rattle.std.specs.Prelude.{◌≡◌, ℕ, ℤ, zero, suc, ◌+◌, ◌^◌, ◌<◌, ◌≤◌, ◌⊎◌, ◌-◌, ◌==◌, ◌&&◌, not, IsTrue, Bool, true, false, if◌then◌else◌, List, [], ◌∷◌, ◌++◌, length, take, drop, nat_lt, nat_le, Option, Some, None, Result, Ok, Err}
use Rattle.std.specs.Int.{Width, w32, w64, byte_len, to_be_bytes, cast_signed, cast_unsigned}
use Rattle.std.specs.Int.RustNames.{FitsSigned}
use Rattle.std.specs.Char.{is_ascii_lowercase}
use Rattle.std.specs.List.{flat_map, list_all, AllByRecursion}
use Rattle.rows_core.specs.declared.file_ref.Digest.{Digest}
use Rattle.rows_core.specs.Name.{IsName, begins_with_letter, is_name_byte, is_reserved}
use Rattle.rows_core.specs.Txt.{IsTxt}
use Rattle.byte_formats.specs.Reading.{◌>>=◌, Read, number_at, bounded_at, text_at, ended}

pub record Format (A : Type 0) : Type 1 where
  -- the value has a spelling
  pub Fits : A → Type 0
  pub spell : A → List ℕ
  -- reading doesn't stop within these bytes
  pub Begins : List ℕ → Type 0
  -- the value and the bytes behind it, or how many bytes are left where reading stops
  pub read : List ℕ → Read A

-- how reading goes, where the other two are told in other words
pub record Reading (A : Type 0) : Type 1 where
  pub Begins : List ℕ → Type 0
  pub read : List ℕ → Read A

abbrev pub reading_of : {A : Type 0} → Format A → Reading A
reading_of format = record { Begins = format.Begins; read = format.read }

abbrev pub formed : {A : Type 0} → (A → Type 0) → (A → List ℕ) → Reading A → Format A
formed Fits spell reading = record { Fits = Fits; spell = spell; Begins = reading.Begins; read = reading.read }

-- the first bytes up to the place begin a spelling, and not with the byte that stands there
abbrev pub StopsAt : {A : Type 0} → Format A → List ℕ → ℕ → Type 0
StopsAt format bytes at =
    (at ≤ length bytes) × format.Begins (take at bytes) × (at < length bytes → format.Begins (take (at + 1) bytes) → ⊥)

-- ---- a value made of what is read

abbrev pub read_as : {A B : Type 0} → (A → B) → Read A → Read B
read_as make r = r >>= λ a. Ok (make a.0, a.1)

abbrev pub made_reading : {A B : Type 0} → (A → B) → Format A → Reading B
made_reading make parts = record { Begins = parts.Begins; read = λ bytes. read_as make (parts.read bytes) }

abbrev pub made : {A B : Type 0} → (A → B) → (B → Type 0) → (B → List ℕ) → Format A → Format B
made make Fits spell parts = formed Fits spell (made_reading make parts)

-- ---- a format whose fronts are those of its spellings

abbrev pub told : {A : Type 0} → (A → Type 0) → (A → List ℕ) → (List ℕ → Read A) → Format A
told Fits spell read = record {
  Fits = Fits;
  spell = spell;
  Begins = λ front. (a : _) × Fits a × ((more : List ℕ) × (spell a ≡ front ++ more));
  read = read;
}

-- ---- one byte

abbrev pub found_or_stop : {A : Type 0} → Option A → List ℕ → Read A
found_or_stop None bytes = Err (suc (length bytes))
found_or_stop (Some a) bytes = Ok (a, bytes)

-- the value that the first byte stands for
abbrev pub symbol_at : {A : Type 0} → (ℕ → Option A) → List ℕ → Read A
symbol_at value_of [] = Err 0
symbol_at value_of (b ∷ bytes) = found_or_stop (value_of b) bytes

abbrev pub BeginsSymbol : {A : Type 0} → (ℕ → Option A) → List ℕ → Type 0
BeginsSymbol value_of [] = Unit {0}
BeginsSymbol value_of (b ∷ []) = (a : _) × (value_of b ≡ Some a)
BeginsSymbol value_of (b ∷ c ∷ bytes) = ⊥

-- a byte that stands for a value
abbrev pub symbol : {A : Type 0} → (A → ℕ) → (ℕ → Option A) → Format A
symbol byte_of value_of = record {
  Fits = λ a. value_of (byte_of a) ≡ Some a;
  spell = λ a. byte_of a ∷ [];
  Begins = BeginsSymbol value_of;
  read = symbol_at value_of;
}

-- the value beside a byte in a table
abbrev pub beside : {A : Type 0} → List (ℕ × A) → ℕ → Option A
beside [] b = None
beside (row ∷ rows) b = if b == row.0 then Some row.1 else beside rows b

abbrev pub number_of_byte : ℕ → Option ℕ
number_of_byte b = if nat_lt b 256 then Some b else None

abbrev pub byte : Format ℕ
byte = symbol (λ b. b) number_of_byte

abbrev pub byte_of_flag : Bool → ℕ
byte_of_flag false = 0
byte_of_flag true = 1

abbrev pub flag_of_byte : ℕ → Option Bool
flag_of_byte b = if b == 0 then Some false else (if b == 1 then Some true else None)

abbrev pub flag : Format Bool
flag = symbol byte_of_flag flag_of_byte

-- ---- a number

-- of all numbers below the limit
abbrev pub number : Width → ℕ → Format ℕ
number w limit = record {
  Fits = λ n. n < limit;
  spell = to_be_bytes w;
  Begins = λ front. length front ≤ byte_len w;
  read = number_at w;
}

-- of the numbers from low to high
abbrev pub between : Width → ℕ → ℕ → Format ℕ
between w low high = told (λ n. (low ≤ n) × (n ≤ high)) (to_be_bytes w) (bounded_at w low high)

abbrev pub u32 : Format ℕ
u32 = number w32 (2 ^ 32)

abbrev pub u64 : Format ℕ
u64 = number w64 (2 ^ 64)

-- in two's complement
abbrev pub signed : Width → ℤ → List ℕ
signed w n = to_be_bytes w (cast_unsigned w n)

abbrev pub i64 : Format ℤ
i64 = made (cast_signed w64) (FitsSigned w64) (signed w64) u64

-- ---- one value, and behind it another, whose format may depend on the first

infixr 20 ◌▷◌
abbrev pub ◌▷◌ : {A : Type 0} {B : A → Type 0} → Format A → ((a : A) → Format (B a)) → Format ((a : A) × B a)
first ▷ second = record {
  Fits = λ p. first.Fits p.0 × (second p.0).Fits p.1;
  spell = λ p. first.spell p.0 ++ (second p.0).spell p.1;
  Begins = λ front. first.Begins front ⊎ ((a : _) × first.Fits a × ((y : List ℕ) × (front ≡ first.spell a ++ y) × (second a).Begins y));
  read = λ bytes. first.read bytes >>= λ a. (second a.0).read a.1 >>= λ b. Ok ((a.0, b.0), b.1);
}

infixr 20 ◌⊗◌
abbrev pub ◌⊗◌ : {A B : Type 0} → Format A → Format B → Format (A × B)
first ⊗ second = first ▷ (λ a. second)

-- ---- items

abbrev pub first_of : {A : Type 0} → A × List A → List A
first_of p = p.0 ∷ p.1

abbrev pub AreTimes : {A : Type 0} → ℕ → Format A → List A → Type 0
AreTimes n item items = (length items ≡ n) × AllByRecursion item.Fits items

-- so many items, each read by read
abbrev pub items_at : {A : Type 0} → (List ℕ → Read A) → ℕ → List ℕ → Read (List A)
items_at read zero bytes = Ok ([], bytes)
items_at read (suc n) bytes = read bytes >>= λ a. items_at read n a.1 >>= λ x. Ok (a.0 ∷ x.0, x.1)

abbrev pub BeginsTimes : {A : Type 0} → Format A → ℕ → List ℕ → Type 0
BeginsTimes item zero front = front ≡ []
BeginsTimes item (suc n) front =
    (item ⊗ record { Fits = AreTimes n item; spell = flat_map item.spell; Begins = BeginsTimes item n; read = items_at item.read n }).Begins front

-- so many items
abbrev pub times : {A : Type 0} → ℕ → Format A → Format (List A)
times n item = record { Fits = AreTimes n item; spell = flat_map item.spell; Begins = BeginsTimes item n; read = items_at item.read n }

-- items behind their count
abbrev pub counted : {A : Type 0} → Format ℕ → Format A → Format (List A)
counted count item =
    made (λ p. p.1) (λ items. count.Fits (length items) × AllByRecursion item.Fits items) (λ items. count.spell (length items) ++ flat_map item.spell items)
    (count ▷ λ n. times n item)

-- ---- where nothing may stand

abbrev pub nothing : {A : Type 0} → Reading A
nothing = record { Begins = λ front. front ≡ []; read = λ bytes. Err (length bytes) }

-- items in order: which format an item has is told by a state, to which each item adds
abbrev pub FitsChain : {A S : Type 0} → (S → Format A) → (S → A → S) → S → List A → Type 0
FitsChain item next state [] = Unit {0}
FitsChain item next state (a ∷ items) = (item state).Fits a × FitsChain item next (next state a) items

abbrev pub chain_spelling : {A S : Type 0} → (S → Format A) → (S → A → S) → S → List A → List ℕ
chain_spelling item next state [] = []
chain_spelling item next state (a ∷ items) = (item state).spell a ++ chain_spelling item next (next state a) items

abbrev pub AreChain : {A S : Type 0} → (S → Format A) → (S → A → S) → ℕ → S → List A → Type 0
AreChain item next n state items = (length items ≡ n) × FitsChain item next state items

abbrev pub chain_at : {A S : Type 0} → (S → Format A) → (S → A → S) → ℕ → S → List ℕ → Read (List A)
chain_at item next zero state bytes = Ok ([], bytes)
chain_at item next (suc n) state bytes = (item state).read bytes >>= λ a. chain_at item next n (next state a.0) a.1 >>= λ x. Ok (a.0 ∷ x.0, x.1)

abbrev pub BeginsChain : {A S : Type 0} → (S → Format A) → (S → A → S) → ℕ → S → List ℕ → Type 0
BeginsChain item next zero state front = front ≡ []
BeginsChain item next (suc n) state front =
    (item state).Begins front ⊎ ((a : _) × (item state).Fits a × ((y : List ℕ) × (front ≡ (item state).spell a ++ y) × BeginsChain item next n (next state a) y))

abbrev pub chain : {A S : Type 0} → (S → Format A) → (S → A → S) → ℕ → S → Format (List A)
chain item next n state = record {
  Fits = AreChain item next n state;
  spell = chain_spelling item next state;
  Begins = BeginsChain item next n state;
  read = chain_at item next n state;
}

-- items in order behind their count
abbrev pub counted_chain : {A S : Type 0} → Format ℕ → (S → Format A) → (S → A → S) → S → Format (List A)
counted_chain count item next state =
    made (λ p. p.1) (λ items. count.Fits (length items) × FitsChain item next state items) (λ items. count.spell (length items) ++ chain_spelling item next state items)
    (count ▷ λ n. chain item next n state)

-- ---- a part that may be absent

-- no bytes
abbrev pub empty : Format (Unit {0})
empty = record { Fits = λ u. Unit {0}; spell = λ u. []; Begins = λ front. front ≡ []; read = λ bytes. Ok (tt, bytes) }

abbrev pub Part : Type 0 → Bool → Type 0
Part A true = A
Part A false = Unit {0}

abbrev pub part : {A : Type 0} → Format A → (there : Bool) → Format (Part A there)
part item true = item
part item false = empty

abbrev pub option_of : {A : Type 0} → (there : Bool) → Part A there → Option A
option_of true a = Some a
option_of false u = None

abbrev pub FitsOption : {A : Type 0} → Format A → Option A → Type 0
FitsOption item None = Unit {0}
FitsOption item (Some a) = item.Fits a

abbrev pub option_spelling : {A : Type 0} → Format A → Option A → List ℕ
option_spelling item None = byte_of_flag false ∷ []
option_spelling item (Some a) = byte_of_flag true ∷ item.spell a

-- a flag that says whether it is there, and then the part
abbrev pub optional : {A : Type 0} → Format A → Format (Option A)
optional item = made (λ p. option_of p.0 p.1) (FitsOption item) (option_spelling item) (flag ▷ part item)

-- ---- a test that counts at the last byte

-- a value that doesn't pass stops reading at its last byte
abbrev pub passed : {A : Type 0} → (A → Bool) → Read A → Read A
passed test r = r >>= λ x. if test x.0 then Ok x else Err (suc (length x.1))

abbrev pub passing : {A : Type 0} → (A → Bool) → Format A → Format A
passing test format = record {
  Fits = λ a. format.Fits a × (test a ≡ true);
  spell = format.spell;
  Begins = λ front. format.Begins front × ((a : _) → format.Fits a → format.spell a ≡ front → test a ≡ true);
  read = λ bytes. passed test (format.read bytes);
}

-- ---- so many bytes as they are

abbrev pub run_at : ℕ → List ℕ → Read (List ℕ)
run_at n bytes = if nat_lt (length bytes) n then Err 0 else Ok (take n bytes, drop n bytes)

abbrev pub run : ℕ → Format (List ℕ)
run n = record { Fits = λ bytes. length bytes ≡ n; spell = λ bytes. bytes; Begins = λ front. length front ≤ n; read = run_at n }

abbrev pub digest : Format Digest
digest = made (λ bytes. record { bytes = bytes }) (λ digest. length digest.bytes ≡ 32) (λ digest. digest.bytes) (run 32)

-- bytes behind their length
abbrev pub sized : Format (List ℕ)
sized = made (λ p. p.1) (λ bytes. length bytes < 2 ^ 32) (λ bytes. to_be_bytes w32 (length bytes) ++ bytes) (u32 ▷ run)

-- ---- a name behind its length

abbrev pub if_it : (ℕ → Bool) → ℕ → Option ℕ
if_it test b = if test b then Some b else None

-- a byte that passes a test
abbrev pub byte_that : (ℕ → Bool) → Format ℕ
byte_that test = symbol (λ b. b) (if_it test)

abbrev pub is_name_len : ℕ → Bool
is_name_len n = nat_le 1 n && nat_le n 64

abbrev pub AreLetters : ℕ → List ℕ → Type 0
AreLetters n bytes = (length bytes ≡ n) × IsTrue (begins_with_letter bytes) × IsTrue (list_all is_name_byte bytes)

-- a letter, and then letters, digits and `_`: n bytes
abbrev pub letters : ℕ → Format (List ℕ)
letters n = made first_of (AreLetters n) (λ bytes. bytes) (byte_that is_ascii_lowercase ⊗ times (n - 1) (byte_that is_name_byte))

abbrev pub isnt_reserved : List ℕ → Bool
isnt_reserved bytes = not (is_reserved bytes)

abbrev pub name_spelling : List ℕ → List ℕ
name_spelling name = length name ∷ name

-- the length in a byte, and then the name: reading stops where no name of this length goes on
abbrev pub name : Format (List ℕ)
name = made (λ p. p.1) IsName name_spelling (byte_that is_name_len ▷ λ n. passing isnt_reserved (letters n))

-- ---- a text of at most 1,000 bytes behind its length

abbrev pub text_spelling : List ℕ → List ℕ
text_spelling text = to_be_bytes w32 (length text) ++ text

abbrev pub text : Format (List ℕ)
text = told IsTxt text_spelling text_at

-- ---- a value behind the length of its spelling

-- all of the bytes
abbrev pub all_of : {A : Type 0} → Format A → List ℕ → Result A ℕ
all_of format bytes = format.read bytes >>= λ x. ended x

abbrev pub settled : {A : Type 0} → ℕ → List ℕ → Result A ℕ → Read A
settled n bytes (Ok a) = if nat_le n (length bytes) then Ok (a, drop n bytes) else Err 0
settled n bytes (Err left) = Err (left + length (drop n bytes))

-- a spelling of so many bytes: within these reading stops as in bytes of their own
abbrev pub exactly : {A : Type 0} → ℕ → Format A → Format A
exactly n format = record {
  Fits = λ a. format.Fits a × (length (format.spell a) ≡ n);
  spell = format.spell;
  Begins = λ front. (length front ≤ n) × format.Begins front;
  read = λ bytes. settled n bytes (all_of format (take n bytes));
}

abbrev pub measured : {A : Type 0} → Format A → Format A
measured format =
    made (λ p. p.1) (λ a. format.Fits a × (length (format.spell a) < 2 ^ 32)) (λ a. to_be_bytes w32 (length (format.spell a)) ++ format.spell a)
    (u32 ▷ λ n. exactly n format)
