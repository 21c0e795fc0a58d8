-- A line spells a stream or a head exactly where one is read from it.
use Rattle.std.proofs.Common.{◌≡◌, ℕ, ◌<◌, Bool, true, false, cond, ◌&&◌, nat_eq, List, [], ◌∷◌, ◌++◌, length, codes, Option, Some, None, Ok, option_and_then, bytes_eq, refl, sym, ap, ◌∙◌, subst, length-append, arith}
use Rattle.std.specs.List.{slice_split, list_all, join_with_byte}
use Rattle.std.proofs.lemmas.Bool.Decides.{nat_tests}
use Rattle.std.proofs.lemmas.Slice.Eq.{bytes_eq-Decides}
use Rattle.std.proofs.lemmas.List.Splits.{join_with_byte-slice_split, length-slice_split}
use Rattle.rows_core.specs.Name.{IsName, is_name, is_name_byte}
use Rattle.rows_core.specs.Kind.{kind_word, kind_with_word}
use Rattle.rows_core.specs.declared.kind.Kind.{Kind}
use Rattle.rows_core.specs.declared.kind.Kind.TheVariants.{Int, Text, Bool as Truth}
use Rattle.rows_core.specs.declared.schema.Column.{Column}
use Rattle.script_text.specs.Spelling.{AreSpaces, Padded, SpellsName, SpellsColumn, SpellsColumns, SpellsStream, SpellsWithName, SpellsAppend}
use Rattle.script_text.specs.StreamLine.{is_mark, Parts, parts_at, only_kind, column_with, column_of_parts, column_of, columns_with, columns_of_parts, columns_of, columns_before, closed_columns, stream_with, stream_of_parts, stream_of}
use Rattle.script_text.specs.Dispatch.{command_of, line_command}
use Rattle.script_text.specs.Spelled.{or_syntax}
use Rattle.script_text.specs.Words.{is_blank, trimmed, ends_word, behind_word, only_word, name_if, only_name, head_name}
use Rattle.script_text.specs.declared.item.Command.{Command}
use Rattle.script_text.specs.declared.item.Command.TheVariants.{Stream}
use Rattle.script_text.proofs.CommandKinds.{reads_command}
use Rattle.script_text.proofs.StreamLemmas.{columns_of-next, columns_of-last}
use Rattle.script_text.proofs.Spellings.{same_byte, is_blank-spaces, AreSpaces-blank, trimmed-whole, Lacks, Lacks-append, parts_at-first, parts_at-lacking, parts_at-whole, only_word-padded, Padded-only_word, StandsBehind, behind_word-whole, begun}

and_first : (a b : Bool) → a && b ≡ true → a ≡ true
and_first true b e = refl
and_first false b e = absurd (cc)

and_second : (a b : Bool) → a && b ≡ true → b ≡ true
and_second true b e = e
and_second false b e = absurd (cc)

-- a byte that is no name's stands in no name
pub Lacks-from_all : (mark : ℕ) → is_name_byte mark ≡ false → (text : List ℕ) → list_all is_name_byte text ≡ true → Lacks (is_mark mark) text
Lacks-from_all mark other [] all = tt
Lacks-from_all mark other (c ∷ cs) all = (by (nat_eq c mark) refl, Lacks-from_all mark other cs (and_second (is_name_byte c) (list_all is_name_byte cs) all))
  where
    by : (b : Bool) → nat_eq c mark ≡ b → nat_eq c mark ≡ false
    by true test =
        let same = same_byte c mark test in
        let is : is_name_byte c ≡ true = and_first (is_name_byte c) (list_all is_name_byte cs) all in
        absurd (cc)
    by false test = test

pub name_bytes : (name : List ℕ) → IsName name → list_all is_name_byte name ≡ true
unfolding is_name
name_bytes name h = grind (arith, nat_tests)

pub name_some : (name : List ℕ) → IsName name → 0 < length name
unfolding is_name
name_some [] h = absurd (cc)
name_some (c ∷ cs) h = omega arith

-- a mark that stands in no padded word
abbrev pub IsMark : ℕ → Type 0
IsMark mark = (is_name_byte mark ≡ false) × (nat_eq 32 mark ≡ false)

Lacks-spaces : (mark : ℕ) → nat_eq 32 mark ≡ false → (text : List ℕ) → AreSpaces text → Lacks (is_mark mark) text
Lacks-spaces mark other [] spaces = tt
Lacks-spaces mark other (c ∷ cs) spaces = (subst (λ x. nat_eq x mark ≡ false) (sym spaces.0) other, Lacks-spaces mark other cs spaces.1)

pub Lacks-padded : (mark : ℕ) → IsMark mark → (word text : List ℕ) → list_all is_name_byte word ≡ true → Padded word text → Lacks (is_mark mark) text
Lacks-padded mark is word text bytes padded =
    subst (Lacks (is_mark mark)) (sym padded.whole)
    (Lacks-append (is_mark mark) padded.front (word ++ padded.back) (Lacks-spaces mark is.1 padded.front padded.before)
    (Lacks-append (is_mark mark) word padded.back (Lacks-from_all mark is.0 word bytes) (Lacks-spaces mark is.1 padded.back padded.behind)))

-- names
pub only_name-spelled : (name text : List ℕ) → SpellsName name text → only_name text ≡ Some name
only_name-spelled name text spells =
    ap (option_and_then name_if) (only_word-padded name text (name_some name spells.is_name) (Lacks-from_all 32 refl name (name_bytes name spells.is_name)) spells.padded)
    ∙ ap (λ b. cond b (Some name) None) spells.is_name

pub SpellsName-read : (name text : List ℕ) → only_name text ≡ Some name → SpellsName name text
SpellsName-read name text e = by (only_word text) refl e
  where
    named : (word : List ℕ) → only_word text ≡ Some word → (b : Bool) → is_name word ≡ b → cond b (Some word) None ≡ Some name → SpellsName name text
    named word is true test e =
        let same : word ≡ name = cc in
        record { is_name = subst IsName same test; padded = Padded-only_word text name (is ∙ ap Some same) }
    named word is false test e = absurd (cc)

    by : (o : Option (List ℕ)) → only_word text ≡ o → option_and_then name_if o ≡ Some name → SpellsName name text
    by None is e = absurd (cc)
    by (Some word) is e = named word is (is_name word) refl e

-- kinds
kind_bytes : (kind : Kind) → list_all is_name_byte (kind_word kind) ≡ true
kind_bytes Int = refl
kind_bytes Text = refl
kind_bytes Truth = refl

kind_some : (kind : Kind) → 0 < length (kind_word kind)
kind_some Int = omega arith
kind_some Text = omega arith
kind_some Truth = omega arith

kind_with_word-word : (kind : Kind) → kind_with_word (kind_word kind) ≡ Some kind
unfolding kind_with_word
kind_with_word-word Int = refl
kind_with_word-word Text = refl
kind_with_word-word Truth = refl

kind_word-read : (word : List ℕ) (kind : Kind) → kind_with_word word ≡ Some kind → word ≡ kind_word kind
unfolding kind_with_word
kind_word-read word kind e = by (bytes_eq word (kind_word Int)) (bytes_eq word (kind_word Text)) (bytes_eq word (kind_word Truth)) refl refl refl e
  where
    by : (i t b : Bool) → bytes_eq word (kind_word Int) ≡ i → bytes_eq word (kind_word Text) ≡ t → bytes_eq word (kind_word Truth) ≡ b
        → cond i (Some Int) (cond t (Some Text) (cond b (Some Truth) None)) ≡ Some kind → word ≡ kind_word kind
    by true t b is other last e = let same : Int ≡ kind = cc in (bytes_eq-Decides word (kind_word Int)).0 is ∙ ap kind_word same
    by false true b other is last e = let same : Text ≡ kind = cc in (bytes_eq-Decides word (kind_word Text)).0 is ∙ ap kind_word same
    by false false true other last is e = let same : Truth ≡ kind = cc in (bytes_eq-Decides word (kind_word Truth)).0 is ∙ ap kind_word same
    by false false false other none last e = absurd (cc)

only_kind-padded : (kind : Kind) (text : List ℕ) → Padded (kind_word kind) text → only_kind text ≡ Some kind
only_kind-padded kind text padded =
    ap (option_and_then kind_with_word) (only_word-padded (kind_word kind) text (kind_some kind) (Lacks-from_all 32 refl (kind_word kind) (kind_bytes kind)) padded) ∙ kind_with_word-word kind

Padded-only_kind : (kind : Kind) (text : List ℕ) → only_kind text ≡ Some kind → Padded (kind_word kind) text
Padded-only_kind kind text e = by (only_word text) refl e
  where
    by : (o : Option (List ℕ)) → only_word text ≡ o → option_and_then kind_with_word o ≡ Some kind → Padded (kind_word kind) text
    by None is e = absurd (cc)
    by (Some word) is e = Padded-only_word text (kind_word kind) (is ∙ ap Some (kind_word-read word kind e))

-- columns
Lacks-column : (mark : ℕ) → IsMark mark → nat_eq 58 mark ≡ false → (column : Column) (text : List ℕ) → SpellsColumn column text → Lacks (is_mark mark) text
Lacks-column mark is colon column text spells =
    subst (Lacks (is_mark mark)) (sym spells.whole)
    (Lacks-append (is_mark mark) spells.name (58 ∷ spells.kind) (Lacks-padded mark is column.name spells.name (name_bytes column.name spells.named.is_name) spells.named.padded)
    (colon, Lacks-padded mark is (kind_word column.kind) spells.kind (kind_bytes column.kind) spells.kinded))

column_of-spelled : (column : Column) (text : List ℕ) → SpellsColumn column text → column_of text ≡ Some column
column_of-spelled column text spells =
    let none = Lacks-padded 58 (refl, refl) column.name spells.name (name_bytes column.name spells.named.is_name) spells.named.padded in
    ap column_of spells.whole
    ∙ ap (option_and_then column_of_parts) (parts_at-first 58 spells.name spells.kind none)
    ∙ ap (λ n. column_with n (only_kind spells.kind)) (only_name-spelled column.name spells.name spells.named)
    ∙ ap (column_with (Some column.name)) (only_kind-padded column.kind spells.kind spells.kinded)

SpellsColumn-read : (column : Column) (text : List ℕ) → column_of text ≡ Some column → SpellsColumn column text
SpellsColumn-read column text e = by (parts_at 58 text) refl e
  where
    both : (parts : Parts) → parts_at 58 text ≡ Some parts → (name : Option (List ℕ)) (kind : Option Kind) → only_name parts.before ≡ name → only_kind parts.behind ≡ kind → column_with name kind ≡ Some column → SpellsColumn column text
    both parts parted (Some name) (Some kind) named kinded e =
        let same : record { name = name; kind = kind } ≡ column = cc in
        subst (λ c. SpellsColumn c text) same (record {
          name = parts.before;
          kind = parts.behind;
          named = SpellsName-read name parts.before named;
          kinded = Padded-only_kind kind parts.behind kinded;
          whole = parts_at-whole 58 text parts parted;
        })
    both parts parted (Some name) None named kinded e = absurd (cc)
    both parts parted None kind named kinded e = absurd (cc)

    by : (o : Option Parts) → parts_at 58 text ≡ o → option_and_then column_of_parts o ≡ Some column → SpellsColumn column text
    by None parted e = absurd (cc)
    by (Some parts) parted e = both parts parted (only_name parts.before) (only_kind parts.behind) refl refl e

Lacks-columns : (columns : List Column) (text : List ℕ) → SpellsColumns columns text → Lacks (is_mark 41) text
Lacks-columns [] text spells = absurd spells
Lacks-columns (column ∷ []) text spells = Lacks-column 41 (refl, refl) refl column text spells
Lacks-columns (column ∷ next ∷ more) text spells =
    subst (Lacks (is_mark 41)) (sym spells.whole)
    (Lacks-append (is_mark 41) spells.first (44 ∷ spells.rest) (Lacks-column 41 (refl, refl) refl column spells.first spells.spells_first) (refl, Lacks-columns (next ∷ more) spells.rest spells.spells_rest))

columns_of-spelled : (columns : List Column) (text : List ℕ) → SpellsColumns columns text → columns_of text ≡ Some columns
columns_of-spelled [] text spells = absurd spells
columns_of-spelled (column ∷ []) text spells =
    columns_of-last text (parts_at-lacking 44 text (Lacks-column 44 (refl, refl) refl column text spells)) ∙ ap (λ c. columns_with c (Some [])) (column_of-spelled column text spells)
columns_of-spelled (column ∷ next ∷ more) text spells =
    let none = Lacks-column 44 (refl, refl) refl column spells.first spells.spells_first in
    ap columns_of spells.whole
    ∙ columns_of-next (spells.first ++ 44 ∷ spells.rest) (record { before = spells.first; behind = spells.rest }) (parts_at-first 44 spells.first spells.rest none)
    ∙ ap (λ c. columns_with c (columns_of spells.rest)) (column_of-spelled column spells.first spells.spells_first)
    ∙ ap (columns_with (Some column)) (columns_of-spelled (next ∷ more) spells.rest spells.spells_rest)

SpellsColumns-onto : (column : Column) (columns : List Column) (first rest : List ℕ) → SpellsColumn column first → SpellsColumns columns rest → SpellsColumns (column ∷ columns) (first ++ 44 ∷ rest)
SpellsColumns-onto column [] first rest one more = absurd more
SpellsColumns-onto column (next ∷ columns) first rest one more = record { first = first; rest = rest; spells_first = one; spells_rest = more; whole = refl }

SpellsColumns-joined : (parts : List (List ℕ)) (columns : List Column) → 0 < length parts → columns_of_parts parts ≡ Some columns → SpellsColumns columns (join_with_byte 44 parts)
SpellsColumns-joined [] columns some e = absurd (omega (arith, some))
SpellsColumns-joined (part ∷ []) columns some e = by (column_of part) refl e
  where
    by : (c : Option Column) → column_of part ≡ c → columns_with c (Some []) ≡ Some columns → SpellsColumns columns part
    by (Some column) is e = let same : column ∷ [] ≡ columns = cc in subst (λ cs. SpellsColumns cs part) same (SpellsColumn-read column part is)
    by None is e = absurd (cc)
SpellsColumns-joined (part ∷ next ∷ more) columns some e = by (λ others. SpellsColumns-joined (next ∷ more) others (omega arith)) (column_of part) (columns_of_parts (next ∷ more)) refl refl e
  where
    by : ((others : List Column) → columns_of_parts (next ∷ more) ≡ Some others → SpellsColumns others (join_with_byte 44 (next ∷ more)))
        → (c : Option Column) (cs : Option (List Column)) → column_of part ≡ c → columns_of_parts (next ∷ more) ≡ cs → columns_with c cs ≡ Some columns → SpellsColumns columns (part ++ 44 ∷ join_with_byte 44 (next ∷ more))
    by rest (Some column) (Some others) is are e =
        let same : column ∷ others ≡ columns = cc in
        subst (λ cs. SpellsColumns cs (part ++ 44 ∷ join_with_byte 44 (next ∷ more))) same
        (SpellsColumns-onto column others part (join_with_byte 44 (next ∷ more)) (SpellsColumn-read column part is) (rest others are))
    by rest (Some column) None is are e = absurd (cc)
    by rest None others is are e = absurd (cc)

SpellsColumns-read : (columns : List Column) (text : List ℕ) → columns_of text ≡ Some columns → SpellsColumns columns text
unfolding columns_of
SpellsColumns-read columns text e =
    subst (SpellsColumns columns) (join_with_byte-slice_split 44 text) (SpellsColumns-joined (slice_split (is_mark 44) text) columns (omega (arith, length-slice_split (is_mark 44) text)) e)

-- the line
pub only_name-space : (text : List ℕ) → only_name (32 ∷ text) ≡ only_name text
unfolding only_word
only_name-space text = refl

closed_columns-spelled : (columns : List Column) (listed back : List ℕ) → SpellsColumns columns listed → AreSpaces back → closed_columns (listed ++ 41 ∷ back) ≡ Some columns
closed_columns-spelled columns listed back spells spaces =
    ap (option_and_then columns_before) (parts_at-first 41 listed back (Lacks-columns columns listed spells))
    ∙ ap (λ b. cond b (columns_of listed) None) (is_blank-spaces back spaces)
    ∙ columns_of-spelled columns listed spells

stream_of-spelled : (name : List ℕ) (columns : List Column) (line : List ℕ) → (spells : SpellsStream name columns line) → stream_of (32 ∷ (spells.named ++ 40 ∷ (spells.listed ++ 41 ∷ spells.back))) ≡ Some (Stream name columns)
stream_of-spelled name columns line spells =
    let none = Lacks-padded 40 (refl, refl) name spells.named (name_bytes name spells.spells_name.is_name) spells.spells_name.padded in
    ap (option_and_then stream_of_parts) (parts_at-first 40 (32 ∷ spells.named) (spells.listed ++ 41 ∷ spells.back) (refl, none))
    ∙ ap (λ n. stream_with n (closed_columns (spells.listed ++ 41 ∷ spells.back))) (only_name-space spells.named ∙ only_name-spelled name spells.named spells.spells_name)
    ∙ ap (stream_with (Some name)) (closed_columns-spelled columns spells.listed spells.back spells.spells_columns spells.behind)

pub line_command-spelled : (name : List ℕ) (columns : List Column) (line : List ℕ) → SpellsStream name columns line → line_command line ≡ Ok (Stream name columns)
line_command-spelled name columns line spells =
    ap command_of (begun spells.front (codes "stream" ++ 32 ∷ (spells.named ++ 40 ∷ (spells.listed ++ 41 ∷ spells.back))) spells.before line spells.whole)
    ∙ ap or_syntax (stream_of-spelled name columns line spells)

-- the columns with what stands behind them
record SpellsClosed (columns : List Column) (text : List ℕ) : Type 0 where
  listed : List ℕ
  back : List ℕ
  spells_columns : SpellsColumns columns listed
  behind : AreSpaces back
  whole : text ≡ listed ++ 41 ∷ back

SpellsClosed-read : (columns : List Column) (text : List ℕ) → closed_columns text ≡ Some columns → SpellsClosed columns text
SpellsClosed-read columns text e = by (parts_at 41 text) refl e
  where
    ended : (parts : Parts) → parts_at 41 text ≡ Some parts → (b : Bool) → is_blank parts.behind ≡ b → cond b (columns_of parts.before) None ≡ Some columns → SpellsClosed columns text
    ended parts parted true blank e = record {
      listed = parts.before;
      back = parts.behind;
      spells_columns = SpellsColumns-read columns parts.before e;
      behind = AreSpaces-blank parts.behind blank;
      whole = parts_at-whole 41 text parts parted;
    }
    ended parts parted false blank e = absurd (cc)

    by : (o : Option Parts) → parts_at 41 text ≡ o → option_and_then columns_before o ≡ Some columns → SpellsClosed columns text
    by None parted e = absurd (cc)
    by (Some parts) parted e = ended parts parted (is_blank parts.behind) refl e

-- the name behind a space and before a mark
pub record SpellsNamed (mark : ℕ) (name text behind : List ℕ) : Type 0 where
  pub named : List ℕ
  pub spells_name : SpellsName name named
  pub whole : text ≡ 32 ∷ (named ++ mark ∷ behind)

pub SpellsNamed-read : (mark : ℕ) → nat_eq mark 32 ≡ false → (name text before behind : List ℕ) → ends_word text ≡ true → text ≡ before ++ mark ∷ behind → only_name before ≡ Some name → SpellsNamed mark name text behind
SpellsNamed-read mark other name text [] behind ends whole e = let no : ends_word (mark ∷ behind) ≡ true = ap ends_word (sym whole) ∙ ends in absurd (cc)
SpellsNamed-read mark other name text (c ∷ cs) behind ends whole e =
    let test : nat_eq c 32 ≡ true = ap ends_word (sym whole) ∙ ends in
    let space : c ≡ 32 = same_byte c 32 test in
    record {
      named = cs;
      spells_name = SpellsName-read name cs (sym (only_name-space cs) ∙ ap (λ b. only_name (b ∷ cs)) (sym space) ∙ e);
      whole = whole ∙ ap (λ b. b ∷ (cs ++ mark ∷ behind)) space;
    }

-- a stream
module _ (name : List ℕ) (columns : List Column) (line : List ℕ) where
  read_parts : (rest : List ℕ) → StandsBehind (codes "stream") (trimmed line) rest → (parts : Parts) → parts_at 40 rest ≡ Some parts
      → (n : Option (List ℕ)) (cs : Option (List Column)) → only_name parts.before ≡ n → closed_columns parts.behind ≡ cs → stream_with n cs ≡ Some (Stream name columns) → SpellsStream name columns line
  read_parts rest behind parts parted (Some n) (Some cs) is are e =
      let same_name : n ≡ name = cc in
      let same_columns : cs ≡ columns = cc in
      let cut = trimmed-whole line in
      let named = SpellsNamed-read 40 refl name rest parts.before parts.behind behind.ends (parts_at-whole 40 rest parts parted) (is ∙ ap Some same_name) in
      let closed = SpellsClosed-read columns parts.behind (are ∙ ap Some same_columns) in
      record {
        front = cut.front;
        named = named.named;
        listed = closed.listed;
        back = closed.back;
        before = cut.before;
        spells_name = named.spells_name;
        spells_columns = closed.spells_columns;
        behind = closed.behind;
        whole = cut.whole ∙ ap (λ t. cut.front ++ t) (behind.whole ∙ ap (λ t. codes "stream" ++ t) (named.whole ∙ ap (λ t. 32 ∷ (named.named ++ 40 ∷ t)) closed.whole));
      }
  read_parts rest behind parts parted (Some n) None is are e = absurd (cc)
  read_parts rest behind parts parted None cs is are e = absurd (cc)

  read_rest : (rest : List ℕ) → StandsBehind (codes "stream") (trimmed line) rest → (o : Option Parts) → parts_at 40 rest ≡ o → option_and_then stream_of_parts o ≡ Some (Stream name columns) → SpellsStream name columns line
  read_rest rest behind None parted e = absurd (cc)
  read_rest rest behind (Some parts) parted e = read_parts rest behind parts parted (only_name parts.before) (closed_columns parts.behind) refl refl e

  read_command : (command : Option Command) → or_syntax command ≡ Ok (Stream name columns) → command ≡ Some (Stream name columns)
  read_command (Some command) e = cc
  read_command None e = absurd (cc)

  pub SpellsStream-read : line_command line ≡ Ok (Stream name columns) → SpellsStream name columns line
  SpellsStream-read e =
      let read = reads_command line (Stream name columns) e in
      read_rest read.rest read.behind (parts_at 40 read.rest) refl (read_command (stream_of read.rest) read.is)

-- a name behind a space
pub record SpellsSpaced (name text : List ℕ) : Type 0 where
  pub named : List ℕ
  pub spells_name : SpellsName name named
  pub whole : text ≡ 32 ∷ named

pub SpellsSpaced-read : (name text : List ℕ) → ends_word text ≡ true → only_name text ≡ Some name → SpellsSpaced name text
SpellsSpaced-read name [] ends e =
    let spells = SpellsName-read name [] e in
    let whole = spells.padded.whole in
    absurd (omega (arith, name_some name spells.is_name, ap length whole, length-append spells.padded.front (name ++ spells.padded.back), length-append name spells.padded.back))
SpellsSpaced-read name (c ∷ cs) ends e =
    let space : c ≡ 32 = same_byte c 32 ends in
    record { named = cs; spells_name = SpellsName-read name cs (sym (only_name-space cs) ∙ ap (λ b. only_name (b ∷ cs)) (sym space) ∙ e); whole = ap (λ b. b ∷ cs) space }

-- a name alone behind a first word
pub SpellsWithName-read : (word name line rest : List ℕ) → StandsBehind word (trimmed line) rest → only_name rest ≡ Some name → SpellsWithName word name line
SpellsWithName-read word name line rest behind e =
    let cut = trimmed-whole line in
    let spaced = SpellsSpaced-read name rest behind.ends e in
    record {
      front = cut.front;
      named = spaced.named;
      before = cut.before;
      spells_name = spaced.spells_name;
      whole = cut.whole ∙ ap (λ t. cut.front ++ t) (behind.whole ∙ ap (λ t. word ++ t) spaced.whole);
    }

pub only_name-behind : (word name line : List ℕ) → (spells : SpellsWithName word name line) → only_name (32 ∷ spells.named) ≡ Some name
only_name-behind word name line spells = only_name-space spells.named ∙ only_name-spelled name spells.named spells.spells_name

-- a head line
pub head_name-spelled : (name line : List ℕ) → SpellsAppend name line → head_name line ≡ Some name
head_name-spelled name line spells =
    ap (λ t. option_and_then only_name (behind_word (codes "append") t)) (begun spells.front (codes "append" ++ 32 ∷ spells.named) spells.before line spells.whole)
    ∙ only_name-behind (codes "append") name line spells

pub SpellsAppend-read : (name line : List ℕ) → head_name line ≡ Some name → SpellsAppend name line
SpellsAppend-read name line e = by (behind_word (codes "append") (trimmed line)) refl e
  where
    by : (o : Option (List ℕ)) → behind_word (codes "append") (trimmed line) ≡ o → option_and_then only_name o ≡ Some name → SpellsAppend name line
    by None is e = absurd (cc)
    by (Some rest) is e = SpellsWithName-read (codes "append") name line rest (behind_word-whole (codes "append") (trimmed line) rest is) e
