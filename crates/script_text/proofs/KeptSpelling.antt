-- A line asks for what is kept exactly where it is read so.
use Rattle.std.proofs.Common.{◌≡◌, ℕ, ◌^◌, ◌<◌, ◌≤◌, Bool, true, false, cond, nat_eq, List, [], ◌∷◌, ◌++◌, length, codes, decimal, Option, Some, None, Ok, Err, option_and_then, bytes_eq, refl, sym, ap, ◌∙◌, subst, append-nil, length-append, inl, inr, arith}
use Rattle.std.specs.List.{before_first, after_first}
use Rattle.std.specs.Prelude.{◌⊎◌}
use Rattle.std.specs.Str.Parse.{AllDigits}
use Rattle.std.proofs.lemmas.Bool.Decides.{nat_tests}
use Rattle.std.proofs.lemmas.Fmt.{decimal_is_IsNumeral, decimal_nonempty}
use Rattle.std.proofs.lemmas.Slice.Eq.{bytes_eq-Decides}
use Rattle.std.proofs.lemmas.Str.Parse.{digit_from_value}
use Rattle.rows_core.specs.Name.{IsName, is_name}
use Rattle.script_text.specs.CollectLine.{number_of, collect_with, collect_of}
use Rattle.script_text.specs.Dispatch.{behind_or, command_of, line_command}
use Rattle.script_text.specs.FetchLine.{as_run_if, as_run_of, fetch_with, fetch_of_words}
use Rattle.script_text.specs.ListLine.{alone, entries_of, catalog_of}
use Rattle.script_text.specs.Spelling.{AreSpaces, Padded, SpellsFetch, SpellsFetchAsRun, SpellsCollect, SpellsEntries, SpellsCatalog}
use Rattle.script_text.specs.Words.{is_space, is_blank, trimmed, ends_word, only_word, name_if}
use Rattle.script_text.specs.declared.answer.Refusal.TheVariants.{Syntax}
use Rattle.script_text.specs.declared.item.Command.{Command}
use Rattle.script_text.specs.declared.item.Command.TheVariants.{Fetch, Collect, Entries, Catalog}
use Rattle.script_text.proofs.CommandKinds.{reads_command}
use Rattle.script_text.proofs.NumberLemmas.{number_of-decimal, IsNumberOf-read}
use Rattle.script_text.proofs.Spellings.{begun, same_byte, is_blank-spaces, AreSpaces-blank, trimmed-spaces, trimmed-whole, trimmed-word, Lacks, before_first-space, after_first-space, before_first-spaces, after_first-spaces, first_word-whole, only_word-padded, Padded-only_word, only_word-spaces}
use Rattle.script_text.proofs.StreamSpelling.{Lacks-from_all, name_bytes, name_some}

-- a name has no space, nor has a decimal
pub name_lacks : (name : List ℕ) → IsName name → Lacks is_space name
name_lacks name is = Lacks-from_all 32 refl name (name_bytes name is)

digits_lack : (digits : List ℕ) → AllDigits 10 digits → Lacks is_space digits
digits_lack [] all = tt
digits_lack (c ∷ cs) all = (by (digit_from_value c all.0).0, digits_lack cs all.1)
  where
    by : 48 ≤ c → nat_eq c 32 ≡ false
    by low = grind (arith, nat_tests)

-- lines that spell these commands are read so
fetch_of_words-named : (name back : List ℕ) → IsName name → (as_run : Option Bool) → before_first is_space back ≡ name → as_run_of (after_first is_space back) ≡ as_run → fetch_of_words back ≡ fetch_with (Some name) as_run
fetch_of_words-named name back is as_run named asked =
    ap (λ n. fetch_with (name_if n) (as_run_of (after_first is_space back))) named
    ∙ ap (λ b. fetch_with (cond b (Some name) None) (as_run_of (after_first is_space back))) is
    ∙ ap (fetch_with (Some name)) asked

pub fetch-spelled : (name line : List ℕ) → SpellsFetch name line → line_command line ≡ Ok (Fetch name false)
fetch-spelled name line spells =
    let padded = spells.spells_name.padded in
    let is = spells.spells_name.is_name in
    let none = name_lacks name is in
    ap command_of (begun spells.front (codes "fetch" ++ 32 ∷ spells.named) spells.before line spells.whole)
    ∙ ap fetch_of_words (begun padded.front (name ++ padded.back) padded.before spells.named padded.whole ∙ trimmed-word name padded.back (name_some name is) none)
    ∙ fetch_of_words-named name (name ++ padded.back) is (Some false) (before_first-spaces name padded.back none padded.behind)
    (ap (option_and_then as_run_if) (only_word-spaces (after_first is_space (name ++ padded.back)) (after_first-spaces name padded.back none padded.behind)))

pub fetch_as_run-spelled : (name line : List ℕ) → SpellsFetchAsRun name line → line_command line ≡ Ok (Fetch name true)
fetch_as_run-spelled name line spells =
    let is = spells.is_name in
    let none = name_lacks name is in
    let rest : List ℕ = name ++ 32 ∷ spells.asked in
    let as_run_lacks : Lacks is_space (codes "as-run") = (refl, (refl, (refl, (refl, (refl, (refl, tt)))))) in
    ap command_of (begun spells.front (codes "fetch" ++ 32 ∷ (spells.between ++ rest)) spells.before line spells.whole)
    ∙ ap fetch_of_words (trimmed-spaces spells.between rest spells.before_name ∙ trimmed-word name (32 ∷ spells.asked) (name_some name is) none)
    ∙ fetch_of_words-named name rest is (Some true) (before_first-space name spells.asked none)
    (ap as_run_of (after_first-space name spells.asked none) ∙ ap (option_and_then as_run_if) (only_word-padded (codes "as-run") spells.asked (omega arith) as_run_lacks spells.asks))

only_word-space : (text : List ℕ) → only_word (32 ∷ text) ≡ only_word text
unfolding only_word
only_word-space text = refl

pub collect-spelled : (bytes : ℕ) (line : List ℕ) → SpellsCollect bytes line → line_command line ≡ Ok (Collect bytes)
collect-spelled bytes line spells =
    let none = digits_lack (decimal bytes) (decimal_is_IsNumeral bytes spells.fits).0.1 in
    ap command_of (begun spells.front (codes "collect" ++ 32 ∷ spells.number) spells.before line spells.whole)
    ∙ ap (λ w. collect_with (option_and_then number_of w)) (only_word-space spells.number ∙ only_word-padded (decimal bytes) spells.number (decimal_nonempty bytes spells.fits) none spells.spells_number)
    ∙ ap collect_with (number_of-decimal bytes spells.fits)

ends_word-spaces : (text : List ℕ) → AreSpaces text → ends_word text ≡ true
ends_word-spaces [] spaces = refl
ends_word-spaces (c ∷ cs) spaces = subst (λ b. nat_eq b 32 ≡ true) (sym spaces.0) refl

pub entries-spelled : (line : List ℕ) → SpellsEntries line → line_command line ≡ Ok Entries
entries-spelled line spells =
    ap command_of (begun spells.front (codes "entries" ++ spells.back) spells.before line spells.whole)
    ∙ ap (λ b. behind_or (cond b (Some spells.back) None) entries_of (Err Syntax)) (ends_word-spaces spells.back spells.behind)
    ∙ ap (λ b. cond b (Ok Entries) (Err Syntax)) (is_blank-spaces spells.back spells.behind)

pub catalog-spelled : (line : List ℕ) → SpellsCatalog line → line_command line ≡ Ok Catalog
catalog-spelled line spells =
    ap command_of (begun spells.front (codes "catalog" ++ spells.back) spells.before line spells.whole)
    ∙ ap (λ b. behind_or (cond b (Some spells.back) None) catalog_of (Err Syntax)) (ends_word-spaces spells.back spells.behind)
    ∙ ap (λ b. cond b (Ok Catalog) (Err Syntax)) (is_blank-spaces spells.back spells.behind)

-- the words behind `fetch`
record ReadsWords (name : List ℕ) (as_run : Bool) (text : List ℕ) : Type 0 where
  is_name : IsName name
  named : before_first is_space text ≡ name
  asked : as_run_of (after_first is_space text) ≡ Some as_run

ReadsWords-read : (name : List ℕ) (as_run : Bool) (text : List ℕ) → fetch_of_words text ≡ Ok (Fetch name as_run) → ReadsWords name as_run text
ReadsWords-read name as_run text e = by (is_name (before_first is_space text)) refl (as_run_of (after_first is_space text)) refl e
  where
    by : (b : Bool) → is_name (before_first is_space text) ≡ b → (o : Option Bool) → as_run_of (after_first is_space text) ≡ o
        → fetch_with (cond b (Some (before_first is_space text)) None) o ≡ Ok (Fetch name as_run) → ReadsWords name as_run text
    by true test (Some asked) are e =
        let named : before_first is_space text ≡ name = cc in
        let same : asked ≡ as_run = cc in
        record { is_name = subst IsName named test; named = named; asked = are ∙ ap Some same }
    by true test None are e = absurd (cc)
    by false test o are e = absurd (cc)

AreSpaces-append : (front back : List ℕ) → AreSpaces front → AreSpaces back → AreSpaces (front ++ back)
AreSpaces-append [] back spaces more = more
AreSpaces-append (c ∷ cs) back spaces more = (spaces.0, AreSpaces-append cs back spaces.1 more)

-- no word asks for no run
no_word : (text : List ℕ) → as_run_of text ≡ Some false → AreSpaces text
no_word text e = by (only_word text) refl e
  where
    other : (b : Bool) → cond b (Some true) None ≡ Some false → AreSpaces text
    other true e = absurd (cc)
    other false e = absurd (cc)

    by : (word : Option (List ℕ)) → only_word text ≡ word → option_and_then as_run_if word ≡ Some false → AreSpaces text
    by (Some []) is e =
        let padded = Padded-only_word text [] is in
        subst AreSpaces (sym padded.whole) (AreSpaces-append padded.front padded.back padded.before padded.behind)
    by (Some (c ∷ cs)) is e = other (bytes_eq (c ∷ cs) (codes "as-run")) e
    by None is e = absurd (cc)

-- and `as-run` for the last one
asking_word : (text : List ℕ) → as_run_of text ≡ Some true → Padded (codes "as-run") text
asking_word text e = by (only_word text) refl e
  where
    asks : (word : List ℕ) → only_word text ≡ Some word → (b : Bool) → bytes_eq word (codes "as-run") ≡ b → cond b (Some true) None ≡ Some true → Padded (codes "as-run") text
    asks word is true test e = Padded-only_word text (codes "as-run") (is ∙ ap Some ((bytes_eq-Decides word (codes "as-run")).0 test))
    asks word is false test e = absurd (cc)

    by : (word : Option (List ℕ)) → only_word text ≡ word → option_and_then as_run_if word ≡ Some true → Padded (codes "as-run") text
    by (Some []) is e = absurd (cc)
    by (Some (c ∷ cs)) is e = asks (c ∷ cs) is (bytes_eq (c ∷ cs) (codes "as-run")) refl e
    by None is e = absurd (cc)

-- a name and spaces
record NameAlone (name text : List ℕ) : Type 0 where
  back : List ℕ
  behind : AreSpaces back
  whole : text ≡ name ++ back

NameAlone-read : (name text : List ℕ) → before_first is_space text ≡ name → AreSpaces (after_first is_space text) → NameAlone name text
NameAlone-read name text named spaces = by (first_word-whole text)
  where
    by : (text ≡ before_first is_space text ++ 32 ∷ after_first is_space text) ⊎ ((text ≡ before_first is_space text) × (after_first is_space text ≡ [])) → NameAlone name text
    by (inl whole) = record { back = 32 ∷ after_first is_space text; behind = (refl, spaces); whole = whole ∙ ap (λ n. n ++ 32 ∷ after_first is_space text) named }
    by (inr whole) = record { back = []; behind = tt; whole = whole.0 ∙ named ∙ sym (append-nil name) }

-- a name and something behind it
NameBefore-read : (name text : List ℕ) → before_first is_space text ≡ name → as_run_of (after_first is_space text) ≡ Some true → text ≡ name ++ 32 ∷ after_first is_space text
NameBefore-read name text named asked = by (first_word-whole text)
  where
    by : (text ≡ before_first is_space text ++ 32 ∷ after_first is_space text) ⊎ ((text ≡ before_first is_space text) × (after_first is_space text ≡ [])) → text ≡ name ++ 32 ∷ after_first is_space text
    by (inl whole) = whole ∙ ap (λ n. n ++ 32 ∷ after_first is_space text) named
    by (inr whole) =
        let nothing : as_run_of (after_first is_space text) ≡ Some false = ap as_run_of whole.1 ∙ ap (option_and_then as_run_if) (only_word-spaces [] tt) in
        absurd (cc)

-- what stands behind a first word and a space
pub record Spaced (rest : List ℕ) : Type 0 where
  pub text : List ℕ
  pub whole : rest ≡ 32 ∷ text
  pub same : trimmed rest ≡ trimmed text

pub Spaced-read : (rest : List ℕ) → ends_word rest ≡ true → 0 < length (trimmed rest) → Spaced rest
Spaced-read [] ends some = absurd (omega (arith, some))
Spaced-read (c ∷ cs) ends some = record { text = cs; whole = ap (λ b. b ∷ cs) (same_byte c 32 ends); same = ap (λ b. cond b (trimmed cs) (c ∷ cs)) ends }

pub SpellsFetch-read : (name line : List ℕ) → line_command line ≡ Ok (Fetch name false) → SpellsFetch name line
SpellsFetch-read name line e =
    let read = reads_command line (Fetch name false) e in
    let words = ReadsWords-read name false (trimmed read.rest) read.is in
    let alone = NameAlone-read name (trimmed read.rest) words.named (no_word (after_first is_space (trimmed read.rest)) words.asked) in
    let spaced = Spaced-read read.rest read.behind.ends (omega (arith, name_some name words.is_name, ap length alone.whole, length-append name alone.back)) in
    let cut = trimmed-whole line in
    let inner = trimmed-whole spaced.text in
    record {
      front = cut.front;
      named = spaced.text;
      before = cut.before;
      spells_name = record {
        is_name = words.is_name;
        padded = record { front = inner.front; back = alone.back; before = inner.before; behind = alone.behind; whole = inner.whole ∙ ap (λ t. inner.front ++ t) (sym spaced.same ∙ alone.whole) };
      };
      whole = cut.whole ∙ ap (λ t. cut.front ++ t) (read.behind.whole ∙ ap (λ t. codes "fetch" ++ t) spaced.whole);
    }

pub SpellsFetchAsRun-read : (name line : List ℕ) → line_command line ≡ Ok (Fetch name true) → SpellsFetchAsRun name line
SpellsFetchAsRun-read name line e =
    let read = reads_command line (Fetch name true) e in
    let words = ReadsWords-read name true (trimmed read.rest) read.is in
    let asked : List ℕ = after_first is_space (trimmed read.rest) in
    let whole = NameBefore-read name (trimmed read.rest) words.named words.asked in
    let spaced = Spaced-read read.rest read.behind.ends (omega (arith, name_some name words.is_name, ap length whole, length-append name (32 ∷ asked))) in
    let cut = trimmed-whole line in
    let inner = trimmed-whole spaced.text in
    record {
      front = cut.front;
      between = inner.front;
      asked = asked;
      before = cut.before;
      before_name = inner.before;
      is_name = words.is_name;
      asks = asking_word asked words.asked;
      whole = cut.whole ∙ ap (λ t. cut.front ++ t) (read.behind.whole ∙ ap (λ t. codes "fetch" ++ t) (spaced.whole ∙ ap (λ t. 32 ∷ t) (inner.whole ∙ ap (λ t. inner.front ++ t) (sym spaced.same ∙ whole))));
    }

-- a word behind a space
record SpacedWord (word rest : List ℕ) : Type 0 where
  text : List ℕ
  whole : rest ≡ 32 ∷ text
  padded : Padded word text

SpacedWord-read : (word rest : List ℕ) → ends_word rest ≡ true → only_word rest ≡ Some word → 0 < length word → SpacedWord word rest
SpacedWord-read word [] ends is some =
    let none : only_word [] ≡ Some [] = only_word-spaces [] tt in
    let empty : word ≡ [] = cc in
    absurd (omega (arith, some, ap length empty))
SpacedWord-read word (c ∷ cs) ends is some =
    let space = same_byte c 32 ends in
    record { text = cs; whole = ap (λ b. b ∷ cs) space; padded = Padded-only_word cs word (sym (only_word-space cs) ∙ ap (λ b. only_word (b ∷ cs)) (sym space) ∙ is) }

-- the word behind `collect`
record ReadsNumber (bytes : ℕ) (rest : List ℕ) : Type 0 where
  word : only_word rest ≡ Some (decimal bytes)
  fits : bytes < 2 ^ 64

ReadsNumber-read : (bytes : ℕ) (rest : List ℕ) → collect_of rest ≡ Ok (Collect bytes) → ReadsNumber bytes rest
ReadsNumber-read bytes rest e = by (only_word rest) refl e
  where
    number : (word : List ℕ) → only_word rest ≡ Some word → (n : Option ℕ) → number_of word ≡ n → collect_with n ≡ Ok (Collect bytes) → ReadsNumber bytes rest
    number word is (Some n) are e =
        let same : n ≡ bytes = cc in
        let read = IsNumberOf-read word bytes (are ∙ ap Some same) in
        record { word = is ∙ ap Some read.is; fits = read.fits }
    number word is None are e = absurd (cc)

    by : (word : Option (List ℕ)) → only_word rest ≡ word → collect_with (option_and_then number_of word) ≡ Ok (Collect bytes) → ReadsNumber bytes rest
    by (Some word) is e = number word is (number_of word) refl e
    by None is e = absurd (cc)

pub SpellsCollect-read : (bytes : ℕ) (line : List ℕ) → line_command line ≡ Ok (Collect bytes) → SpellsCollect bytes line
SpellsCollect-read bytes line e =
    let read = reads_command line (Collect bytes) e in
    let number = ReadsNumber-read bytes read.rest read.is in
    let spaced = SpacedWord-read (decimal bytes) read.rest read.behind.ends number.word (decimal_nonempty bytes number.fits) in
    let cut = trimmed-whole line in
    record {
      front = cut.front;
      number = spaced.text;
      before = cut.before;
      fits = number.fits;
      spells_number = spaced.padded;
      whole = cut.whole ∙ ap (λ t. cut.front ++ t) (read.behind.whole ∙ ap (λ t. codes "collect" ++ t) spaced.whole);
    }

-- a word with nothing but spaces behind it
alone_blank : (command : Command) (b : Bool) → cond b (Ok command) (Err Syntax) ≡ Ok command → b ≡ true
alone_blank command true e = refl
alone_blank command false e = absurd (cc)

alone-read : (command : Command) (word line rest : List ℕ) → alone command rest ≡ Ok command → trimmed line ≡ word ++ rest → Padded word line
alone-read command word line rest is whole =
    let cut = trimmed-whole line in
    record { front = cut.front; back = rest; before = cut.before; behind = AreSpaces-blank rest (alone_blank command (is_blank rest) is); whole = cut.whole ∙ ap (λ t. cut.front ++ t) whole }

pub SpellsEntries-read : (line : List ℕ) → line_command line ≡ Ok Entries → SpellsEntries line
SpellsEntries-read line e = let read = reads_command line Entries e in alone-read Entries (codes "entries") line read.rest read.is read.behind.whole

pub SpellsCatalog-read : (line : List ℕ) → line_command line ≡ Ok Catalog → SpellsCatalog line
SpellsCatalog-read line e = let read = reads_command line Catalog e in alone-read Catalog (codes "catalog") line read.rest read.is read.behind.whole
