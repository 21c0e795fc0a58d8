-- What the reader knows of the bytes that it has taken, as more are taken.
use Rattle.std.proofs.Common.{◌≡◌, ℕ, ◌<◌, Bool, true, false, List, [], ◌∷◌, ◌++◌, length, is_none, Option, Some, None, option_to_list, refl, sym, ap, ◌∙◌, subst, append_assoc, append-nil, arith}
use Rattle.std.proofs.lemmas.List.Elements.{All-append}
use Rattle.script_text.specs.Line.{Holds}
use Rattle.script_text.specs.Script.{Block, line_item, line_block, last_items, unended_item, is_newline, no_items, items_from, items, all_items_from, all_items, Given, Completes}
use Rattle.script_text.specs.Reader.{is_outside, IsUnbroken, StandsFor, StandsAt, GivenIfAny, AfterLine}
use Rattle.script_text.specs.declared.item.Item.{Item}
use Rattle.script_text.specs.declared.place.Place.{Place}
use Rattle.script_text.specs.declared.place.Place.TheVariants as place
use Rattle.script_text.proofs.ScriptLemmas.{items_by-line, items_by-rest, line_block-none}

pub is_outside-StandsFor : (p : Place) (block : Option Block) → StandsFor p block → is_outside p ≡ is_none block
is_outside-StandsFor place.Outside None stands = refl
is_outside-StandsFor place.Outside (Some block) stands = absurd stands
is_outside-StandsFor (place.Block b) None stands = absurd stands
is_outside-StandsFor (place.Block b) (Some block) stands = refl

-- nothing was taken of a command
pub StandsAt-new : (p : Place) (text : List ℕ) (len : ℕ) → StandsFor p None → ((outside : Bool) → Holds outside text len []) → StandsAt p text len []
StandsAt-new p text len stands empty = record {
  front = [];
  line = [];
  block = None;
  whole = refl;
  unbroken = λ k d h. absurd (omega (arith, h));
  stands = stands;
  kept = empty true;
  goes_on = λ more. refl;
  ends = λ more. refl;
}

-- the line goes on
pub StandsAt-push : (p : Place) (text text' piece bytes : List ℕ) (len len' : ℕ) → IsUnbroken piece → ((line : List ℕ) → Holds (is_outside p) text len line → Holds (is_outside p) text' len' (line ++ piece))
    → StandsAt p text len bytes → StandsAt p text' len' (bytes ++ piece)
StandsAt-push p text text' piece bytes len len' unbroken push at =
    let outside = is_outside-StandsFor p at.block at.stands in
    record {
      front = at.front;
      line = at.line ++ piece;
      block = at.block;
      whole = ap (λ b. b ++ piece) at.whole ∙ append_assoc at.front at.line piece;
      unbroken = All-append (λ c. is_newline c ≡ false) at.line piece at.unbroken unbroken;
      stands = at.stands;
      kept = subst (λ o. Holds o text' len' (at.line ++ piece)) outside (push at.line (subst (λ o. Holds o text len at.line) (sym outside) at.kept));
      goes_on = at.goes_on;
      ends = at.ends;
    }

-- no item ends in a line
pub items-unbroken : (p : Place) (text bytes piece : List ℕ) (len : ℕ) → StandsAt p text len bytes → IsUnbroken piece → items (bytes ++ piece) ≡ []
items-unbroken p text bytes piece len at unbroken =
    ap (λ b. items (b ++ piece)) at.whole ∙ ap items (append_assoc at.front at.line piece) ∙ at.goes_on (at.line ++ piece) ∙ items_by-rest no_items at.block (at.line ++ piece) (All-append (λ c. is_newline c ≡ false) at.line piece at.unbroken unbroken)

module _ (p : Place) (text bytes : List ℕ) (len : ℕ) (at : StandsAt p text len bytes) where
  -- the bytes, the end of their line and what comes behind it
  joined : (more : List ℕ) → (bytes ++ 10 ∷ []) ++ more ≡ at.front ++ (at.line ++ 10 ∷ more)
  joined more = ap (λ b. (b ++ 10 ∷ []) ++ more) at.whole ∙ ap (λ b. b ++ more) (append_assoc at.front at.line (10 ∷ [])) ∙ append_assoc at.front (at.line ++ 10 ∷ []) more ∙ ap (λ b. at.front ++ b) (append_assoc at.line (10 ∷ []) more)

  items-ended : (more : List ℕ) → items ((bytes ++ 10 ∷ []) ++ more) ≡ option_to_list (line_item at.block at.line) ++ items_from (line_block at.block at.line) more
  items-ended more = ap items (joined more) ∙ at.goes_on (at.line ++ 10 ∷ more) ∙ items_by-line no_items at.block at.line more at.unbroken

  all_items-ended : (more : List ℕ) → all_items ((bytes ++ 10 ∷ []) ++ more) ≡ option_to_list (line_item at.block at.line) ++ all_items_from (line_block at.block at.line) more
  all_items-ended more = ap all_items (joined more) ∙ at.ends (at.line ++ 10 ∷ more) ∙ items_by-line last_items at.block at.line more at.unbroken

none_given : (spelled : Option Item) → GivenIfAny spelled None → spelled ≡ None
none_given None given = refl
none_given (Some item) given = absurd given

-- a line ends that ends no item
pub StandsAt-line : (p p' : Place) (text text' bytes : List ℕ) (len len' : ℕ) (at : StandsAt p text len bytes) → AfterLine at.block at.line p' None → ((outside : Bool) → Holds outside text' len' [])
    → StandsAt p' text' len' (bytes ++ 10 ∷ [])
StandsAt-line p p' text text' bytes len len' at after empty =
    let none = none_given _ after.is_given in
    record {
      front = bytes ++ 10 ∷ [];
      line = [];
      block = line_block at.block at.line;
      whole = sym (append-nil (bytes ++ 10 ∷ []));
      unbroken = λ k d h. absurd (omega (arith, h));
      stands = after.stands;
      kept = empty _;
      goes_on = λ more. items-ended p text bytes len at more ∙ ap (λ i. option_to_list i ++ items_from (line_block at.block at.line) more) none;
      ends = λ more. all_items-ended p text bytes len at more ∙ ap (λ i. option_to_list i ++ all_items_from (line_block at.block at.line) more) none;
    }

-- the spelled item, where one is given
pub record IsSpelled (spelled : Option Item) (given : Item) : Type 0 where
  pub item : Item
  pub is : spelled ≡ Some item
  pub is_given : Given item given

pub IsSpelled-given : (spelled : Option Item) (given : Item) → GivenIfAny spelled (Some given) → IsSpelled spelled given
IsSpelled-given None given none = absurd none
IsSpelled-given (Some item) given is = record { item = item; is = refl; is_given = is }

-- a line ends that ends an item
pub Completes-line : (p p' : Place) (text bytes : List ℕ) (len : ℕ) (given : Item) (at : StandsAt p text len bytes) → AfterLine at.block at.line p' (Some given) → Completes (bytes ++ 10 ∷ []) given
Completes-line p p' text bytes len given at after =
    let spelled = IsSpelled-given _ given after.is_given in
    let none = line_block-none at.block at.line spelled.item spelled.is in
    record {
      spelled = spelled.item;
      is_given = spelled.is_given;
      goes_on = λ more. items-ended p text bytes len at more ∙ ap (λ i. option_to_list i ++ items_from (line_block at.block at.line) more) spelled.is ∙ ap (λ b. spelled.item ∷ items_from b more) none;
      ends = λ more. all_items-ended p text bytes len at more ∙ ap (λ i. option_to_list i ++ all_items_from (line_block at.block at.line) more) spelled.is ∙ ap (λ b. spelled.item ∷ all_items_from b more) none;
    }

pub StandsAt-item : (p p' : Place) (text text' bytes : List ℕ) (len len' : ℕ) (given : Item) (at : StandsAt p text len bytes) → AfterLine at.block at.line p' (Some given) → ((outside : Bool) → Holds outside text' len' [])
    → StandsAt p' text' len' []
StandsAt-item p p' text text' bytes len len' given at after empty =
    let spelled = IsSpelled-given _ given after.is_given in
    let none = line_block-none at.block at.line spelled.item spelled.is in
    StandsAt-new p' text' len' (subst (StandsFor p') none after.stands) empty

-- the script ends
pub all_items-whole : (p : Place) (text bytes : List ℕ) (len : ℕ) (at : StandsAt p text len bytes) → all_items bytes ≡ last_items at.block at.line
all_items-whole p text bytes len at = ap all_items at.whole ∙ at.ends at.line ∙ items_by-rest last_items at.block at.line at.unbroken

module _ (p q p' : Place) (text text' before rest : List ℕ) (len len' : ℕ) (same : q ≡ p) (at : StandsAt p text len (before ++ rest)) where
  abbrev After : Option Item → Type 0
  After given = (block : Option Block) (line : List ℕ) → StandsFor q block → Holds (is_none block) text len line → AfterLine block line p' given

  after_line : (given : Option Item) → After given → AfterLine at.block at.line p' given
  after_line given after = after at.block at.line (subst (λ x. StandsFor x at.block) (sym same) at.stands) at.kept

  -- the reader after a line of which this is the rest
  pub StandsAt-end : (given : Option Item) → After given → ((outside : Bool) → Holds outside text' len' []) → given ≡ None → StandsAt p' text' len' (before ++ (rest ++ 10 ∷ []))
  StandsAt-end given after empty none =
      subst (StandsAt p' text' len') (append_assoc before rest (10 ∷ [])) (StandsAt-line p p' text text' (before ++ rest) len len' at (subst (AfterLine at.block at.line p') none (after_line given after)) empty)

  pub Completes-end : (given : Option Item) (item : Item) → After given → ((outside : Bool) → Holds outside text' len' []) → given ≡ Some item → StandsAt p' text' len' [] × Completes (before ++ (rest ++ 10 ∷ [])) item
  Completes-end given item after empty some =
      let ended = subst (AfterLine at.block at.line p') some (after_line given after) in (
        StandsAt-item p p' text text' (before ++ rest) len len' item at ended empty,
        subst (λ t. Completes t item) (append_assoc before rest (10 ∷ [])) (Completes-line p p' text (before ++ rest) len item at ended),
      )

-- what is given of an item that may be spelled
pub none_spelled : (spelled : Option Item) (given : Option Item) → GivenIfAny spelled given → given ≡ None → option_to_list spelled ≡ []
none_spelled spelled given is none = ap option_to_list (none_given spelled (subst (GivenIfAny spelled) none is))

abbrev pub SpellsOne : List Item → Item → Type 0
SpellsOne spelled given = (item : Item) × Given item given × (spelled ≡ item ∷ [])

pub one_spelled : (spelled : Option Item) (given : Option Item) (item : Item) → GivenIfAny spelled given → given ≡ Some item → SpellsOne (option_to_list spelled) item
one_spelled spelled given item is some = let one = IsSpelled-given spelled item (subst (GivenIfAny spelled) some is) in (one.item, one.is_given, ap option_to_list one.is)

-- the last line, which lacks its LF
pub last_items-none : (block : Option Block) (line : List ℕ) → length line ≡ 0 → last_items block line ≡ option_to_list (unended_item block)
last_items-none block [] e = refl
last_items-none block (c ∷ cs) e = absurd (omega (arith, e))

last_items-some : (block : Option Block) (line : List ℕ) → 0 < length line → last_items block line ≡ option_to_list (line_item block line) ++ option_to_list (unended_item (line_block block line))
last_items-some block [] h = absurd (omega (arith, h))
last_items-some block (c ∷ cs) h = refl

pub last_items-item : (block : Option Block) (line : List ℕ) (p : Place) (given : Option Item) (item : Item) → 0 < length line → AfterLine block line p given → given ≡ Some item → SpellsOne (last_items block line) item
last_items-item block line p given item some after is =
    let one = IsSpelled-given _ item (subst (GivenIfAny (line_item block line)) is after.is_given) in
    let none = line_block-none block line one.item one.is in (
      one.item,
      one.is_given,
      last_items-some block line some ∙ ap (λ i. option_to_list i ++ option_to_list (unended_item (line_block block line))) one.is ∙ ap (λ b. one.item ∷ option_to_list (unended_item b)) none,
    )

pub last_items-unended : (block : Option Block) (line : List ℕ) (p : Place) (given : Option Item) → 0 < length line → AfterLine block line p given → given ≡ None → last_items block line ≡ option_to_list (unended_item (line_block block line))
last_items-unended block line p given some after none =
    let not_spelled = none_given _ (subst (GivenIfAny (line_item block line)) none after.is_given) in
    last_items-some block line some ∙ ap (λ i. option_to_list i ++ option_to_list (unended_item (line_block block line))) not_spelled
