-- What the reader knows of the bytes that it has taken, and forgets of them.
use Rattle.std.specs.Prelude.{◌≡◌, ℕ, ◌-◌, ◌^◌, min, Bool, true, false, is_none, List, ◌++◌, All, Option, Some, None, ⊤}
use Rattle.script_text.specs.Words.{head_name}
use Rattle.script_text.specs.Script.{Block, block_len, fit_lines, block_limit, line_item, line_block, is_newline, items_from, items, all_items_from, all_items, Given}
use Rattle.script_text.specs.Line.{Holds}
use Rattle.script_text.specs.declared.item.Item.{Item}
use Rattle.script_text.specs.declared.block.Kept.{Kept}
use Rattle.script_text.specs.declared.block.Kept.TheVariants as kept
use Rattle.script_text.specs.declared.block.OpenBlock.{OpenBlock}
use Rattle.script_text.specs.declared.block.Size.{Size}
use Rattle.script_text.specs.declared.place.Place.{Place}
use Rattle.script_text.specs.declared.place.Place.TheVariants as place
use Rattle.script_text.specs.declared.lines.Lines.{Lines}

-- the block with one more row line
abbrev pub with_rows : Block → List (List ℕ) → Block
with_rows block rows = record { head = block.head; rows = block.rows ++ rows }

-- what counts for the limits of a block: whether its lines fit, and the bytes of its row lines, up to the greatest u64
pub record IsSizeOf (size : Size) (block : Block) : Type 0 where
  pub lines_fit : size.lines_fit ≡ fit_lines block
  pub len : size.len ≡ min (block_len block.rows) (2 ^ 64 - 1)

-- what is kept of a block: its name and its row lines; nothing where the block is refused already, whatever rows it
-- still gets; or nothing where memory was refused
abbrev pub Keeps : Kept → Block → Type 0
Keeps (kept.Append name rows) block = (head_name block.head ≡ Some name) × (rows.items ≡ block.rows)
Keeps kept.Nothing block = block_limit block ≡ None → head_name block.head ≡ None
Keeps kept.NoMemory block = ⊤

pub record IsOf (open_block : OpenBlock) (block : Block) : Type 0 where
  pub size : IsSizeOf open_block.size block
  pub keeps : Keeps open_block.kept block

-- where the reader is: outside of a block, or in one
abbrev pub StandsFor : Place → Option Block → Type 0
StandsFor place.Outside None = ⊤
StandsFor place.Outside (Some block) = ⊥
StandsFor (place.Block open_block) None = ⊥
StandsFor (place.Block open_block) (Some block) = IsOf open_block block

-- what the reader gives where the bytes may spell an item
abbrev pub GivenIfAny : Option Item → Option Item → Type 0
GivenIfAny None None = ⊤
GivenIfAny None (Some given) = ⊥
GivenIfAny (Some spelled) None = ⊥
GivenIfAny (Some spelled) (Some given) = Given spelled given

-- after this line
pub record AfterLine (block : Option Block) (line : List ℕ) (place : Place) (given : Option Item) : Type 0 where
  pub is_given : GivenIfAny (line_item block line) given
  pub stands : StandsFor place (line_block block line)

abbrev pub is_outside : Place → Bool
is_outside place.Outside = true
is_outside (place.Block open_block) = false

-- no line ends in these bytes
abbrev pub IsUnbroken : List ℕ → Type 0
IsUnbroken bytes = All (λ c. is_newline c ≡ false) bytes

-- these bytes are the unfinished command, with what is passed over before it: lines that are ended and leave the place,
-- and the line of which this much is kept
pub record StandsAt (place : Place) (text : List ℕ) (len : ℕ) (bytes : List ℕ) : Type 0 where
  pub front : List ℕ
  pub line : List ℕ
  pub block : Option Block
  pub whole : bytes ≡ front ++ line
  pub unbroken : IsUnbroken line
  pub stands : StandsFor place block
  pub kept : Holds (is_none block) text len line
  pub goes_on : (more : List ℕ) → items (front ++ more) ≡ items_from block more
  pub ends : (more : List ℕ) → all_items (front ++ more) ≡ all_items_from block more

-- these bytes are the unfinished command of the reader
abbrev pub Stands : Lines → List ℕ → Type 0
Stands lines bytes = StandsAt lines.place lines.line.text.items lines.line.len bytes
