-- The items of a script, line by line.
use Rattle.std.proofs.Common.{◌≡◌, ℕ, ◌<◌, Bool, true, false, cond, ◌||◌, List, [], ◌∷◌, ◌++◌, length, Option, Some, None, option_to_list, refl, ap, ◌∙◌, arith}
use Rattle.std.specs.List.{slice_split}
use Rattle.std.proofs.lemmas.List.Splits.{slice_split_at, slice_split_none, length-slice_split}
use Rattle.script_text.specs.Script.{Block, is_end, line_item, line_block, items_of_lines, is_newline, items_by}
use Rattle.script_text.specs.Words.{is_skipped, begins_block}
use Rattle.script_text.specs.Reader.{IsUnbroken}
use Rattle.script_text.specs.declared.item.Item.{Item}

some_part : (bytes : List ℕ) → 0 < length (slice_split is_newline bytes)
some_part bytes = omega (arith, length-slice_split is_newline bytes)

module _ (last : Option Block → List ℕ → List Item) (block : Option Block) where
  -- a line that is ended, and what comes behind it
  pub items_by-line : (line more : List ℕ) → IsUnbroken line → items_by last block (line ++ 10 ∷ more) ≡ option_to_list (line_item block line) ++ items_by last (line_block block line) more
  unfolding items_by
  items_by-line line more unbroken = ap (items_of_lines last block) (slice_split_at is_newline line 10 more unbroken refl) ∙ first (slice_split is_newline more) (some_part more)
    where
      first : (parts : List (List ℕ)) → 0 < length parts → items_of_lines last block (line ∷ parts) ≡ option_to_list (line_item block line) ++ items_of_lines last (line_block block line) parts
      first [] some = absurd (omega (arith, some))
      first (next ∷ later) some = refl

  -- a line that isn't ended
  pub items_by-rest : (rest : List ℕ) → IsUnbroken rest → items_by last block rest ≡ last block rest
  unfolding items_by
  items_by-rest rest unbroken = ap (items_of_lines last block) (slice_split_none is_newline rest unbroken)

-- no block is open behind an item
pub line_block-none : (block : Option Block) (line : List ℕ) (item : Item) → line_item block line ≡ Some item → line_block block line ≡ None
line_block-none None line item e = by (is_skipped line) (begins_block line) _ _ e
  where
    by : (s b : Bool) (x : Item) (y : Block) → cond (s || b) None (Some x) ≡ Some item → cond b (Some y) None ≡ None
    by true b x y e = absurd (cc)
    by false true x y e = absurd (cc)
    by false false x y e = refl
line_block-none (Some block) line item e = by (is_end line) _ _ e
  where
    by : (b : Bool) (x : Item) (y : Block) → cond b (Some x) None ≡ Some item → cond b None (Some y) ≡ None
    by true x y e = refl
    by false x y e = absurd (cc)
