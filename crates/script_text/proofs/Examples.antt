-- The definitions, held against worked examples.
use Rattle.std.proofs.Common.{◌≡◌, pos, true, false, [], ◌∷◌, codes, refl}
use Rattle.std.specs.Fmt.{digits}
use Rattle.rows_core.specs.Name.{is_name, is_reserved}
use Rattle.rows_core.specs.Kind.{kind_with_word}
use Rattle.rows_core.specs.declared.kind.Kind.TheVariants.{Int, Text}
use Rattle.rows_core.specs.declared.value.Value.TheVariants as value
use Rattle.script_text.specs.Answer.{answer_text}
use Rattle.script_text.specs.Script.{items_by, items, all_items}
use Rattle.script_text.specs.StreamLine.{parts_at, columns_of}
use Rattle.script_text.specs.CollectLine.{number_of}
use Rattle.script_text.specs.Words.{only_word}
use Rattle.script_text.specs.declared.answer.Answer.TheVariants.{Held, Ready, Left, Evicted, Refused}
use Rattle.script_text.specs.declared.answer.Answer.TheVariants as answer
use Rattle.script_text.specs.declared.answer.LimitKind.TheVariants as limit
use Rattle.script_text.specs.declared.answer.Refusal.TheVariants.{Limit, Syntax, Unknown, Row}
use Rattle.script_text.specs.declared.item.Command.TheVariants.{Stream, Append, Fetch, Collect, Entries, Catalog, Step, Close, DropJob}
use Rattle.script_text.specs.declared.item.Item.TheVariants as item

-- a stream, with and without spaces
stream_is_read : items (codes "stream s (a:int, t:text)\n") ≡ item.Command (Stream (codes "s") (record { name = codes "a"; kind = Int } ∷ record { name = codes "t"; kind = Text } ∷ [])) ∷ []
unfolding items_by only_word is_name is_reserved parts_at columns_of kind_with_word
stream_is_read = refl

spaces_stand_anywhere : items (codes "  stream  s( a :int ,a: int )  \n") ≡ item.Command (Stream (codes "s") (record { name = codes "a"; kind = Int } ∷ record { name = codes "a"; kind = Int } ∷ [])) ∷ []
unfolding items_by only_word is_name is_reserved parts_at columns_of kind_with_word
spaces_stand_anywhere = refl

no_column_is_refused : items (codes "stream s ()\n") ≡ item.Refused Syntax ∷ []
unfolding items_by only_word is_name is_reserved parts_at columns_of kind_with_word
no_column_is_refused = refl

reserved_word_is_refused : items (codes "stream s (end:int)\n") ≡ item.Refused Syntax ∷ []
unfolding items_by only_word is_name is_reserved parts_at columns_of kind_with_word
reserved_word_is_refused = refl

other_kind_is_refused : items (codes "stream s (a:real)\n") ≡ item.Refused Syntax ∷ []
unfolding items_by only_word is_name is_reserved parts_at columns_of kind_with_word
other_kind_is_refused = refl

tab_is_refused : items (codes "stream s (a:int)\t\n") ≡ item.Refused Syntax ∷ []
unfolding items_by only_word is_name is_reserved parts_at columns_of kind_with_word
tab_is_refused = refl

-- a block, a blank row line, a block that isn't ended, and one without a row line

stored_front : items (codes "append s\n1\n\nend\nappend t\n") ≡ item.Command (Append (codes "s") (codes "1" ∷ [] ∷ [])) ∷ []
unfolding items_by only_word is_name is_reserved
stored_front = refl

unended_is_refused : all_items (codes "append t\n1\n") ≡ item.Refused Syntax ∷ []
unfolding items_by only_word is_name is_reserved
unended_is_refused = refl

no_row_is_refused : all_items (codes "# one\n append t \nend") ≡ item.Refused Syntax ∷ []
unfolding items_by only_word is_name is_reserved
no_row_is_refused = refl

last_line_counts : all_items (codes " append t \n end\nend") ≡ item.Command (Append (codes "t") (codes " end" ∷ [])) ∷ []
unfolding items_by only_word is_name is_reserved
last_line_counts = refl

-- what asks for what is kept
fetches_are_read : items (codes "fetch p\n fetch  p  as-run \n") ≡ item.Command (Fetch (codes "p") false) ∷ item.Command (Fetch (codes "p") true) ∷ []
unfolding items_by only_word is_name is_reserved
fetches_are_read = refl

other_fetches_are_refused : items (codes "fetch\nfetch p q\nfetch p as-run q\nfetchp\n") ≡ item.Refused Syntax ∷ item.Refused Syntax ∷ item.Refused Syntax ∷ item.Refused Syntax ∷ []
unfolding items_by only_word is_name is_reserved
other_fetches_are_refused = refl

collections_are_read : items (codes "collect 0\ncollect  18446744073709551615 \n") ≡ item.Command (Collect 0) ∷ item.Command (Collect 18446744073709551615) ∷ []
unfolding items_by only_word number_of digits
collections_are_read = refl

other_numbers_are_refused : items (codes "collect\ncollect 00\ncollect 01\ncollect -1\ncollect 18446744073709551616\ncollect 5 6\n") ≡ item.Refused Syntax ∷ item.Refused Syntax ∷ item.Refused Syntax ∷ item.Refused Syntax ∷ item.Refused Syntax ∷ item.Refused Syntax ∷ []
unfolding items_by only_word number_of digits
other_numbers_are_refused = refl

entries_are_asked_for : items (codes " entries \nentries x\n") ≡ item.Command Entries ∷ item.Refused Syntax ∷ []
unfolding items_by
entries_are_asked_for = refl

catalog_is_asked_for : items (codes "catalog  \ncatalogs\ncatalog 1\n") ≡ item.Command Catalog ∷ item.Refused Syntax ∷ item.Refused Syntax ∷ []
unfolding items_by
catalog_is_asked_for = refl

-- jobs
jobs_are_stepped : items (codes "step j\n  close  j \ndrop j_2\n") ≡ item.Command (Step (codes "j")) ∷ item.Command (Close (codes "j")) ∷ item.Command (DropJob (codes "j_2")) ∷ []
unfolding items_by only_word is_name is_reserved
jobs_are_stepped = refl

other_steps_are_refused : items (codes "step\nstep j k\nclose end\ndrop 1\nsteps j\n") ≡ item.Refused Syntax ∷ item.Refused Syntax ∷ item.Refused Syntax ∷ item.Refused Syntax ∷ item.Refused Syntax ∷ []
unfolding items_by only_word is_name is_reserved
other_steps_are_refused = refl

held_text : answer_text false (Held 12) ≡ codes "ok 12\n"
unfolding digits
held_text = refl

ready_text : answer_text false (Ready 3) ≡ codes "ok 3\n"
unfolding digits
ready_text = refl

left_text : answer_text false (Left 0) ≡ codes "left 0\n"
unfolding digits
left_text = refl

jobs_limit_is_printed : answer_text false (Refused (Limit limit.Jobs)) ≡ codes "refused limit jobs 64\n"
jobs_limit_is_printed = refl

row_text : answer_text false (Refused (Row 2)) ≡ codes "refused row 2\n"
unfolding digits
row_text = refl

unknown_text : answer_text false (Refused (Unknown (codes "nope"))) ≡ codes "refused unknown nope\n"
unknown_text = refl

limit_is_printed : answer_text false (Refused (Limit limit.Text)) ≡ codes "refused limit text 1000\n"
limit_is_printed = refl

evicted_text : answer_text false (Evicted (7 ∷ 3 ∷ []) 120) ≡ codes "evicted 7 3\nreclaimed 120\n"
unfolding digits
evicted_text = refl

none_evicted : answer_text false (Evicted [] 0) ≡ codes "evicted none\nreclaimed 0\n"
unfolding digits
none_evicted = refl

entries_text : answer_text false (answer.Entries (record { id = 4; size = 88; machine = 12; uses = 2; last = 9; made = 5 } ∷ [])) ≡ codes "entries 1\n4 size 88 machine 12 uses 2 last 9 made 5\n"
unfolding digits
entries_text = refl

catalog_text : answer_text true (answer.Catalog (codes "{}")) ≡ codes "{}\n"
catalog_text = refl

quiet_text : answer_text true (answer.Result ((value.Int (pos 7) ∷ []) ∷ []) (1 ∷ []) [] 73) ≡ codes "rows 1\nused 1\nkept none\nread 73\n"
unfolding digits
quiet_text = refl
