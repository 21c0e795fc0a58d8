-- The three lists.
use Rattle.std.proofs.Common.{◌∙◌, ◌++◌, ap}
use Rattle.record_codec.specs.Spelling.{listed, stream_spelling, program_spelling, entry_spelling}
use Rattle.record_codec.proofs.Joined.{joined}
use Rattle.record_codec.proofs.spelling.put_lists.Goals as goal

pub returns : goal.returns
returns c =
    joined _ _ _ _ (c.in_ok-put_streams.ensures ∙ ap (λ l. c.args.out.now.items ++ listed stream_spelling l) c.items.ensures)
    (c.in_ok-put_programs.ensures ∙ ap (λ l. c.put_streams.new.out.items ++ listed program_spelling l) c.items-2.ensures)
    (c.in_ok-put_entries.ensures ∙ ap (λ l. c.put_programs.new.out.items ++ listed entry_spelling l) c.items-3.ensures)
