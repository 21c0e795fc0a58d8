-- The bounds of each part, added up.
use Rattle.record_codec.proofs.Lengths.{append_len, new_stream_len, collect_len, stored_len}
use Rattle.record_codec.proofs.laws.small_changes.Goals as goal

pub returns-clause-append : goal.returns-clause-append
returns-clause-append c = append_len

pub returns-clause-stream : goal.returns-clause-stream
returns-clause-stream c = new_stream_len

pub returns-clause-collect : goal.returns-clause-collect
returns-clause-collect c = collect_len

pub returns-clause-program : goal.returns-clause-program
returns-clause-program c = stored_len
