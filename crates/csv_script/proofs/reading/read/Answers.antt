-- A record more was taken, or the text has no other.
use Rattle.std.proofs.Common.{◌∙◌, inl}
use Rattle.csv.specs.Reading.{default_config, strip_bom}
use Rattle.csv.specs.Records.{fields_of}
use Rattle.csv.specs.declared.parser.State.TheVariants as state
use Rattle.csv.proofs.ReadFacts.{rows-end, rows-more}
use Rattle.csv_script.proofs.reading.read.Goals as goal

pub returns-in-Ok-clause-more : goal.returns-in-Ok-clause-more
returns-in-Ok-clause-more g c found text records is =
    let read = rw found at (c.in-Ok.ensures.reads is.trim_is is.ready) in
    let more = rows-more g.R.Read.remaining c.args.reader.now c.read_byte_record.new.self (fields_of c.read_byte_record.new.row) default_config state.StartRecord (strip_bom text) is.rest records is.config_is is.source is.reached read in
    record { trim_is = read.3 ∙ is.trim_is; ready = inl (c.in-Ok.ensures.ready is.trim_is); config_is = read.2 ∙ is.config_is; rest = more.0; source = more.1; reached = more.2 }

pub returns-in-Ok-clause-none : goal.returns-in-Ok-clause-none
returns-in-Ok-clause-none g c none text records is =
    let read = rw none at (c.in-Ok.ensures.reads is.trim_is is.ready) in
    (c.args.reader.now.state, is.rest, is.reached, rows-end g.R.Read.remaining c.args.reader.now c.read_byte_record.new.self (fields_of c.read_byte_record.new.row) default_config is.rest is.config_is is.source read)
