-- Nothing was read yet.
use Rattle.std.proofs.Common.{sym, refl, inr, ap, ◌∙◌}
use Rattle.csv.specs.Reading.{Reached, strip_bom}
use Rattle.std.specs.Option.{option_map}
use Rattle.csv_script.proofs.reading.reader_of.Goals as goal

pub returns : goal.returns
unfolding Reached
returns g c text known =
    let made = c.from_reader.ensures in
    let one = c.has_headers.ensures in
    let two = c.flexible.ensures in
    record {
      trim_is = rw (two, one) at made.trim ∙ c.new.ensures.trim;
      ready = inr (inr (rw (two, one) at made.has_headers, made.headers));
      config_is = rw (two, one) at made.config ∙ c.new.ensures.config;
      rest = strip_bom text;
      source = made.source ∙ ap (option_map strip_bom) known;
      reached = (sym made.state, refl);
    }
