use Rattle.std.proofs.Common.{◌==◌, ◌∙◌, Bool, sym, ap}
use Rattle.std.specs.Option.{option_copied}
use Rattle.catalog_types.specs.PlainEntry.{PlainEntry}
use Rattle.cache_index.proofs.Places.{none-found, entry-found}
use Rattle.cache_index.proofs.ids.entry_of.Goals as goal

pub returns-in_err-place : goal.returns-in_err-place
returns-in_err-place c =
    let p : PlainEntry → Bool = λ e. e.id == c.args.id in
    ap option_copied c.from_residual.ensures ∙ sym (none-found c.args.entries.now p c.place_of.result c.place_of.ensures.place c.in_err-place.was)

pub returns : goal.returns
returns c =
    let p : PlainEntry → Bool = λ e. e.id == c.args.id in
    sym (entry-found c.args.entries.now p c.place_of.result c.in_ok-place.place c.index-entries-place.result c.place_of.ensures.place c.in_ok-place.was c.in_ok-place.ensures.bound c.index-entries-place.is)
