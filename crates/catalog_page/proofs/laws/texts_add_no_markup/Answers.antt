use Rattle.catalog_page.proofs.Escapes.{escaped-plain, escaped-is_read, written-markup}
use Rattle.catalog_page.proofs.laws.texts_add_no_markup.Goals as goal

pub returns : goal.returns
returns c = record { plain = escaped-plain; is_read = escaped-is_read; page = written-markup }
