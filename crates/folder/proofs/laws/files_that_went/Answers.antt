use Rattle.folder.proofs.Collecting.{went_free}
use Rattle.folder.proofs.laws.files_that_went.Goals as goal

pub returns : goal.returns
returns c = λ t ids e is has among.
    let files = c.files_of_tables.ensures in
    went_free t ids e (files.given t e is has) (λ other also same. files.own t e other is has also same) (λ stream extent of_table of_stream. files.apart t e stream extent is has of_table of_stream) among
