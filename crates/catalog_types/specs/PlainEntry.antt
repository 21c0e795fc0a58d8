-- What contracts see of kept results: their fields, the plan as its plain plan.
use Rattle.std.specs.Prelude.{◌≡◌, refl, ℕ, List}
use Rattle.std.specs.Coded.{Coded, code_by, coded×, coded_ℕ, coded_list}
use Rattle.rows_core.specs.contracts.cut.Cut as a_cut
use Rattle.rows_core.specs.contracts.file_ref.Digest as a_digest
use Rattle.rows_core.specs.contracts.file_ref.FileRef as a_file
use Rattle.rows_core.specs.declared.cut.Cut.{Cut}
use Rattle.rows_core.specs.declared.file_ref.Digest.{Digest}
use Rattle.rows_core.specs.declared.file_ref.FileRef.{FileRef}
use Rattle.plan_core.specs.PlainPlan.{PlainPlan}
use Rattle.plan_core.specs.PlanCode.{plan_code}

pub record PlainNewEntry : Type 0 where
  pub plan : PlainPlan
  pub cuts : List Cut
  pub file : FileRef
  pub machine : ℕ

pub record PlainEntry : Type 0 where
  pub id : ℕ
  pub plan : PlainPlan
  pub cuts : List Cut
  pub program : Digest
  pub key : Digest
  pub file : FileRef
  pub machine : ℕ
  pub uses : ℕ
  pub last : ℕ
  pub made : ℕ

-- ---- the values of each may be told apart, being pairs of what may

abbrev pub NewEntryPairs : Type 0
NewEntryPairs = PlainPlan × (List Cut × (FileRef × ℕ))

abbrev pub new_entry_pairs : Coded NewEntryPairs
new_entry_pairs = coded× plan_code (coded× (coded_list a_cut.the_row.coded) (coded× a_file.the_row.coded coded_ℕ))

abbrev pub new_entry_of : NewEntryPairs → PlainNewEntry
new_entry_of p = record { plan = p.0; cuts = p.1.0; file = p.1.1.0; machine = p.1.1.1 }

abbrev pub new_entry_code : Coded PlainNewEntry
new_entry_code = code_by NewEntryPairs new_entry_pairs (λ e. (e.plan, (e.cuts, (e.file, e.machine)))) new_entry_of (λ _. refl)

abbrev pub EntryPairs : Type 0
EntryPairs = ℕ × (NewEntryPairs × ((Digest × Digest) × (ℕ × (ℕ × ℕ))))

abbrev pub entry_pairs : Coded EntryPairs
entry_pairs =
    coded× coded_ℕ
    (coded× new_entry_pairs (coded× (coded× a_digest.the_row.coded a_digest.the_row.coded) (coded× coded_ℕ (coded× coded_ℕ coded_ℕ))))

abbrev pub pairs_of_entry : PlainEntry → EntryPairs
pairs_of_entry e = (e.id, ((e.plan, (e.cuts, (e.file, e.machine))), ((e.program, e.key), (e.uses, (e.last, e.made)))))

abbrev pub entry_of : EntryPairs → PlainEntry
entry_of p = record {
  id = p.0;
  plan = p.1.0.0;
  cuts = p.1.0.1.0;
  program = p.1.1.0.0;
  key = p.1.1.0.1;
  file = p.1.0.1.1.0;
  machine = p.1.0.1.1.1;
  uses = p.1.1.1.0;
  last = p.1.1.1.1.0;
  made = p.1.1.1.1.1;
}

abbrev pub entry_code : Coded PlainEntry
entry_code = code_by EntryPairs entry_pairs pairs_of_entry entry_of (λ _. refl)
