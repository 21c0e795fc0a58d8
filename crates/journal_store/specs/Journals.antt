-- How a journal stands to its files, and what a crash may leave of them.
use Rattle.std.specs.Prelude.{◌≡◌, ◌⊎◌, ℕ, ◌+◌, ◌^◌, ◌<◌, Bool, List, [], ◌∷◌, ◌++◌, length}
use Rattle.outside_traits.specs.View.{View, Now}
use Rattle.gated_log.specs.Logs.{front, Reads}
use Rattle.gated_log.specs.Stands.{end_of as end_of_log}
use Rattle.journal_store.specs.declared.journal.Journal.{Journal}
use Rattle.journal_store.specs.Readings.{generation_file, generations, HaveBodies}

-- the generation in use
abbrev pub generation_of : Journal → ℕ
generation_of journal = journal.generation

-- whether the root named a generation when loading began
abbrev pub had_root_of : Journal → Bool
had_root_of journal = journal.had_root

-- the place after the last gate of its log
abbrev pub end_of : Journal → ℕ
end_of journal = end_of_log journal.log

-- After each crash now the files have this generation in use, which is the journal's, with these bodies.
pub record Keeps (v : View) (journal : Journal) (generation : ℕ) (bodies : List (List ℕ)) : Type 0 where
  pub is_generation : generation_of journal ≡ generation
  pub end : end_of journal ≡ length (front bodies) + 1
  pub root : (x : List ℕ) → Now v 0 x → Reads (generations generation) x
  pub log : (x : List ℕ) → Now v (generation_file generation) x → Reads bodies x
  pub few : generation < 2 ^ 62

-- an image has the bodies without the new one, or with it
abbrev pub HaveBeforeOrAfter : (ℕ → List ℕ) → ℕ → List (List ℕ) → List ℕ → Type 0
HaveBeforeOrAfter image generation bodies body = HaveBodies image generation bodies ⊎ HaveBodies image generation (bodies ++ body ∷ [])

-- an image has the former generation with its bodies, or the next one with this body
abbrev pub HaveFormerOrNext : (ℕ → List ℕ) → ℕ → List (List ℕ) → List ℕ → Type 0
HaveFormerOrNext image generation bodies body = HaveBodies image generation bodies ⊎ HaveBodies image (generation + 1) (body ∷ [])
