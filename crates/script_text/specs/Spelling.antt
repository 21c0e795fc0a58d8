-- The spellings of a command's line: its parts, with any number of spaces before and behind each.
use Rattle.std.specs.Prelude.{◌≡◌, ◌⊎◌, ℕ, ◌^◌, ◌<◌, List, [], ◌∷◌, ◌++◌, codes, decimal}
use Rattle.std.specs.List.{AllByRecursion}
use Rattle.rows_core.specs.Kind.{kind_word}
use Rattle.rows_core.specs.Name.{IsName}
use Rattle.rows_core.specs.declared.schema.Column.{Column}
use Rattle.plan_text.specs.PlainNamed.{PlainTree}
use Rattle.plan_text.specs.declared.limit.PlanLimit.{PlanLimit}
use Rattle.plan_text.specs.Spelled.{SpellsText}
use Rattle.plan_text.specs.Counts.{IsWithinLimits, IsFirstPassed}

abbrev pub AreSpaces : List ℕ → Type 0
AreSpaces text = AllByRecursion (λ c. c ≡ 32) text

-- a word with spaces before and behind it
pub record Padded (word text : List ℕ) : Type 0 where
  pub front : List ℕ
  pub back : List ℕ
  pub before : AreSpaces front
  pub behind : AreSpaces back
  pub whole : text ≡ front ++ (word ++ back)

-- `NAME`
pub record SpellsName (name text : List ℕ) : Type 0 where
  pub is_name : IsName name
  pub padded : Padded name text

-- `COL:KIND`
pub record SpellsColumn (column : Column) (text : List ℕ) : Type 0 where
  pub name : List ℕ
  pub kind : List ℕ
  pub named : SpellsName column.name name
  pub kinded : Padded (kind_word column.kind) kind
  pub whole : text ≡ name ++ 58 ∷ kind

-- two texts with a comma between them
pub record WithComma (First Rest : List ℕ → Type 0) (text : List ℕ) : Type 0 where
  pub first : List ℕ
  pub rest : List ℕ
  pub spells_first : First first
  pub spells_rest : Rest rest
  pub whole : text ≡ first ++ 44 ∷ rest

-- `COL:KIND, COL:KIND`, one column or more
abbrev pub SpellsColumns : List Column → List ℕ → Type 0
SpellsColumns [] text = ⊥
SpellsColumns (column ∷ []) text = SpellsColumn column text
SpellsColumns (column ∷ next ∷ more) text = WithComma (SpellsColumn column) (SpellsColumns (next ∷ more)) text

-- `stream NAME (COL:KIND, COL:KIND)`
pub record SpellsStream (name : List ℕ) (columns : List Column) (line : List ℕ) : Type 0 where
  pub front : List ℕ
  pub named : List ℕ
  pub listed : List ℕ
  pub back : List ℕ
  pub before : AreSpaces front
  pub spells_name : SpellsName name named
  pub spells_columns : SpellsColumns columns listed
  pub behind : AreSpaces back
  pub whole : line ≡ front ++ (codes "stream" ++ 32 ∷ (named ++ 40 ∷ (listed ++ 41 ∷ back)))

-- a first word and `NAME`
pub record SpellsWithName (word name line : List ℕ) : Type 0 where
  pub front : List ℕ
  pub named : List ℕ
  pub before : AreSpaces front
  pub spells_name : SpellsName name named
  pub whole : line ≡ front ++ (word ++ 32 ∷ named)

-- `append NAME`
abbrev pub SpellsAppend : List ℕ → List ℕ → Type 0
SpellsAppend = SpellsWithName (codes "append")

-- `run NAME = PLAN`, whatever stands for the plan
pub record SpellsRunOf (name text line : List ℕ) : Type 0 where
  pub front : List ℕ
  pub named : List ℕ
  pub before : AreSpaces front
  pub spells_name : SpellsName name named
  pub whole : line ≡ front ++ (codes "run" ++ 32 ∷ (named ++ 61 ∷ text))

-- `run NAME = PLAN`, with a plan within the limits
abbrev pub SpellsRun : List ℕ → PlainTree → List ℕ → Type 0
SpellsRun name plan line = (text : List ℕ) × SpellsRunOf name text line × SpellsText plan text × IsWithinLimits plan

-- `open JOB NAME = PLAN`, whatever stands for the plan
pub record SpellsOpenOf (job name text line : List ℕ) : Type 0 where
  pub front : List ℕ
  pub between : List ℕ
  pub named : List ℕ
  pub before : AreSpaces front
  pub before_job : AreSpaces between
  pub is_job : IsName job
  pub spells_name : SpellsName name named
  pub whole : line ≡ front ++ (codes "open" ++ 32 ∷ (between ++ (job ++ 32 ∷ (named ++ 61 ∷ text))))

-- `open JOB NAME = PLAN`, with a plan within the limits
abbrev pub SpellsOpen : List ℕ → List ℕ → PlainTree → List ℕ → Type 0
SpellsOpen job name plan line = (text : List ℕ) × SpellsOpenOf job name text line × SpellsText plan text × IsWithinLimits plan

-- a plan of which this is the first limit that it passes
abbrev pub SpellsLarge : PlanLimit → List ℕ → Type 0
SpellsLarge what text = (plan : PlainTree) × SpellsText plan text × IsFirstPassed what plan

abbrev pub SpellsLargeRun : PlanLimit → List ℕ → Type 0
SpellsLargeRun what line = (name : List ℕ) × (text : List ℕ) × SpellsRunOf name text line × SpellsLarge what text

abbrev pub SpellsLargeOpen : PlanLimit → List ℕ → Type 0
SpellsLargeOpen what line = (job : List ℕ) × (name : List ℕ) × (text : List ℕ) × SpellsOpenOf job name text line × SpellsLarge what text

-- `run NAME = PLAN` or `open JOB NAME = PLAN`, with a plan of which this is the first limit that it passes
abbrev pub SpellsTooLarge : PlanLimit → List ℕ → Type 0
SpellsTooLarge what line = SpellsLargeRun what line ⊎ SpellsLargeOpen what line

-- `step JOB`
abbrev pub SpellsStep : List ℕ → List ℕ → Type 0
SpellsStep = SpellsWithName (codes "step")

-- `close JOB`
abbrev pub SpellsClose : List ℕ → List ℕ → Type 0
SpellsClose = SpellsWithName (codes "close")

-- `drop JOB`
abbrev pub SpellsDrop : List ℕ → List ℕ → Type 0
SpellsDrop = SpellsWithName (codes "drop")

-- `fetch NAME`
abbrev pub SpellsFetch : List ℕ → List ℕ → Type 0
SpellsFetch = SpellsWithName (codes "fetch")

-- `fetch NAME as-run`
pub record SpellsFetchAsRun (name line : List ℕ) : Type 0 where
  pub front : List ℕ
  pub between : List ℕ
  pub asked : List ℕ
  pub before : AreSpaces front
  pub before_name : AreSpaces between
  pub is_name : IsName name
  pub asks : Padded (codes "as-run") asked
  pub whole : line ≡ front ++ (codes "fetch" ++ 32 ∷ (between ++ (name ++ 32 ∷ asked)))

-- `collect NUM`, with the decimal of a number that fits 64 bits
pub record SpellsCollect (bytes : ℕ) (line : List ℕ) : Type 0 where
  pub front : List ℕ
  pub number : List ℕ
  pub before : AreSpaces front
  pub fits : bytes < 2 ^ 64
  pub spells_number : Padded (decimal bytes) number
  pub whole : line ≡ front ++ (codes "collect" ++ 32 ∷ number)

-- `entries`
abbrev pub SpellsEntries : List ℕ → Type 0
SpellsEntries line = Padded (codes "entries") line

-- `catalog`
abbrev pub SpellsCatalog : List ℕ → Type 0
SpellsCatalog line = Padded (codes "catalog") line
