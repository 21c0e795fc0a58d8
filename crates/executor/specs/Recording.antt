-- The results that are recorded on the way: those of the computed and grown trees that count below a root, in the order in
-- which they are made.
use Rattle.std.specs.Prelude.{◌≡◌, Bool, true, false, ◌&&◌, List, [], ◌∷◌, ◌++◌, reverse, Result, Ok, Err, if◌then◌else◌}
use Rattle.std.specs.List.{Contains}
use Rattle.plan_core.specs.PlainPlan.{plan_of}
use Rattle.rewrite_core.specs.PlainRewriting.{PlainRewriting, Node, PlainWay, Scan, One, Two, Read, Tail, LeftGrew, RightGrew, BothGrew, PlainDelta, Change, PlainDeltaWay, Unchanged, NewRows, OfChild, OfDistinct, OfJoin}
use Rattle.growth_laws.specs.KeptResults.{KeptResults}
use Rattle.growth_laws.specs.Lists.{Extents}
use Rattle.growth_laws.specs.MadePlaces.{Place, counts_below}
use Rattle.growth_laws.specs.Parts.{plan_at, cuts_at}
use Rattle.growth_laws.specs.Pieces.{Piece, is_gathered, is_chain_delta}
use Rattle.growth_laws.specs.Trees.{made_by}
use Rattle.result_ops.specs.declared.made.Made.{Made}
use Rattle.result_ops.specs.declared.refusal.MakeRefusal.{MakeRefusal}
use Rattle.result_ops.specs.declared.refusal.MakeRefusal.TheVariants as refusal
use Rattle.result_ops.specs.Steps.{made_of}
use Rattle.executor.specs.declared.recording.MadePlace.{MadePlace}
use Rattle.executor.specs.declared.recording.Recording.{Recording}
use Rattle.executor.specs.declared.recording.Recording.TheVariants as recording
use Rattle.executor.specs.Loading.{Loads, HoldAll}

-- a kept result that is read isn't made
abbrev pub is_made : PlainWay → Bool
is_made Scan = true
is_made (One r) = true
is_made (Two l r) = true
is_made (Read hit) = false
is_made (Tail hit d) = true
is_made (LeftGrew hit d r) = true
is_made (RightGrew hit l d) = true
is_made (BothGrew hit l rd ld r) = true

abbrev pub is_recorded : PlainRewriting → Bool
is_recorded (Node plan cuts way) = is_made way && counts_below plan

abbrev pub if_recorded : {X : Type 0} → Bool → X → List X
if_recorded recorded x = if recorded then x ∷ [] else []

-- ---- the trees whose results are recorded

abbrev mutual
  pub recorded_of : PlainRewriting → List PlainRewriting
  recorded_of (Node plan cuts way) =
      (if is_gathered (Node plan cuts way) then [] else recorded_in way) ++ if_recorded (is_recorded (Node plan cuts way)) (Node plan cuts way)

  pub recorded_in : PlainWay → List PlainRewriting
  recorded_in Scan = []
  recorded_in (One r) = recorded_of r
  recorded_in (Two l r) = recorded_of l ++ recorded_of r
  recorded_in (Read hit) = []
  recorded_in (Tail hit d) = recorded_of_delta d
  recorded_in (LeftGrew hit d r) = recorded_of_delta d ++ recorded_of r
  recorded_in (RightGrew hit l d) = recorded_of l ++ recorded_of_delta d
  recorded_in (BothGrew hit l rd ld r) = recorded_of l ++ recorded_of_delta rd ++ recorded_of_delta ld ++ recorded_of r

  pub recorded_of_delta : PlainDelta → List PlainRewriting
  recorded_of_delta (Change plan old new way) = if is_chain_delta (Change plan old new way) then [] else recorded_in_delta way

  pub recorded_in_delta : PlainDeltaWay → List PlainRewriting
  recorded_in_delta Unchanged = []
  recorded_in_delta NewRows = []
  recorded_in_delta (OfChild d) = recorded_of_delta d
  recorded_in_delta (OfDistinct r d) = recorded_of r ++ recorded_of_delta d
  recorded_in_delta (OfJoin d r) = recorded_of_delta d ++ recorded_of r

-- those below a tree
abbrev pub recorded_below : PlainRewriting → List PlainRewriting
recorded_below (Node plan cuts way) = if is_gathered (Node plan cuts way) then [] else recorded_in way

-- ---- their results

-- a recorded result is of the tree's plan at the tree's cut, and what the definitions give of the tree
abbrev pub IsMadePlace : Extents → KeptResults → PlainRewriting → MadePlace → Type 0
IsMadePlace extents results tree place =
    (plan_of place.plan ≡ plan_at tree) × (place.cuts ≡ cuts_at tree) × (made_by extents results tree ≡ Ok (made_of place.made))

-- one recorded result of each tree
abbrev pub AreMade : Extents → KeptResults → List PlainRewriting → List MadePlace → Type 0
AreMade extents results [] [] = Unit {0}
AreMade extents results (tree ∷ trees) (place ∷ places) = IsMadePlace extents results tree place × AreMade extents results trees places
AreMade extents results _ _ = ⊥

-- those of the trees come behind those that were recorded before
abbrev pub AreRecorded : Extents → KeptResults → List PlainRewriting → List MadePlace → List MadePlace → Type 0
AreRecorded extents results trees before after = (places : List MadePlace) × (after ≡ before ++ places) × AreMade extents results trees places

-- the results that are recorded; none where they aren't
abbrev pub places_of : Recording → List MadePlace
places_of recording.Off = []
places_of (recording.On places) = places.items

-- they do where results are recorded
abbrev pub HasRecorded : Extents → KeptResults → List PlainRewriting → Recording → Recording → Type 0
HasRecorded extents results trees recording.Off recording.Off = Unit {0}
HasRecorded extents results trees (recording.On before) (recording.On after) = AreRecorded extents results trees before.items after.items
HasRecorded extents results trees _ _ = ⊥

-- the pieces are taken, and the trees' results are recorded
abbrev pub Records : List Piece → List PlainRewriting → Loads → Loads → Recording → Recording → Type 0
Records pieces trees before after old new =
    (extents : Extents) (results : KeptResults) (rest : List Piece) → HoldAll extents results (pieces ++ rest) (reverse before)
    → HoldAll extents results rest (reverse after) × HasRecorded extents results trees old new

-- ---- a tree's own result

abbrev pub IsPlaceOf : PlainRewriting → Made → MadePlace → Type 0
IsPlaceOf r made place = (plan_of place.plan ≡ plan_at r) × (place.cuts ≡ cuts_at r) × (place.made ≡ made)

abbrev pub HasPlaceOf : PlainRewriting → Made → List MadePlace → List MadePlace → Type 0
HasPlaceOf r made before after = (place : MadePlace) × IsPlaceOf r made place × (after ≡ before ++ place ∷ [])

abbrev pub RecordsOne : PlainRewriting → Made → Recording → Recording → Type 0
RecordsOne r made recording.Off recording.Off = Unit {0}
RecordsOne r made (recording.On before) (recording.On after) = HasPlaceOf r made before.items after.items
RecordsOne r made _ _ = ⊥

abbrev pub RecordsIf : Bool → PlainRewriting → Made → Recording → Recording → Type 0
RecordsIf true r made before after = RecordsOne r made before after
RecordsIf false r made before after = after ≡ before

-- it is recorded, if it counts
abbrev pub RecordsOwn : PlainRewriting → Made → Recording → Recording → Result Made MakeRefusal → Type 0
RecordsOwn r made before after (Ok same) = (same ≡ made) × RecordsIf (is_recorded r) r made before after
RecordsOwn r made before after (Err e) = e ≡ refusal.Memory

-- ---- the places

-- one of the trees is of the place's plan, at its part of the cut
abbrev pub IsAmong : List PlainRewriting → Place → Type 0
IsAmong trees at = (tree : PlainRewriting) × Contains trees tree × (plan_at tree ≡ at.plan) × (cuts_at tree ≡ at.cuts)

-- it is, if the place counts below a root
abbrev pub IsFoundBelow : List PlainRewriting → Place → Type 0
IsFoundBelow trees at = counts_below at.plan ≡ true → IsAmong trees at
