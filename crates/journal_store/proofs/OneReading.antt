-- The files have one generation in use and its bodies, or reading them stops at one place, and never both.
use Rattle.std.proofs.Common.{◌≡◌, ◌⊎◌, inl, inr, ℕ, List, [], length, sym, ap, ◌∙◌, subst, arith}
use Rattle.gated_log.specs.Logs.{Reads, StopsAt}
use Rattle.gated_log.proofs.Blocks.{one_reading, reads_or_stops, stops_once}
use Rattle.journal_store.specs.Readings.{generation_file, generations, IsUnfinished, HaveBodies, StopsInRoot, StopsAtNumber, StopsInNumbers, StopsReading}
use Rattle.journal_store.proofs.Numbers.{generations_once, generations_some, generations_agree, number_once, short_has_none}

-- a root whose making isn't finished has no body
pub unfinished_none : (bodies : List (List ℕ)) (root : List ℕ) → Reads bodies root → IsUnfinished root → bodies ≡ []
unfinished_none bodies root reads (inl short) = short_has_none bodies root short reads
unfinished_none bodies root reads (inr none) = one_reading bodies [] root reads none

-- and names no generation
pub unfinished_names : (g : ℕ) (root : List ℕ) → Reads (generations g) root → IsUnfinished root → ⊥
unfinished_names g root reads unfinished = generations_some g (unfinished_none (generations g) root reads unfinished)

-- the generations that a root names are one
pub root_once : (g h : ℕ) (root : List ℕ) → Reads (generations g) root → Reads (generations h) root → g ≡ h
root_once g h root first second = generations_once g h (one_reading (generations g) (generations h) root first second)

pub have_once : (files : ℕ → List ℕ) (g h : ℕ) (ps qs : List (List ℕ)) → HaveBodies files g ps → HaveBodies files h qs → (g ≡ h) × (ps ≡ qs)
have_once files g h ps qs (inl first) (inl second) =
    let same = root_once g h (files 0) first.root second.root in
    (same, one_reading ps qs (files (generation_file h)) (subst (λ k. Reads ps (files (generation_file k))) same first.log) second.log)
have_once files g h ps qs (inl first) (inr second) = absurd (unfinished_names g (files 0) first.root second.root)
have_once files g h ps qs (inr first) (inl second) = absurd (unfinished_names h (files 0) second.root first.root)
have_once files g h ps qs (inr first) (inr second) = (first.first ∙ sym second.first, first.none ∙ sym second.none)

-- reading a root that names a generation doesn't stop in it
root_goes_on : (files : ℕ → List ℕ) (g file at : ℕ) → Reads (generations g) (files 0) → StopsInRoot files file at ⊎ StopsInNumbers files file at → ⊥
root_goes_on files g file at reads (inl stop) = reads_or_stops (generations g) at (files 0) reads stop.stops
root_goes_on files g file at reads (inr stop) =
    generations_agree g stop.i at (subst (λ ps. StopsAtNumber stop.i ps at) (one_reading stop.bodies (generations g) (files 0) stop.root reads) stop.stops)

pub unfinished_goes_on : (files : ℕ → List ℕ) (file at : ℕ) → IsUnfinished (files 0) → StopsReading files file at → ⊥
unfinished_goes_on files file at (inl short) (inl stop) = omega (arith, short, stop.long)
unfinished_goes_on files file at (inr none) (inl stop) = reads_or_stops [] at (files 0) none stop.stops
unfinished_goes_on files file at unfinished (inr (inl stop)) =
    omega (arith, stop.stops.within, ap length (unfinished_none stop.bodies (files 0) stop.root unfinished))
unfinished_goes_on files file at unfinished (inr (inr stop)) = unfinished_names stop.generation (files 0) stop.root unfinished

pub have_or_stop : (files : ℕ → List ℕ) (g : ℕ) (ps : List (List ℕ)) (file at : ℕ) → HaveBodies files g ps → StopsReading files file at → ⊥
have_or_stop files g ps file at (inl made) (inl stop) = root_goes_on files g file at made.root (inl stop)
have_or_stop files g ps file at (inl made) (inr (inl stop)) = root_goes_on files g file at made.root (inr stop)
have_or_stop files g ps file at (inl made) (inr (inr stop)) =
    let same = root_once stop.generation g (files 0) stop.root made.root in
    reads_or_stops ps at (files (generation_file g)) made.log (subst (λ f. StopsAt at (files f)) (stop.is_log ∙ ap generation_file same) stop.stops)
have_or_stop files g ps file at (inr unmade) stop = unfinished_goes_on files file at unmade.root stop

pub stop_once : (files : ℕ → List ℕ) (file at g b : ℕ) → StopsReading files file at → StopsReading files g b → (file ≡ g) × (at ≡ b)
stop_once files file at g b (inl first) (inl second) = (first.is_root ∙ sym second.is_root, stops_once at b (files 0) first.stops second.stops)
stop_once files file at g b (inl first) (inr (inl second)) = absurd (reads_or_stops second.bodies at (files 0) second.root first.stops)
stop_once files file at g b (inl first) (inr (inr second)) = absurd (root_goes_on files second.generation file at second.root (inl first))
stop_once files file at g b (inr (inl first)) (inl second) = absurd (reads_or_stops first.bodies b (files 0) first.root second.stops)
stop_once files file at g b (inr (inl first)) (inr (inl second)) =
    let same = one_reading first.bodies second.bodies (files 0) first.root second.root in
    (first.is_root ∙ sym second.is_root, number_once first.i second.i at b second.bodies (subst (λ ps. StopsAtNumber first.i ps at) same first.stops) second.stops)
stop_once files file at g b (inr (inl first)) (inr (inr second)) = absurd (root_goes_on files second.generation file at second.root (inr first))
stop_once files file at g b (inr (inr first)) (inl second) = absurd (root_goes_on files first.generation g b first.root (inl second))
stop_once files file at g b (inr (inr first)) (inr (inl second)) = absurd (root_goes_on files first.generation g b first.root (inr second))
stop_once files file at g b (inr (inr first)) (inr (inr second)) =
    let same = root_once first.generation second.generation (files 0) first.root second.root in
    let file_same : file ≡ g = first.is_log ∙ ap generation_file same ∙ sym second.is_log in
    (file_same, stops_once at b (files g) (subst (λ f. StopsAt at (files f)) file_same first.stops) second.stops)
