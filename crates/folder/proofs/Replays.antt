-- Bodies are replayed to one table, and either so or up to a place.
use Rattle.std.proofs.Common.{◌≡◌, inl, inr, ℕ, ◌+◌, Bool, false, List, [], ◌∷◌, ◌++◌, length, refl, sym, ap, ◌∙◌, subst}
use Rattle.catalog_types.specs.declared.change.Change.{Change}
use Rattle.record_codec.specs.declared.form.Form.{Form}
use Rattle.record_codec.specs.Forms.{newest}
use Rattle.record_codec.proofs.Told.{one_change as one_change_of, one_place}
use Rattle.catalog_core.specs.Table.{Table, empty_table, Fits, after}
use Rattle.journal_store.specs.Readings.{HaveBodies}
use Rattle.folder.specs.Replay.{form_in, IsBodyOf, MayBeMade, Replays, ReadsAs, StopsIn, StopsReplay, due_in}

-- a body spells one change
one_change : (f : Form) (a b : Change) (body : List ℕ) → IsBodyOf f a body → IsBodyOf f b body → a ≡ b
one_change f a b body is_a is_b = one_change_of f body a b is_a is_b

-- a body more behind a log of the newest form, which has one
pub form_in-push : (bodies : List (List ℕ)) (body : List ℕ) → form_in bodies ≡ newest → form_in (bodies ++ body ∷ []) ≡ newest
form_in-push [] body is = absurd (cc)
form_in-push (first ∷ more) body is = is

-- files read as the table to which their log leads in its form
pub reads_of : (f : Form) (files : ℕ → List ℕ) (g : ℕ) (bodies : List (List ℕ)) (t : Table) → HaveBodies files g bodies → form_in bodies ≡ f → Replays f (due_in g) empty_table bodies t → ReadsAs files t
reads_of f files g bodies t have is run = record {
  generation = g;
  bodies = bodies;
  logs = have;
  replays = subst (λ h. Replays h (due_in g) empty_table bodies t) (sym is) run;
}

-- one body more
pub Replays-push : (f : Form) (due : Bool) (t m : Table) (bodies : List (List ℕ)) (body : List ℕ) (c : Change)
    → Replays f due t bodies m → IsBodyOf f c body → MayBeMade false m c → Replays f due t (bodies ++ body ∷ []) (after c m)
Replays-push f due t m [] body c run is may = (c, is, (may.0 ∙ sym run.0, subst (Fits c) run.1 may.1), (refl, ap (after c) run.1))
Replays-push f due t m (first ∷ more) body c run is may = (run.0, run.1, run.2, Replays-push f false (after run.0 t) m more body c run.3 is may)

-- bodies have one table
pub replays_once : (f : Form) (due : Bool) (t x y : Table) (bodies : List (List ℕ)) → Replays f due t bodies x → Replays f due t bodies y → x ≡ y
replays_once f due t x y [] a b = a.1 ∙ sym b.1
replays_once f due t x y (body ∷ more) a b =
    let same : a.0 ≡ b.0 = one_change f a.0 b.0 body a.1 b.1 in
    replays_once f false (after a.0 t) x y more a.3 (subst (λ c. Replays f false (after c t) more y) (sym same) b.3)

-- a body whose change is made doesn't stop
taken_or_stops : (f : Form) (due : Bool) (t : Table) (body : List ℕ) (within : ℕ) (c : Change) → IsBodyOf f c body → MayBeMade due t c → StopsIn f due t body within → ⊥
taken_or_stops f due t body within c is may (inl unread) = unread.0 c is
taken_or_stops f due t body within c is may (inr misfit) =
    let same : c ≡ misfit.0.0 = one_change f c misfit.0.0 body is misfit.0.1 in
    misfit.0.2 (subst (λ c. MayBeMade due t c) same may)

-- and where they have one, nothing stops
pub replays_or_stops : (f : Form) (due : Bool) (t x : Table) (gate at : ℕ) (bodies : List (List ℕ)) → Replays f due t bodies x → StopsReplay f due t gate bodies at → ⊥
replays_or_stops f due t x gate at [] run stops = absurd (cc)
replays_or_stops f due t x gate at (body ∷ more) run (inl stops) = taken_or_stops f due t body stops.0 run.0 run.1 run.2 stops.1
replays_or_stops f due t x gate at (body ∷ more) run (inr on) =
    let same : run.0 ≡ on.0 = one_change f run.0 on.0 body run.1 on.1 in
    replays_or_stops f false (after run.0 t) x (gate + length body + 5) at more run.3 (subst (λ c. StopsReplay f false (after c t) (gate + length body + 5) more at) (sym same) on.3)

-- a body stops at one place
stops_in_once : (f : Form) (due : Bool) (t : Table) (body : List ℕ) (m n : ℕ) → StopsIn f due t body m → StopsIn f due t body n → m ≡ n
stops_in_once f due t body m n (inl a) (inl b) = one_place f body m n a.1 b.1
stops_in_once f due t body m n (inl a) (inr b) = absurd (a.0 b.0.0 b.0.1)
stops_in_once f due t body m n (inr a) (inl b) = absurd (b.0 a.0.0 a.0.1)
stops_in_once f due t body m n (inr a) (inr b) = a.1 ∙ sym b.1

-- and so do bodies
pub stops_once : (f : Form) (due : Bool) (t : Table) (gate m n : ℕ) (bodies : List (List ℕ)) → StopsReplay f due t gate bodies m → StopsReplay f due t gate bodies n → m ≡ n
stops_once f due t gate m n [] a b = a.1 ∙ sym b.1
stops_once f due t gate m n (body ∷ more) (inl a) (inl b) = a.2 ∙ ap (λ k. gate + 5 + k) (stops_in_once f due t body a.0 b.0 a.1 b.1) ∙ sym b.2
stops_once f due t gate m n (body ∷ more) (inl a) (inr b) = absurd (taken_or_stops f due t body a.0 b.0 b.1 b.2 a.1)
stops_once f due t gate m n (body ∷ more) (inr a) (inl b) = absurd (taken_or_stops f due t body b.0 a.0 a.1 a.2 b.1)
stops_once f due t gate m n (body ∷ more) (inr a) (inr b) =
    let same : a.0 ≡ b.0 = one_change f a.0 b.0 body a.1 b.1 in
    stops_once f false (after a.0 t) (gate + length body + 5) m n more a.3 (subst (λ c. StopsReplay f false (after c t) (gate + length body + 5) more n) (sym same) b.3)
