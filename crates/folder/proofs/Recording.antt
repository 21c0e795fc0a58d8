-- A commit of the journal as a step of the folder.
use Rattle.std.proofs.Common.{◌≡◌, inl, inr, ℕ, ◌^◌, ◌<◌, false, List, [], ◌∷◌, ◌++◌, length, refl, sym, subst, arith}
use Rattle.outside_traits.specs.View.{View, Now}
use Rattle.outside_traits.specs.Runs.{Touches}
use Rattle.gated_log.specs.Logs.{IsBody}
use Rattle.gated_log.specs.Stands.{IsBeforeOrAfter}
use Rattle.catalog_types.specs.declared.change.Change.{Change}
use Rattle.catalog_types.specs.declared.change.Change.TheVariants as change
use Rattle.record_codec.specs.Forms.{newest}
use Rattle.record_codec.specs.Spelling.{change_spelling, HasChangeSpelling, keyless}
use Rattle.record_codec.proofs.Lengths.{some_bytes}
use Rattle.catalog_core.specs.Table.{Table, Fits, after}
use Rattle.journal_store.specs.Readings.{generation_file}
use Rattle.journal_store.specs.Journals.{Keeps}
use Rattle.journal_store.specs.Making.{AreStable}
use Rattle.journal_store.specs.declared.journal.Journal.{Journal}
use Rattle.folder.specs.State.{State}
use Rattle.folder.specs.Replay.{IsBodyOf, is_checkpoint}
use Rattle.folder.specs.Sound.{Care}
use Rattle.folder.specs.Left.{AreApart, Since}
use Rattle.folder.specs.Standing.{Stands, Means, IsNext}
use Rattle.folder.proofs.Loading.{follows_apart}
use Rattle.folder.proofs.Crash.{commit_since, commit_means, commit_stands}

-- the keys of entries alone aren't spelled, and a checkpoint alone has entries
keyless_same : (c : Change) → is_checkpoint c ≡ false → keyless c ≡ c
keyless_same (change.Stream name columns) plain = refl
keyless_same (change.Append stream extent) plain = refl
keyless_same (change.Work program reads dropped kept) plain = refl
keyless_same (change.Collect ids) plain = refl
keyless_same (change.Checkpoint whole) plain = absurd (cc)

pub body_of : (c : Change) (body : List ℕ) → is_checkpoint c ≡ false → HasChangeSpelling c → body ≡ change_spelling c → IsBodyOf newest c body
body_of c body plain spelled is = ((spelled, keyless_same c plain), is)

pub is_body : (c : Change) (body : List ℕ) → body ≡ change_spelling c → length body < 2 ^ 29 → IsBody body
is_body c body is short =
    let some : 0 < length body = subst (λ (l : List ℕ). 0 < length l) (sym is) (some_bytes newest c) in
    (some, omega (arith, short))

-- a change that fits leaves a tick
pub ticks_left : (c : Change) (t : Table) → is_checkpoint c ≡ false → Fits c t → t.tick < 4294967295
ticks_left (change.Stream name columns) t plain fits = fits.counted
ticks_left (change.Append stream extent) t plain fits = fits.counted
ticks_left (change.Work program reads dropped kept) t plain fits = fits.counted
ticks_left (change.Collect ids) t plain fits = fits.counted
ticks_left (change.Checkpoint whole) t plain fits = absurd (cc)

module _ (care : Care) (u v : View) (t : Table) (journal : Journal) (s s' : State) (c : Change) (body : List ℕ)
    (law : (g : ℕ) → Now u g (u.files g)) (means : Means care u t journal s) (next : IsNext care u s c s') (is_body : IsBodyOf newest c body)
    (crash : (g : ℕ) (bodies : List (List ℕ)) → Keeps u journal g bodies → Touches (generation_file g) (IsBeforeOrAfter bodies body) u v) where
  pub record_since : Since care s s' u v
  record_since = commit_since care u v t journal s s' c body law means next is_body (crash means.stands.generation means.stands.bodies means.stands.keeps)

  pub record_means : (t' : Table) (journal' : Journal) → t' ≡ after c t
      → ((g : ℕ) (bodies : List (List ℕ)) → Keeps u journal g bodies → Keeps v journal' g (bodies ++ body ∷ []))
      → ((g : ℕ) (bodies : List (List ℕ)) → Keeps u journal g bodies → AreStable u g → AreStable v g) → Means care v t' journal' s'
  record_means t' journal' t_is committed stable = commit_means care u v t journal s s' c body law means next is_body t' journal' t_is
      (crash means.stands.generation means.stands.bodies means.stands.keeps) (committed means.stands.generation means.stands.bodies means.stands.keeps)
      (stable means.stands.generation means.stands.bodies means.stands.keeps means.stands.stable)

pub apart_next : (care : Care) (v : View) (s s' : State) (c : Change) → IsNext care v s c s' → AreApart s s'
apart_next care v s s' c next = inr (follows_apart s s' (c, next.step))

pub record_stands : (u v : View) (t t' : Table) (journal journal' : Journal) (c : Change) (body : List ℕ) → Stands u t journal → IsBodyOf newest c body → is_checkpoint c ≡ false → Fits c t
    → t' ≡ after c t → ((g : ℕ) (bodies : List (List ℕ)) → Keeps u journal g bodies → Keeps v journal' g (bodies ++ body ∷ []))
    → ((g : ℕ) (bodies : List (List ℕ)) → Keeps u journal g bodies → AreStable u g → AreStable v g) → Stands v t' journal'
record_stands u v t t' journal journal' c body stands is plain fits t_is committed stable =
    commit_stands u v t t' journal journal' c body stands is (plain, fits) t_is (committed stands.generation stands.bodies stands.keeps)
    (stable stands.generation stands.bodies stands.keeps stands.stable)
