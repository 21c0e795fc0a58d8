-- A folder that is attached, and then loaded.
use Rattle.std.proofs.Common.{◌≡◌, ◌⊎◌, ◌∙◌, ℕ, List, Result, Ok, Err, sym, ap, subst, inl, inr}
use Rattle.std.specs.Prelude.{IsErrOf}
use Rattle.session.specs.declared.session.Session.{Session}
use Rattle.outside_traits.specs.Calls.{Idles}
use Rattle.outside_traits.specs.Runs.{Spans}
use Rattle.outside_traits.specs.View.{View}
use Rattle.outside_traits.proofs.RunLemmas.{idles_narrow, spans_on, spans_narrowed}
use Rattle.folder.specs.InUse.{IsLoadedAsItIs}
use Rattle.folder.specs.Left.{IsLeft, IsSoundForOneOf, Everything, Since}
use Rattle.folder.specs.Replay.{StopsReading}
use Rattle.folder.specs.declared.refusal.LoadRefusal.{LoadRefusal}
use Rattle.folder.specs.declared.refusal.LoadRefusal.TheVariants as refusal
use Rattle.folder.specs.Unnamed.{IsUnnamed, ChangesUnnamed}
use Rattle.folder.proofs.Narrowing.{left_narrowed}
use Rattle.folder.proofs.UnnamedFiles.{unnamed_narrowed}
use Rattle.nectar_top.specs.Crash.{Found}
use Rattle.nectar_top.specs.Loading.{exit_of}
use Rattle.nectar_top.specs.Run.{IsUnloaded}
use Rattle.nectar_top.specs.declared.exit.Exit.{Exit}
use Rattle.nectar_top.specs.declared.exit.Exit.TheVariants as exit

module _ (found : Found) (u v : View) (idle : Idles u v) (left : IsLeft found.care u found.first found.other) where
  -- it is left as it was found
  pub left_attached : IsLeft found.care v found.first found.other
  left_attached = left_narrowed u v (idles_narrow u v idle) found.care found.first found.other left

  since_idle : Since found.care found.first found.other u v
  since_idle = spans_narrowed Everything (IsSoundForOneOf found.care found.first found.other) u v (idles_narrow u v idle) left.images

  -- the store failed while it was attached
  pub unloaded_attached : IsUnloaded found u v
  unloaded_attached = record { left = inl left_attached; since = since_idle }

  module _ (w : View) (since : Since found.care found.first found.other v w) where
    pub since_attached : Since found.care found.first found.other u w
    since_attached =
        spans_on Everything (IsSoundForOneOf found.care found.first found.other) u v w since_idle since

    -- it was not loaded
    pub unloaded_since : IsLeft found.care w found.first found.other ⊎ IsLeft found.care w found.other found.first → IsUnloaded found u w
    unloaded_since either = record { left = either; since = since_attached }

-- what a store that was only looked at reads as, it read as before
module _ (u v : View) (idle : Idles u v) where
  pub stops_before : (file at : ℕ) → StopsReading v.files file at → StopsReading u.files file at
  stops_before file at stops = subst (λ (f : ℕ → List ℕ). StopsReading f file at) (λ i g. idle.same g i) stops

  pub stops_behind : (file at : ℕ) → StopsReading u.files file at → StopsReading v.files file at
  stops_behind file at stops = subst (λ (f : ℕ → List ℕ). StopsReading f file at) (λ i g. sym (idle.same g) i) stops

  -- where loading changes only files that the folder doesn't name, no others are changed
  pub finished_behind : (w : View) → (IsLoadedAsItIs v.files → ChangesUnnamed v w) → IsLoadedAsItIs u.files → ChangesUnnamed u w
  finished_behind w loaded as_it_is =
      spans_on (IsUnnamed u.files) (λ image. Unit {0}) u v w (unnamed_narrowed u v (idles_narrow u v idle))
      (subst (λ (f : ℕ → List ℕ). Spans (IsUnnamed f) (λ image. Unit {0}) v w) (λ i g. idle.same g i)
      (loaded (subst IsLoadedAsItIs (λ i g. sym (idle.same g) i) as_it_is)))

-- the exit tells the refusal
pub refusal_is : (r : LoadRefusal) (e : Exit) (file at : ℕ) → e ≡ exit_of r → IsErrOf {T = Session} (Err e) (exit.NotAStore file at) → IsErrOf {T = Session} (Err r) (refusal.NotAStore file at)
refusal_is refusal.Fault e file at same is = absurd (cc)
refusal_is (refusal.NotAStore g b) e file at same is =
    let whole : refusal.NotAStore g b ≡ refusal.NotAStore file at = cc in
    ap Err whole
refusal_is refusal.Memory e file at same is = absurd (cc)

exit_at : (r : LoadRefusal) (e : Exit) (s : LoadRefusal) → e ≡ exit_of r → IsErrOf {T = Session} (Err r) s → IsErrOf {T = Session} (Err e) (exit_of s)
exit_at r e s same is =
    let which : r ≡ s = cc in
    ap Err (same ∙ ap exit_of which)

-- refused for its reading, or for another cause: as the loading tells it, and as the program does
abbrev pub IsStopped : ℕ → ℕ → Result Session LoadRefusal → Type 0
IsStopped file at r = IsErrOf r (refusal.NotAStore file at) ⊎ (IsErrOf r refusal.Fault ⊎ IsErrOf r refusal.Memory)

abbrev pub EndsSo : {T : Type 0} → ℕ → ℕ → Result T Exit → Type 0
EndsSo file at r = IsErrOf r (exit.NotAStore file at) ⊎ (IsErrOf r exit.StoreFault ⊎ IsErrOf r exit.Memory)

pub exit_is : (r : LoadRefusal) (e : Exit) (file at : ℕ) → e ≡ exit_of r → IsStopped file at (Err r) → EndsSo {T = Session} file at (Err e)
exit_is r e file at same either = elim either [
  | inl is ↦ inl (exit_at r e _ same is)
  | inr other ↦ inr (elim other [ inl is ↦ inl (exit_at r e _ same is) | inr is ↦ inr (exit_at r e _ same is) ])
]

pub loaded_not_stopped : (s : Session) (file at : ℕ) → IsStopped file at (Ok s) → ⊥
loaded_not_stopped s file at (inl is) = absurd (cc)
loaded_not_stopped s file at (inr (inl is)) = absurd (cc)
loaded_not_stopped s file at (inr (inr is)) = absurd (cc)

pub goes_on : {T : Type 0} (t : T) (file at : ℕ) → EndsSo {T = T} file at (Ok t) → ⊥
goes_on t file at (inl is) = absurd (cc)
goes_on t file at (inr (inl is)) = absurd (cc)
goes_on t file at (inr (inr is)) = absurd (cc)

-- one exit after another call
pub again : {A B : Type 0} (e x : Exit) → IsErrOf {T = A} (Err e) x → IsErrOf {T = B} (Err e) x
again e x is =
    let same : e ≡ x = cc in
    ap Err same

pub ends_again : {A B : Type 0} (e : Exit) (file at : ℕ) → EndsSo {T = A} file at (Err e) → EndsSo {T = B} file at (Err e)
ends_again e file at (inl is) = inl (again e _ is)
ends_again e file at (inr (inl is)) = inr (inl (again e _ is))
ends_again e file at (inr (inr is)) = inr (inr (again e _ is))

pub exit_told : {A : Type 0} (e : Exit) (file at : ℕ) → EndsSo {T = A} file at (Err e) → (e ≡ exit.NotAStore file at) ⊎ ((e ≡ exit.StoreFault) ⊎ (e ≡ exit.Memory))
exit_told e file at (inl is) = inl (cc)
exit_told e file at (inr (inl is)) = inr (inl (cc))
exit_told e file at (inr (inr is)) = inr (inr (cc))
