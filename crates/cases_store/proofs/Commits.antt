-- What a crash leaves of a run on one file, and of a log after a commit.
use Rattle.std.proofs.Common.{◌≡◌, ◌⊎◌, inl, inr, ℕ, List, [], ◌∷◌, Result, Ok, Err, is_ok, IfOk, IsErrOf, true, sym, ◌∙◌, subst, arith}
use Rattle.outside_traits.specs.View.{View, Now, IsImageAt}
use Rattle.outside_traits.specs.Runs.{Touches}
use Rattle.outside_traits.specs.declared.failed.Failed.{Failed}
use Rattle.gated_log.specs.Logs.{Reads, StopsAt}
use Rattle.gated_log.specs.Stands.{file_of, Stands, IsBeforeOrAfter}
use Rattle.gated_log.specs.declared.log.Log.{Log}

-- each image of a run's file has what each outcome of it has
pub left_of_run : (named file : ℕ) (P : List ℕ → Type 0) (u v : View) (image : ℕ → List ℕ) → named ≡ file → Touches named P u v → IsImageAt v v.moment image → P (image file)
left_of_run named file P u v image same run is =
    subst (λ g. P (image g)) same (run.each v.moment (image named) run.time.later (omega arith) (is named))

-- after a commit that succeeded, each outcome of the file has the new body
pub outcome_of_committed : (r : Result Log Failed) (v : View) (named file : ℕ) (bodies : List (List ℕ)) (x : List ℕ) → named ≡ file → is_ok r ≡ true → IfOk r (λ log. file_of log ≡ named) → IfOk r (λ log. Stands v log bodies) → Now v file x → Reads bodies x
outcome_of_committed (Ok log) v named file bodies x same ok is stands now = stands.outcomes x (subst (λ g. Now v g x) (sym (is ∙ same)) now)
outcome_of_committed (Err e) v named file bodies x same ok is stands now = absurd (cc)

-- the bodies that are read of what is left
pub bodies_left : ((ps qs : List (List ℕ)) (file : List ℕ) → Reads ps file → Reads qs file → ps ≡ qs) → (read : List (List ℕ)) (body x : List ℕ) → Reads read x → IsBeforeOrAfter [] body x → (read ≡ []) ⊎ (read ≡ body ∷ [])
bodies_left one read body x is (inl before) = inl (one read [] x is before)
bodies_left one read body x is (inr after) = inr (one read (body ∷ []) x is after)

-- what is left is a log
pub is_log_left : ((ps : List (List ℕ)) (at : ℕ) (file : List ℕ) → Reads ps file → StopsAt at file → ⊥) → (body x : List ℕ) (at : ℕ) → IsBeforeOrAfter [] body x → StopsAt at x → ⊥
is_log_left not_both body x at (inl before) stops = not_both [] at x before stops
is_log_left not_both body x at (inr after) stops = not_both (body ∷ []) at x after stops

-- an error is the same whatever a success would have given
pub same_error : {T U E : Type 0} (d e : E) → IsErrOf {T = T} (Err d) e → IsErrOf {T = U} (Err d) e
same_error d e same = let is : d ≡ e = cc in cc
