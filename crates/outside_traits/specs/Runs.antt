-- What calls that follow each other do, seen from the first one's start.
use Rattle.std.specs.Prelude.{◌≡◌, ◌≢◌, ℕ, ◌≤◌, Bool, cond, List}
use Rattle.outside_traits.specs.View.{View, Now, IsImageAt}
use Rattle.outside_traits.specs.Calls.{Passes}

-- A run on one file: each outcome of it at each moment since the start has P. All other files are left alone.
pub record Touches (file : ℕ) (P : List ℕ → Type 0) (old new : View) : Type 0 where
  pub time : Passes old new
  pub each : (k : ℕ) (x : List ℕ) → old.moment ≤ k → k ≤ new.moment → new.left_at k file x → P x
  pub others : (k g : ℕ) (x : List ℕ) → old.moment ≤ k → k ≤ new.moment → g ≢ file → new.left_at k g x → Now old g x
  pub same : (g : ℕ) → g ≢ file → new.files g ≡ old.files g
  pub same_there : (g : ℕ) → g ≢ file → new.there g ≡ old.there g

-- A run on one file, of which nothing is said but that all other files are left alone.
abbrev pub ChangesOnly : ℕ → View → View → Type 0
ChangesOnly file old new = Touches file (λ x. Unit {0}) old new

-- A run on several files: each image at each moment since the start has Q. All files outside of them are left alone.
pub record Spans (mine : ℕ → Type 0) (Q : (ℕ → List ℕ) → Type 0) (old new : View) : Type 0 where
  pub time : Passes old new
  pub each : (k : ℕ) (image : ℕ → List ℕ) → old.moment ≤ k → k ≤ new.moment → IsImageAt new k image → Q image
  pub others : (k g : ℕ) (x : List ℕ) → old.moment ≤ k → k ≤ new.moment → (mine g → ⊥) → new.left_at k g x → Now old g x
  pub same : (g : ℕ) → (mine g → ⊥) → new.files g ≡ old.files g
  pub same_there : (g : ℕ) → (mine g → ⊥) → new.there g ≡ old.there g

-- A run that changes no file: it reads, and makes stable what is there. Each outcome since is one of those at the start.
pub record Narrows (old new : View) : Type 0 where
  pub time : Passes old new
  pub each : (k g : ℕ) (x : List ℕ) → old.moment ≤ k → k ≤ new.moment → new.left_at k g x → Now old g x
  pub same : (g : ℕ) → new.files g ≡ old.files g
  pub same_there : (g : ℕ) → new.there g ≡ old.there g

-- an image with the files of these numbers put back as they read
abbrev pub put_back : (ℕ → Bool) → (ℕ → List ℕ) → (ℕ → List ℕ) → ℕ → List ℕ
put_back mine files image file = cond (mine file) (files file) (image file)
