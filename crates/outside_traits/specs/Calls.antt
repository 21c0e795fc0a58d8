-- What one call of a store may do to its files, to what a crash leaves, and to the counts.
use Rattle.std.specs.Prelude.{◌≡◌, ◌≢◌, ◌⊎◌, ℕ, ◌+◌, ◌-◌, ◌^◌, ◌<◌, ◌≤◌, min, max, Bool, true, false, Option, None, Some, List, [], ◌++◌, length, take, drop, replicate}
use Rattle.outside_traits.specs.View.{View, Now, Counts}

-- the bytes stand at this place, over what was there, and a gap before them is zero bytes
unfoldable pub overlaid : List ℕ → ℕ → List ℕ → List ℕ
overlaid old at bytes = take at old ++ replicate (at - length old) 0 ++ bytes ++ drop (at + length bytes) old

-- After a write of n bytes at this place that may have been cut short: the range, and what is past the old end up to
-- the range's end, is anything; all other bytes stay.
pub record Torn (at n : ℕ) (old new : List ℕ) : Type 0 where
  pub before : take (min at (length old)) new ≡ take at old
  pub after : drop (at + n) new ≡ drop (at + n) old
  pub no_shorter : length old ≤ length new
  pub no_longer : length new ≤ max (length old) (at + n)

-- After a cut to this length: some length between, the same before the new end, and behind it anything.
pub record Shortened (len : ℕ) (old new : List ℕ) : Type 0 where
  pub front : take (min len (length old)) new ≡ take len old
  pub no_shorter : min len (length old) ≤ length new
  pub no_longer : length new ≤ length old

-- after a sync: as it was
abbrev pub Same : List ℕ → List ℕ → Type 0
Same old new = new ≡ old

-- after a removal: as it was, or nothing
abbrev pub Gone : List ℕ → List ℕ → Type 0
Gone old new = (new ≡ old) ⊎ (new ≡ [])

-- Time goes on: the moment doesn't fall, and what a crash might have left at an earlier moment stays as it is.
pub record Passes (old new : View) : Type 0 where
  pub later : old.moment ≤ new.moment
  pub kept : (k file : ℕ) (x : List ℕ) → k ≤ old.moment → old.left_at k file x → new.left_at k file x
  pub no_more : (k file : ℕ) (x : List ℕ) → k ≤ old.moment → new.left_at k file x → old.left_at k file x

-- A call on one file: what is read of it, and each outcome of it since, is as before the call after this step.
-- All other files are left alone.
pub record Acts (file : ℕ) (step : List ℕ → List ℕ → Type 0) (old new : View) : Type 0 where
  pub time : Passes old new
  pub seen : step (old.files file) (new.files file)
  pub same : (g : ℕ) → g ≢ file → new.files g ≡ old.files g
  pub same_there : (g : ℕ) → g ≢ file → new.there g ≡ old.there g
  pub here : (k : ℕ) (x : List ℕ) → old.moment < k → k ≤ new.moment → new.left_at k file x
      → (d : List ℕ) × Now old file d × step d x
  pub others : (k g : ℕ) (x : List ℕ) → old.moment < k → k ≤ new.moment → g ≢ file → new.left_at k g x → Now old g x

-- A call that only looks: the files, and the images now, are as before.
pub record Idles (old new : View) : Type 0 where
  pub time : Passes old new
  pub same : (g : ℕ) → new.files g ≡ old.files g
  pub same_there : (g : ℕ) → new.there g ≡ old.there g
  pub no_more : (k g : ℕ) (x : List ℕ) → old.moment < k → k ≤ new.moment → new.left_at k g x → Now old g x
  pub kept : (g : ℕ) (x : List ℕ) → Now old g x → Now new g x

-- no file that isn't there comes back in a crash
abbrev pub StayGone : View → Type 0
StayGone v = (g : ℕ) → v.there g ≡ false → (x : List ℕ) → Now v g x → x ≡ []

-- the least number of a file that is there, at or above `from`, or that there is none
abbrev pub NextIs : (ℕ → Bool) → ℕ → Option ℕ → Type 0
NextIs there from None = (g : ℕ) → from ≤ g → there g ≡ false
NextIs there from (Some file) = (there file ≡ true) × ((g : ℕ) → from ≤ g → g < file → there g ≡ false)

-- What reading n bytes of a file gave: n is the lesser of the buffer's length and what stands at and after the place.
pub record IsRead (bytes : List ℕ) (at size n : ℕ) (buf : List ℕ) : Type 0 where
  pub count : n ≡ min size (length bytes - at)
  pub front : take n buf ≡ take n (drop at bytes)

-- of the counts of faults the first alone may rise
pub record MayRaiseReads (old new : Counts) : Type 0 where
  pub reads : old.reads ≤ new.reads
  pub writes : new.writes ≡ old.writes
  pub removes : new.removes ≡ old.removes
  pub taken : old.taken ≤ new.taken

-- the second count alone may rise
pub record MayRaiseWrites (old new : Counts) : Type 0 where
  pub reads : new.reads ≡ old.reads
  pub writes : old.writes ≤ new.writes
  pub removes : new.removes ≡ old.removes
  pub taken : new.taken ≡ old.taken

-- the third count alone may rise
pub record MayRaiseRemoves (old new : Counts) : Type 0 where
  pub reads : new.reads ≡ old.reads
  pub writes : new.writes ≡ old.writes
  pub removes : old.removes ≤ new.removes
  pub taken : new.taken ≡ old.taken

-- no count falls
pub record Rises (old new : Counts) : Type 0 where
  pub reads : old.reads ≤ new.reads
  pub writes : old.writes ≤ new.writes
  pub removes : old.removes ≤ new.removes
  pub taken : old.taken ≤ new.taken

-- the count of bytes that were taken rose by n, or stands at the greatest u64
abbrev pub CountsTaken : ℕ → Counts → Counts → Type 0
CountsTaken n old new = new.taken ≡ min (old.taken + n) (2 ^ 64 - 1)
