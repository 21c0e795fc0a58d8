-- Counts that don't fall, and which of them rose where a run ends.
use Rattle.std.proofs.Common.{◌≡◌, ◌∙◌, ℕ, ◌≤◌, refl, arith}
use Rattle.outside_traits.specs.Calls.{Rises}
use Rattle.outside_traits.specs.View.{Counts}
use Rattle.folder.proofs.Freed.{rose_before}
use Rattle.folder.proofs.Removals.{rose_on}
use Rattle.nectar_top.specs.Outside.{Faults, NoneFell, NoWriteFailed, faults}
use Rattle.nectar_top.specs.Loading.{HasLoadingCause, WereNotTaken}
use Rattle.nectar_top.specs.Turns.{HasCause}
use Rattle.nectar_top.specs.declared.exit.Exit.{Exit}
use Rattle.nectar_top.specs.declared.exit.Exit.TheVariants as exit

pub rises_none : (c : Counts) → Rises c c
rises_none c = record { reads = omega arith; writes = omega arith; removes = omega arith; taken = omega arith }

pub rises_on : (a b c : Counts) → Rises a b → Rises b c → Rises a c
rises_on a b c p q = record {
  reads = omega (arith, p.reads, q.reads);
  writes = omega (arith, p.writes, q.writes);
  removes = omega (arith, p.removes, q.removes);
  taken = omega (arith, p.taken, q.taken);
}

pub none_fell : (f : Faults) → NoneFell f f
none_fell f = record { source = omega arith; sink = omega arith; store = rises_none f.store }

pub none_fell_on : (a b c : Faults) → NoneFell a b → NoneFell b c → NoneFell a c
none_fell_on a b c p q = record {
  source = omega (arith, p.source, q.source);
  sink = omega (arith, p.sink, q.sink);
  store = rises_on a.store b.store c.store p.store q.store;
}

-- the source was read before
pub source_first : (s s' k k' : ℕ) (d d' : Counts) → s ≤ s' → NoneFell (faults s' k d) (faults s' k' d') → NoneFell (faults s k d) (faults s' k' d')
source_first s s' k k' d d' counts none = record { source = counts; sink = none.sink; store = none.store }

-- a count that rose since a later moment rose since an earlier one
pub caused_since : (e : Exit) (a b c : Faults) → NoneFell a b → NoWriteFailed a b → HasCause e b c → HasCause e a c
caused_since exit.ScriptLimit a b c p held cause = cause ∙ held
caused_since exit.SourceFault a b c p held cause = (rose_before a.source b.source c.source p.source cause.0, cause.1 ∙ held)
caused_since exit.SinkFault a b c p held cause = (rose_before a.sink b.sink c.sink p.sink cause.0, cause.1 ∙ held)
caused_since exit.StoreFault a b c p held cause = rose_before a.store.writes b.store.writes c.store.writes p.store.writes cause
caused_since exit.Done a b c p held cause = absurd cause
caused_since exit.Usage a b c p held cause = absurd cause
caused_since exit.Memory a b c p held cause = absurd cause
caused_since (exit.NotAStore file at) a b c p held cause = absurd cause

-- a run that serves commands ends in no exit before the script is read
pub served_is_taken : (e : Exit) (a b : Faults) → HasCause e a b → WereNotTaken e → ⊥
served_is_taken exit.Usage a b cause taken = cause
served_is_taken exit.Memory a b cause taken = cause
served_is_taken (exit.NotAStore file at) a b cause taken = cause
served_is_taken _ a b cause taken = taken

-- unless it ends in `StoreFault` no write has failed
pub no_write_failed : (e : Exit) (a b : Faults) → HasCause e a b → (e ≡ exit.StoreFault → ⊥) → NoWriteFailed a b
no_write_failed exit.ScriptLimit a b cause other = cause
no_write_failed exit.SourceFault a b cause other = cause.1
no_write_failed exit.SinkFault a b cause other = cause.1
no_write_failed exit.StoreFault a b cause other = absurd (other refl)
no_write_failed exit.Done a b cause other = absurd cause
no_write_failed exit.Usage a b cause other = absurd cause
no_write_failed exit.Memory a b cause other = absurd cause
no_write_failed (exit.NotAStore file at) a b cause other = absurd cause

-- a run whose folder isn't loaded ends in one of these exits
pub unloaded_exit : (e : Exit) (a b : Counts) → HasLoadingCause e a b → (WereNotTaken e → ⊥) → (e ≡ exit.StoreFault → ⊥) → ⊥
unloaded_exit exit.StoreFault a b cause taken other = other refl
unloaded_exit exit.Memory a b cause taken other = taken tt
unloaded_exit (exit.NotAStore file at) a b cause taken other = taken tt
unloaded_exit _ a b cause taken other = cause
