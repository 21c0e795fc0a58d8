-- Removals one after the other.
use Rattle.std.proofs.Common.{◌≡◌, ◌⊎◌, inl, inr, sym, subst, ◌∙◌, ℕ, ◌+◌, ◌<◌, ◌≤◌, false, List, length, get_or, take, Ok, Err, Result, OnOk, OnErr, arith}
use Rattle.std.specs.List.{Contains}
use Rattle.std.proofs.lemmas.Bool.{cases_eq}
use Rattle.std.proofs.lemmas.List.{take_all}
use Rattle.std.proofs.lemmas.List.Elements.{All-more, All-weaker}
use Rattle.outside_traits.specs.Calls.{Acts, Gone, MayRaiseRemoves}
use Rattle.outside_traits.specs.Counts.{Rose}
use Rattle.outside_traits.specs.View.{View, Counts}
use Rattle.outside_traits.proofs.RunLemmas.{one_call, spans_none, spans_of, spans_on}
use Rattle.folder.specs.Removing.{AreGone, ChangesAmong}

-- ---- which files are changed

pub among_none : (files : List ℕ) (v : View) → ChangesAmong files v v
among_none files v = spans_none (Contains files) (λ image. Unit {0}) v (λ image is. tt)

pub among_on : (files : List ℕ) (file : ℕ) (u v w : View) → Contains files file → ChangesAmong files u v → Acts file Gone v w → ChangesAmong files u w
among_on files file u v w has run acts =
    spans_on (Contains files) (λ image. Unit {0}) u v w run
    (spans_of file (λ x. Unit {0}) (Contains files) (λ image. Unit {0}) v w (one_call file (λ x. Unit {0}) Gone v w acts (λ x now. tt) (λ d x now gone. tt)) has (λ image here others. tt))

-- ---- which are there

-- a count that rose has still risen
pub rose_on : (a b c : ℕ) → Rose a b → b ≤ c → Rose a c
rose_on a b c rose more = omega (arith, rose, more)

-- a file that isn't there isn't after another's removal
stays_gone : (v w : View) (file : ℕ) → Acts file Gone v w → w.there file ≡ false → (g : ℕ) → v.there g ≡ false → w.there g ≡ false
stays_gone v w file acts now g before = elim (cases_eq g file) [
  | inl same ↦ subst (λ (n : ℕ). w.there n ≡ false) (sym same) now
  | inr other ↦ acts.same_there g other ∙ before
]

module _ (v w : View) (a b c : ℕ) (files : List ℕ) (i : ℕ) (low : i < length files) (acts : Acts (get_or files i 0) Gone v w) where
  removed_on : w.there (get_or files i 0) ≡ false → Rose a b ⊎ AreGone v (take i files) → b ≤ c → Rose a c ⊎ AreGone w (take (i + 1) files)
  removed_on now (inl rose) more = inl (rose_on a b c rose more)
  removed_on now (inr gone) more = inr (All-more (λ g. w.there g ≡ false) files i 0 low
      (All-weaker (λ g. v.there g ≡ false) (λ g. w.there g ≡ false) (stays_gone v w (get_or files i 0) acts now) (take i files) gone) now)

  pub gone_on : {T E : Type 0} (result : Result T E) → a ≤ b → b ≤ c → OnOk result (w.there (get_or files i 0) ≡ false) → OnErr result (Rose b c)
      → Rose a b ⊎ AreGone v (take i files) → Rose a c ⊎ AreGone w (take (i + 1) files)
  gone_on (Ok x) early more now failed before = removed_on now before more
  gone_on (Err e) early more now failed before = inl (omega (arith, early, failed))

pub gone_all : (v : View) (a b : ℕ) (files : List ℕ) (i : ℕ) → length files ≤ i → Rose a b ⊎ AreGone v (take i files) → Rose a b ⊎ AreGone v files
gone_all v a b files i over before = subst (λ (l : List ℕ). Rose a b ⊎ AreGone v l) (take_all i files over) before

-- ---- counts

pub removes_on : (a b c : Counts) → MayRaiseRemoves a b → MayRaiseRemoves b c → MayRaiseRemoves a c
removes_on a b c first then = record {
  reads = then.reads ∙ first.reads;
  writes = then.writes ∙ first.writes;
  removes = omega (arith, first.removes, then.removes);
  taken = then.taken ∙ first.taken;
}
