-- Turns of a job, one after another.
use Rattle.std.proofs.Common.{◌≡◌, refl, sym, ap, ◌∙◌, subst, ℕ, ◌+◌, ◌-◌, ◌^◌, ◌≤◌, min, Bool, List, [], ◌∷◌, ◌++◌, IsTrue, append_assoc, append-nil, arith}
use Rattle.plan_core.specs.PlainPlan.{PlainPlan}
use Rattle.estimator.specs.Cuts.{Cuts}
use Rattle.rewrite_core.specs.Files.{FileName, Result, files_of}
use Rattle.rewrite_core.specs.PlainRewriting.{PlainRewriting}
use Rattle.catalog_types.specs.declared.program.Program.{Program}
use Rattle.catalog_core.specs.Table.{Table}
use Rattle.catalog_core.specs.Named.{file_at, bytes_named}
use Rattle.executor.specs.Progress.{left_in}
use Rattle.plan_choice.specs.Leaving.{leaving_out}
use Rattle.plan_choice.specs.Taken.{IsTaken}
use Rattle.work_run.specs.Opened.{files_left, opened_rewriting}
use Rattle.work_run.proofs.OpenSteps.{rewriting-same}
use Rattle.job_turns.specs.Jobs.{IsJob, bytes_read}
use Rattle.job_turns.specs.Steps.{IsAsBefore, ReadsOne, NotesNext}
use Rattle.job_turns.specs.Turns.{GoesOn, Turns}
use Rattle.job_turns.specs.declared.job.JobWork.{JobWork}
use Rattle.job_turns.proofs.OpenJobs.{none-read, read-front, read-more}

-- ---- chains

module _ (tells : Bool) (t : Table) (plan form : PlainPlan) (cuts : Cuts) where
  abbrev Goes : List ℕ → PlainRewriting → List FileName → List ℕ → PlainRewriting → List FileName → ℕ → Type 0
  Goes = Turns tells t plan form cuts

  -- from an earlier moment of the first turn
  earlier : (noted : List ℕ) (r : PlainRewriting) (names left next : List FileName) (ids : List ℕ) (last : PlainRewriting) (last_left : List FileName) (bytes : ℕ) → left ≡ names ++ next → Goes noted r next ids last last_left bytes
      → Goes noted r left ids last last_left bytes
  earlier noted r names left next [] last last_left bytes split (more, same, rest, none) =
      (names ++ more, same, split ∙ ap (λ (l : List FileName). names ++ l) rest ∙ sym (append_assoc names more last_left), none)
  earlier noted r names left next (id ∷ ids) last last_left bytes split (first, rest, to, ends, taken, others, sum) = (
    first,
    rest,
    to,
    record {
      before = ends.before;
      others = ends.others;
      names = ends.names;
      more = names ++ ends.more;
      here = split ∙ ap (λ (l : List FileName). names ++ l) ends.here ∙ sym (append_assoc names ends.more (Result id ∷ ends.others));
      given = ends.given;
      few = ends.few;
      bytes_are = ends.bytes_are;
    },
    taken,
    others,
    sum,
  )

  pub turns-then : (noted : List ℕ) (r : PlainRewriting) (left : List FileName) (ids : List ℕ) (half : PlainRewriting) (half_left : List FileName) (bytes : ℕ) (further : List ℕ) (last : PlainRewriting) (last_left : List FileName) (more : ℕ)
      → Goes noted r left ids half half_left bytes → Goes (noted ++ ids) half half_left further last last_left more → Goes noted r left (ids ++ further) last last_left (bytes + more)
  turns-then noted r left [] half half_left bytes further last last_left more (names, same, split, none) then =
      let sum : bytes + more ≡ more = omega (arith, none) in
      subst (λ (n : ℕ). Goes noted r left further last last_left n) (sym sum)
      (earlier noted r names left half_left further last last_left more split
      (subst (λ (x : PlainRewriting). Goes noted x half_left further last last_left more) same (subst (λ (out : List ℕ). Goes out half half_left further last last_left more) (append-nil noted) then)))
  turns-then noted r left (id ∷ ids) half half_left bytes further last last_left more (first, rest, next, ends, taken, others, sum) then = (
    first,
    rest + more,
    next,
    ends,
    taken,
    turns-then (noted ++ id ∷ []) next (files_of next) ids half half_left rest further last last_left more others
        (subst (λ (out : List ℕ). Goes out half half_left further last last_left more) (sym (append_assoc noted (id ∷ []) ids)) then),
    omega (arith, sum),
  )

-- ---- jobs

abbrev pub goes-then : (tells : Bool) (t : Table) (plan : PlainPlan) (old half new : JobWork) → GoesOn tells t plan old half → GoesOn tells t plan half new → GoesOn tells t plan old new
goes-then tells t plan old half new on then =
    let r : PlainRewriting = opened_rewriting half.work in
    let left : List FileName = files_left half.work in
    let from : Turns tells t plan old.normal.plan old.work.program.cuts (old.noted.items ++ on.ids) r left then.ids (opened_rewriting new.work) (files_left new.work) then.bytes =
    subst (λ (out : List ℕ). Turns tells t plan old.normal.plan old.work.program.cuts out r left then.ids (opened_rewriting new.work) (files_left new.work) then.bytes) on.noted
    (subst (λ (p : Program). Turns tells t plan old.normal.plan p.cuts half.noted.items r left then.ids (opened_rewriting new.work) (files_left new.work) then.bytes) on.program
    (subst (λ n. Turns tells t plan n.plan half.work.program.cuts half.noted.items r left then.ids (opened_rewriting new.work) (files_left new.work) then.bytes) on.normal then.turns)) in
    let before : half.before ≡ min (old.before + on.bytes) (2 ^ 64 - 1) = on.before in
    let after : new.before ≡ min (half.before + then.bytes) (2 ^ 64 - 1) = then.before in
    let first = on.passed_is in
    let second = then.passed_is in
    record {
      program = then.program ∙ on.program;
      normal = then.normal ∙ on.normal;
      ids = on.ids ++ then.ids;
      noted = then.noted ∙ ap (λ (l : List ℕ). l ++ then.ids) on.noted ∙ append_assoc old.noted.items on.ids then.ids;
      bytes = on.bytes + then.bytes;
      turns = turns-then tells t plan old.normal.plan old.work.program.cuts old.noted.items (opened_rewriting old.work) (files_left old.work) on.ids r left on.bytes then.ids (opened_rewriting new.work) (files_left new.work)
          then.bytes on.turns from;
      before = (let sum : new.before ≡ min (old.before + (on.bytes + then.bytes)) (2 ^ 64 - 1) = omega (arith, before, after) in sum);
      passed = on.passed + then.passed;
      passed_is = omega (arith, first, second);
    }

-- a job that is as before
abbrev pub goes-as-before : (tells : Bool) (t : Table) (plan : PlainPlan) (old new : JobWork) → IsJob t plan old → IsAsBefore old new → GoesOn tells t plan old new
goes-as-before tells t plan old new is still =
    let left : files_left new.work ≡ files_left old.work = ap left_in still.parts in
    let same : opened_rewriting new.work ≡ opened_rewriting old.work = rewriting-same old.work new.work still.same in
    let bytes : bytes_read t new.work ≡ bytes_read t old.work = (λ i. bytes_named t (files_of (same i)) - bytes_named t (left i)) in
    let cut : old.before ≡ min old.before (2 ^ 64 - 1) = is.cut in
    let before : new.before ≡ old.before = still.before in
    record {
      program = still.same.program;
      normal = still.normal;
      ids = [];
      noted = ap (λ v. v.items) still.noted ∙ sym (append-nil old.noted.items);
      bytes = 0;
      turns = ([], same, sym left, refl);
      before = (let sum : new.before ≡ min (old.before + 0) (2 ^ 64 - 1) = omega (arith, before, cut) in sum);
      passed = 0;
      passed_is = omega (arith, bytes);
    }

-- one more of its files is read
abbrev pub goes-one : (tells : Bool) (t : Table) (plan : PlainPlan) (old new : JobWork) → IsJob t plan old → (one : ReadsOne old new) → GoesOn tells t plan old new
goes-one tells t plan old new is one =
    let same : opened_rewriting new.work ≡ opened_rewriting old.work = rewriting-same old.work new.work one.same in
    let more = read-more t plan (leaving_out old.noted.items t) old.work new.work same is.is_open one.name one.next in
    let cut : old.before ≡ min old.before (2 ^ 64 - 1) = is.cut in
    let before : new.before ≡ old.before = one.before in
    record {
      program = one.same.program;
      normal = one.normal;
      ids = [];
      noted = ap (λ v. v.items) one.noted ∙ sym (append-nil old.noted.items);
      bytes = 0;
      turns = (one.name ∷ [], same, one.next, refl);
      before = (let sum : new.before ≡ min (old.before + 0) (2 ^ 64 - 1) = omega (arith, before, cut) in sum);
      passed = (file_at t one.name).len;
      passed_is = omega (arith, more);
    }

-- the next one is that of a result that is noted
abbrev pub goes-noted : (tells : Bool) (t : Table) (plan : PlainPlan) (id given : ℕ) (old new : JobWork) → IsJob t plan old → NotesNext t plan id given old new → (IsTrue tells → given ≤ (file_at t (Result id)).len) → GoesOn tells t plan old new
goes-noted tells t plan id given old new is next few =
    let r : PlainRewriting = opened_rewriting old.work in
    let names = is.is_open.names in
    let fresh = next.notes.fresh in
    let front : bytes_read t old.work ≡ bytes_named t names = read-front t (files_of r) names (files_left old.work) is.is_open.rest in
    let none : bytes_read t new.work ≡ 0 = none-read t new.work fresh.unread in
    let before : new.before ≡ min (old.before + bytes_read t old.work + given) (2 ^ 64 - 1) = next.notes.before in
    let bytes : ℕ = bytes_read t old.work + given in
    record {
      program = fresh.program_is;
      normal = next.notes.normal;
      ids = id ∷ [];
      noted = next.notes.noted;
      bytes = bytes;
      turns = (
        bytes,
        0,
        opened_rewriting new.work,
        record {
          before = names;
          others = next.others;
          names = is.is_open.rest ∙ ap (λ (l : List FileName). names ++ l) next.next;
          more = [];
          here = next.next;
          given = given;
          few = few;
          bytes_are = ap (λ (n : ℕ). n + given) front;
        },
        subst (λ (ids : List ℕ). IsTaken (leaving_out ids t) plan old.normal.plan old.work.program.cuts (opened_rewriting new.work)) next.notes.noted fresh.taken,
        ([], refl, sym fresh.unread, refl),
        omega arith,
      );
      before = (let sum : new.before ≡ min (old.before + (bytes_read t old.work + given)) (2 ^ 64 - 1) = omega (arith, before) in sum);
      passed = given;
      passed_is = omega (arith, none);
    }
