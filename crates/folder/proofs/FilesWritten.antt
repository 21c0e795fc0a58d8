-- Files that are written one behind the other.
use Rattle.std.proofs.Common.{◌≡◌, ◌≢◌, ◌∙◌, subst, ℕ, ◌+◌, ◌-◌, ◌<◌, ◌≤◌, List, [], ◌∷◌, length, get_or, take, drop, Ok, Err, Result, OnOk, arith}
use Rattle.std.proofs.lemmas.List.{take_all}
use Rattle.outside_traits.specs.Runs.{ChangesOnly}
use Rattle.outside_traits.specs.View.{View, Now, Only}
use Rattle.outside_traits.proofs.RunLemmas.{spans_none, spans_of, spans_on, spans_wider}
use Rattle.folder.specs.Left.{Everything, IsSettled, StaysSound}
use Rattle.folder.specs.Sound.{Care, IsSound}
use Rattle.folder.specs.State.{State}
use Rattle.folder.specs.Written.{AreWritten, IsFrom, ChangesFrom}

-- ---- what a crash leaves

pub stays_none : (care : Care) (v : View) (s : State) → IsSettled care v s → StaysSound care s v v
stays_none care v s settled = spans_none Everything (λ image. IsSound care image s) v settled

pub stays_on : (care : Care) (u v w : View) (s : State) → StaysSound care s u v → StaysSound care s v w → StaysSound care s u w
stays_on care u v w s first then = spans_on Everything (λ image. IsSound care image s) u v w first then

-- ---- which files are changed

pub changes_none : (first : ℕ) (v : View) → ChangesFrom first v v
changes_none first v = spans_none (IsFrom first) (λ image. Unit {0}) v (λ image is. tt)

pub changes_one : (n ahead : ℕ) (u v : View) → n + ahead < 4294967296 → ChangesOnly (n + ahead) u v → ChangesFrom (n + ahead) u v
changes_one n ahead u v room run =
    spans_of (n + ahead) (λ x. Unit {0}) (IsFrom (n + ahead)) (λ image. Unit {0}) u v run (omega arith, room) (λ image here others. tt)

pub changes_on : (n ahead : ℕ) (u v w : View) → n + ahead < 4294967296 → ChangesOnly (n + ahead) u v → ChangesFrom (n + (ahead + 1)) v w → ChangesFrom (n + ahead) u w
changes_on n ahead u v w room first then =
    spans_on (IsFrom (n + ahead)) (λ image. Unit {0}) u v w (changes_one n ahead u v room first)
    (spans_wider (IsFrom (n + (ahead + 1))) (IsFrom (n + ahead)) (λ image. Unit {0}) (λ image. Unit {0}) v w then
    (λ file is. let later = is.0 in (omega (arith, later), is.1)) (λ image any others. tt))

-- ---- what they hold

pub written_on : {T E : Type 0} (v w : View) (n ahead : ℕ) (bytes : List ℕ) (others : List (List ℕ)) → Only bytes (Now v (n + ahead)) → ((file : ℕ) (held : List ℕ) → file < n + (ahead + 1) → Only held (Now v file) → Only held (Now w file))
    → (result : Result T E) → OnOk result (AreWritten w (n + (ahead + 1)) others) → OnOk result (AreWritten w (n + ahead) (bytes ∷ others))
written_on v w n ahead bytes others only stays (Ok x) rest =
    let next : n + (ahead + 1) ≡ n + ahead + 1 = omega arith in (stays (n + ahead) bytes (omega arith) only, subst (λ (file : ℕ). AreWritten w file others) next rest)
written_on v w n ahead bytes others only stays (Err e) rest = tt

-- the files behind the first one, as a slice
abbrev pub behind : List (List ℕ) → List (List ℕ)
behind files = take (length files - 1) (drop 1 files)

behind_is : (bytes : List ℕ) (others : List (List ℕ)) → behind (bytes ∷ others) ≡ others
behind_is bytes others = take_all (length (bytes ∷ others) - 1) others (omega arith)

-- the first of them, and those behind it
pub written_all : {T E : Type 0} (v w : View) (n ahead : ℕ) (first : List ℕ) (files : List (List ℕ)) → 1 ≤ length files → first ≡ get_or files 0 first → Only first (Now v (n + ahead))
    → ((file : ℕ) (held : List ℕ) → file < n + (ahead + 1) → Only held (Now v file) → Only held (Now w file))
    → (result : Result T E) → OnOk result (AreWritten w (n + (ahead + 1)) (behind files)) → OnOk result (AreWritten w (n + ahead) files)
written_all v w n ahead first [] some is only stays result rest = absurd (omega (arith, some))
written_all v w n ahead first (bytes ∷ others) some is only stays result rest =
    written_on v w n ahead bytes others (subst (λ (b : List ℕ). Only b (Now v (n + ahead))) is only) stays result
    (subst (λ (l : List (List ℕ)). OnOk result (AreWritten w (n + (ahead + 1)) l)) (behind_is bytes others) rest)

-- a file before them holds what it held
pub before_on : (u v w : View) (n ahead file : ℕ) (held : List ℕ) → file < n + ahead → ((other : ℕ) (h : List ℕ) → other ≢ n + ahead → Only h (Now u other) → Only h (Now v other))
    → ((other : ℕ) (h : List ℕ) → other < n + (ahead + 1) → Only h (Now v other) → Only h (Now w other)) → Only held (Now u file) → Only held (Now w file)
before_on u v w n ahead file held early first then only = then file held (omega (arith, early)) (first file held (λ (same : file ≡ n + ahead). omega (arith, same, early)) only)

pub counted_on : {T E : Type 0} (result : Result T E) (a b c : ℕ) → b ≡ a → OnOk result (c ≡ b) → OnOk result (c ≡ a)
counted_on (Ok x) a b c first then = then ∙ first
counted_on (Err e) a b c first then = tt
