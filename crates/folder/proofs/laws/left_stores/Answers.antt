use Rattle.std.proofs.Common.{◌≡◌, inl, inr, ℕ, List, [], refl, ap, length, arith}
use Rattle.folder.specs.State.{empty_state}
use Rattle.folder.specs.Sound.{Care, IsSound}
use Rattle.folder.proofs.NextStates.{valid-empty}
use Rattle.folder.proofs.Frames.{sound_same}
use Rattle.folder.proofs.Crash.{left_of_means, since_then_stays}
use Rattle.folder.proofs.Loading.{empty_names_none}
use Rattle.folder.proofs.Writing.{users_mean, users_keep}
use Rattle.folder.proofs.Narrowing.{left_narrowed, since_narrowed, means_narrowed, stands_narrowed}
use Rattle.folder.proofs.laws.left_stores.Goals as goal

empty_sound : (care : Care) (image : ℕ → List ℕ) → image 0 ≡ [] → IsSound care image empty_state
empty_sound care image none = record {
  reading = record { generation = 0; bodies = []; logs = inr (record { root = inl (omega (arith, ap length none)); first = refl; none = refl }); replays = (refl, refl) };
  valid = valid-empty;
  holds = λ at bytes names. absurd (empty_names_none empty_state at bytes refl names);
}

pub returns-clause-new : goal.returns-clause-new
returns-clause-new g c = λ care store none. record {
  apart = inl refl;
  read = empty_sound care _ (none 0 _ (g.met.D.Store.reads_outcome store 0));
  images = λ image is. inl (empty_sound care image (none 0 (image 0) (is 0)));
}

pub returns-clause-begun : goal.returns-clause-begun
returns-clause-begun g c = λ care store s only sound. record {
  apart = inl refl;
  read = sound;
  images = λ image is. inl (sound_same care _ image s sound (λ file speaks. only file (image file) (is file)));
}

pub returns-clause-meant : goal.returns-clause-meant
returns-clause-meant g c = λ care store t journal s means. left_of_means care _ t journal s (g.met.D.Store.reads_outcome store) means

pub returns-clause-kept : goal.returns-clause-kept
returns-clause-kept g c = λ care a b before then narrow left. left_narrowed _ _ narrow care a b left

pub returns-clause-since : goal.returns-clause-since
returns-clause-since g c = λ care a b origin before then narrow since. since_narrowed _ _ narrow care a b _ since

pub returns-clause-stays : goal.returns-clause-stays
returns-clause-stays g c = λ care a b origin before then since stays. since_then_stays care a b _ _ _ since stays

pub returns-clause-means : goal.returns-clause-means
returns-clause-means g c = λ care before then t journal s narrow means. means_narrowed _ _ narrow care t journal s means

pub returns-clause-stands : goal.returns-clause-stands
returns-clause-stands g c = λ before then t journal narrow stands. stands_narrowed _ _ narrow t journal stands

pub returns-clause-beside : goal.returns-clause-beside
returns-clause-beside g c = λ care before then t journal s means run.
    (users_mean care _ _ t journal s (g.met.D.Store.reads_outcome before) means run, users_keep care _ _ t journal s (g.met.D.Store.reads_outcome before) means run)
