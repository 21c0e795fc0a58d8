-- What stands is kept by runs that change no file.
use Rattle.std.proofs.Common.{ℕ, List, arith}
use Rattle.outside_traits.specs.View.{View, Now, IsImageAt}
use Rattle.outside_traits.specs.Runs.{Narrows}
use Rattle.outside_traits.proofs.RunLemmas.{spans_on, spans_narrowed, image_has}
use Rattle.catalog_core.specs.Table.{Table}
use Rattle.journal_store.specs.declared.journal.Journal.{Journal}
use Rattle.folder.specs.State.{State}
use Rattle.folder.specs.Sound.{Care, IsSound}
use Rattle.folder.specs.Left.{IsSoundForOneOf, IsLeft, Everything, Since, StaysSound}
use Rattle.folder.specs.Standing.{Stands, Means}
use Rattle.folder.proofs.Frames.{sound_same, stands_same}

module _ (u v : View) (narrow : Narrows u v) where
  now_before : (g : ℕ) (x : List ℕ) → Now v g x → Now u g x
  now_before g x now = narrow.each v.moment g x narrow.time.later (omega arith) now

  image_before : (image : ℕ → List ℕ) → IsImageAt v v.moment image → IsImageAt u u.moment image
  image_before image is = λ g. now_before g (image g) (is g)

  pub left_narrowed : (care : Care) (a b : State) → IsLeft care u a b → IsLeft care v a b
  left_narrowed care a b left = record {
    apart = left.apart;
    read = sound_same care u.files v.files a left.read (λ g speaks. narrow.same g);
    images = λ image is. left.images image (image_before image is);
  }

  pub stands_narrowed : (t : Table) (journal : Journal) → Stands u t journal → Stands v t journal
  stands_narrowed t journal stands = stands_same u v t journal (λ g x log now. now_before g x now) (λ g log. narrow.same g) stands

  pub means_narrowed : (care : Care) (t : Table) (journal : Journal) (s : State) → Means care u t journal s → Means care v t journal s
  means_narrowed care t journal s means = record {
    table_is = means.table_is;
    stands = stands_narrowed t journal means.stands;
    valid = means.valid;
    settled = λ image is. means.settled image (image_before image is);
  }

  pub stays_narrowed : (care : Care) (t : Table) (journal : Journal) (s : State) → Means care u t journal s → StaysSound care s u v
  stays_narrowed care t journal s means = spans_narrowed Everything (λ image. IsSound care image s) u v narrow means.settled

  pub since_narrowed : (care : Care) (a b : State) (t : View) → Since care a b t u → Since care a b t v
  since_narrowed care a b t since = spans_on Everything (IsSoundForOneOf care a b) t u v since
      (spans_narrowed Everything (IsSoundForOneOf care a b) u v narrow (image_has Everything (IsSoundForOneOf care a b) t u since))
