-- Runs with one step more.
use Rattle.std.proofs.Common.{◌⊎◌, ℕ, List, [], ◌∷◌, ◌++◌, refl, sym, subst, inl, inr}
use Rattle.script_text.specs.declared.answer.Answer.{Answer}
use Rattle.script_text.specs.declared.item.Item.{Item}
use Rattle.folder.specs.Sound.{Care}
use Rattle.session.specs.Machine.{Machine}
use Rattle.nectar_top.specs.Eviction.{Went, WentIn}
use Rattle.nectar_top.specs.Machine.{Step, Run}

pub Run-push : (care : Care) (old mid new : Machine) (commands : List Item) (answers : List Answer) (command : Item) (given : Answer) → Run care old commands answers mid → Step care mid command given new → Run care old (commands ++ command ∷ []) (answers ++ given ∷ []) new
Run-push care old mid new [] [] command given run step = (new, subst (λ m. Step care m command given new) run step, refl)
Run-push care old mid new [] (a ∷ more) command given run step = absurd run
Run-push care old mid new (c ∷ cs) [] command given run step = absurd run
Run-push care old mid new (c ∷ cs) (a ∷ more) command given run step = (run.0, run.1, Run-push care run.0 mid new cs more command given run.2 step)

-- what went in it
pub went_push : (care : Care) (old mid new : Machine) (commands : List Item) (answers : List Answer) (c : Item) (given : Answer) (run : Run care old commands answers mid) (step : Step care mid c given new) (file : ℕ)
    → WentIn care old (commands ++ c ∷ []) (answers ++ given ∷ []) new (Run-push care old mid new commands answers c given run step) file → WentIn care old commands answers mid run file ⊎ Went mid.state new.state file
unfolding Run-push
went_push care old mid new [] [] c given run step file (inl went) = inr (subst (λ (m : Machine). Went m.state new.state file) (sym run) went)
went_push care old mid new [] [] c given run step file (inr none) = absurd none
went_push care old mid new [] (a ∷ more) c given run step file went = absurd run
went_push care old mid new (x ∷ cs) [] c given run step file went = absurd run
went_push care old mid new (x ∷ cs) (a ∷ more) c given run step file (inl went) = inl (inl went)
went_push care old mid new (x ∷ cs) (a ∷ more) c given run step file (inr later) = elim (went_push care run.0 mid new cs more c given run.2 step file later) [
  | inl before ↦ inl (inr before)
  | inr last ↦ inr last
]
