-- A generator that begins with a later state gives the later draws.
use Prim.Native.Nat.{zero, suc}
use Rattle.std.proofs.Common.{◌≡◌, refl, ap, ◌∙◌, sym, ℕ, ◌+◌, ◌*◌, ◌%◌, ◌^◌, ◌/◌, ◌<◌, add-zero, add-suc, add_assoc, add_comm}
use Rattle.std.proofs.Math.Nat.{mod-add-mod}
use Rattle.std.proofs.lemmas.Nat.{mod_below}
use Rattle.workload_gen.specs.Draws.{next_state, state_after, draw}

pub state_after-later : (number first more : ℕ) → state_after (state_after number first) more ≡ state_after number (first + more)
unfolding state_after
state_after-later number first zero = ap (state_after number) (sym (add-zero first))
state_after-later number first (suc more) = ap next_state (state_after-later number first more) ∙ ap (state_after number) (sym (add-suc first more))

pub draw-later : (number first at bound : ℕ) → draw (state_after number first) at bound ≡ draw number (first + at) bound
unfolding draw
draw-later number first at bound =
    ap (λ s. s / 2 ^ 33 % bound) (state_after-later number first (at + 1) ∙ ap (state_after number) (sym (add_assoc first at 1)))

-- the step of the code, which wraps behind the product and behind the sum
pub state_after-one : (state : ℕ) → (state * 6364136223846793005 % 18446744073709551616 + 1442695040888963407) % 18446744073709551616 ≡ state_after state 1
unfolding state_after
state_after-one state = mod-add-mod (state * 6364136223846793005) 18446744073709551616 1442695040888963407

pub draw-one : (state bound : ℕ) →
    (state * 6364136223846793005 % 18446744073709551616 + 1442695040888963407) % 18446744073709551616 / 8589934592 % bound ≡ draw state 0 bound
unfolding draw
draw-one state bound = ap (λ s. s / 8589934592 % bound) (state_after-one state)

pub draw-small : (number at bound : ℕ) → 0 < bound → draw number at bound < bound
unfolding draw
draw-small number at bound some = mod_below (state_after number (at + 1) / 2 ^ 33) bound some

-- some draws more
pub state_after-more : (number at more all state later : ℕ) → state ≡ state_after number at → later ≡ state_after state more → at + more ≡ all →
    later ≡ state_after number all
state_after-more number at more all state later before behind sum =
    behind ∙ ap (λ s. state_after s more) before ∙ state_after-later number at more ∙ ap (state_after number) sum

pub state_after-none : (number : ℕ) → number ≡ state_after number 0
unfolding state_after
state_after-none number = refl

pub draw-here : (number at bound state : ℕ) → state ≡ state_after number at → draw state 0 bound ≡ draw number (0 + at) bound
draw-here number at bound state is = ap (λ s. draw s 0 bound) is ∙ draw-later number at 0 bound ∙ ap (λ n. draw number n bound) (add_comm at 0)
