use Rattle.std.proofs.Common.{◌≡◌, ◌∷◌, ◌++◌, [], List, length, sym, ap, ◌∙◌, append_assoc, append-nil, arith, rules, length-append}
use Rattle.std.specs.Map.{values_of}
use Rattle.std.proofs.lemmas.List.{length-map}
use Rattle.mem_outside.specs.declared.history.Version.{Version}
use Rattle.mem_outside.specs.History.{shown_at, current_of}
use Rattle.mem_outside.proofs.Histories.{item_at}
use Rattle.mem_outside.proofs.Nearest.{nearest}
use Rattle.mem_outside.proofs.Numbers.{found_next, least_next}
use Rattle.mem_outside.proofs.files.next_from.Goals as goal

pub loop-version-init : goal.loop-version-init
loop-version-init c = ([], search rules, search rules, λ k less low there. absurd (omega (arith, less)))

pub loop-version-preserved : goal.loop-version-preserved
loop-version-preserved c =
    let history = c.args.history.now in
    let files = current_of history in
    let held = c.loop-version.invariant in
    let v : Version = c.in-Some.version.now in
    let more = c.next.new.self in
    let whole : held.0 ++ v ∷ more ≡ values_of history.versions.entries = ap (λ (l : List Version). held.0 ++ l) (sym c.in-Some.ensures.steps) ∙ held.1 in
    let item = item_at history.synced (values_of history.versions.entries) held.0 more v whole in (
      held.0 ++ v ∷ [],
      append_assoc held.0 (v ∷ []) more ∙ whole,
      found_next files c.args.from (length held.0) c.loop-version.next c.nearer-next.result (shown_at history.synced v) c.requires item.1 item.0 held.2 c.nearer-next.ensures.found,
      λ k less. least_next files c.args.from (length held.0) c.loop-version.next c.nearer-next.result (shown_at history.synced v) c.requires item.1 item.0 held.3
          c.nearer-next.ensures.least c.nearer-next.ensures.lower k (omega (arith, less, length-append held.0 (v ∷ []))),
    )

pub returns-clause-bound : goal.returns-clause-bound
returns-clause-bound c = search rules

pub returns-clause-next : goal.returns-clause-next
returns-clause-next c =
    let history = c.args.history.now in
    let held = c.loop-version.invariant in
    let all : held.0 ≡ values_of history.versions.entries = sym (append-nil held.0) ∙ ap (λ (l : List Version). held.0 ++ l) (sym c.in-None.ensures.steps.0) ∙ held.1 in
    nearest (current_of history) c.args.from c.loop-version.next held.2
    (λ k less low there. held.3 k (omega (arith, less, ap length all, length-map (values_of history.versions.entries) (shown_at history.synced))) low there)
