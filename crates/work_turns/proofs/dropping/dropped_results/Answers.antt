use Rattle.std.proofs.Common.{◌≡◌, sym, ap, ◌∙◌, [], ◌∷◌, ◌++◌, cond, Bool, take, append-nil}
use Rattle.catalog_types.specs.PlainEntry.{PlainEntry}
use Rattle.entry_table.specs.Ids.{is_among}
use Rattle.work_turns.specs.Ends.{files_among, those_among}
use Rattle.work_turns.proofs.Dropped.{among-more}
use Rattle.work_turns.proofs.dropping.dropped_results.Goals.{then-is_among+in_ok-push+in_ok-push-2, else-is_among}
use Rattle.work_turns.proofs.dropping.dropped_results.Goals as goal

pub loop-entry-preserved : goal.loop-entry-preserved
loop-entry-preserved c =
    let gone = c.args.lost.now in
    let es = c.args.entries.now in
    let i = c.loop-entry.entry-index in
    let e = c.entry-item.result in
    let id_is : c.entry.inside.id ≡ e.id = ap (λ (x : PlainEntry). x.id) c.entry.view_is in
    let file_is : c.entry.inside.file.file ≡ e.file.file = ap (λ (x : PlainEntry). x.file.file) c.entry.view_is in
    let among = ap (is_among gone) (sym id_is) ∙ sym c.is_among.ensures in
    let ids = among-more (λ (x : PlainEntry). x.id) gone es i e c.loop-entry-test.true c.entry-item.is in
    let files = among-more (λ (x : PlainEntry). x.file.file) gone es i e c.loop-entry-test.true c.entry-item.is in
    elim c.if-is_among.branch [
      | then-is_among+in_ok-push+in_ok-push-2 w ↦ record {
        ids =
            ap (λ v. v.items) w.ids-is ∙ w.in_ok-push.ensures.items ∙ (λ j. c.loop-entry.invariant.ids j ++ id_is j ∷ [])
            ∙ sym (ids ∙ ap (λ (b : Bool). those_among gone (take i es) ++ cond b (e.id ∷ []) []) (among ∙ w.if-is_among.true));
        files =
            ap (λ v. v.items) w.files-is ∙ w.in_ok-push-2.ensures.items ∙ (λ j. c.loop-entry.invariant.files j ++ file_is j ∷ [])
            ∙ sym (files ∙ ap (λ (b : Bool). files_among gone (take i es) ++ cond b (e.file.file ∷ []) []) (among ∙ w.if-is_among.true));
      }
      | else-is_among w ↦ record {
        ids =
            ap (λ v. v.items) w.ids-is ∙ c.loop-entry.invariant.ids ∙ sym (append-nil (those_among gone (take i es)))
            ∙ sym (ids ∙ ap (λ (b : Bool). those_among gone (take i es) ++ cond b (e.id ∷ []) []) (among ∙ w.if-is_among.false));
        files =
            ap (λ v. v.items) w.files-is ∙ c.loop-entry.invariant.files ∙ sym (append-nil (files_among gone (take i es)))
            ∙ sym (files ∙ ap (λ (b : Bool). files_among gone (take i es) ++ cond b (e.file.file ∷ []) []) (among ∙ w.if-is_among.false));
      }
    ]
