use Rattle.std.proofs.Common.{◌≡◌, Err, sym, ap, ◌∙◌, subst, inl}
use Rattle.plan_text.specs.PlainNamed.{PlainTree}
use Rattle.plan_text.specs.Answer.{AsPlan, AsTooLarge, AsNone, Means, text_reading}
use Rattle.plan_text.specs.declared.text_refusal.TextRefusal.{TextRefusal}
use Rattle.script_text.specs.RunLine.{limit_of}
use Rattle.script_text.specs.declared.answer.LimitKind.{LimitKind}
use Rattle.script_text.specs.declared.answer.Refusal.TheVariants.{Limit}
use Rattle.script_text.proofs.RunSpelling.{run_of_text-is}
use Rattle.script_text.proofs.run_line.run_of_text.Goals as goal

pub returns-in-Ok-clause-read : goal.returns-in-Ok-clause-read
returns-in-Ok-clause-read c = inl (sym (run_of_text-is c.args.name c.args.text.now (AsPlan c.in-Ok.plan) c.in-Ok.ensures.reading))

pub returns-in-Err-Syntax-clause-read : goal.returns-in-Err-Syntax-clause-read
returns-in-Err-Syntax-clause-read c =
    let reading = subst (λ (r : TextRefusal). Means {A = PlainTree} (λ plan. plan) (Err r) (text_reading c.args.text.now)) c.in-Err-Syntax.field-0-is c.in-Err-Syntax.ensures.reading in
    inl (sym (run_of_text-is c.args.name c.args.text.now AsNone reading))

pub returns-in-Err-Limit-clause-read : goal.returns-in-Err-Limit-clause-read
returns-in-Err-Limit-clause-read c =
    let reading = subst (λ (r : TextRefusal). Means {A = PlainTree} (λ plan. plan) (Err r) (text_reading c.args.text.now)) c.in-Err-Limit.field-0-is c.in-Err-Limit.ensures.reading in
    let kind : c.limit_of.result ≡ limit_of c.in-Err-Limit.what = cc in
    inl (ap (λ (k : LimitKind). Err (Limit k)) kind ∙ sym (run_of_text-is c.args.name c.args.text.now (AsTooLarge c.in-Err-Limit.what) reading))
