use Rattle.plan_text.proofs.Whole.{plan_reading, large_reading, none_reading, reading_plan, reading_large, reading_none}
use Rattle.plan_text.proofs.Texts.{plan_texts}
use Rattle.plan_text.proofs.plan_laws.texts_are_read.Goals as goal

pub returns-clause-plan : goal.returns-clause-plan
returns-clause-plan c text p = (reading_plan plan_texts text p, plan_reading plan_texts text p)

pub returns-clause-large : goal.returns-clause-large
returns-clause-large c text what = (reading_large plan_texts text what, large_reading plan_texts text what)

pub returns-clause-none : goal.returns-clause-none
returns-clause-none c text = (reading_none plan_texts text, none_reading plan_texts text)
