use Rattle.work_plan.proofs.FitPlaces.{places-fit, made-places-fit}
use Rattle.work_plan.proofs.laws.places_of_fit_plans.Goals as goal

pub returns : goal.returns
returns c = record { places = places-fit; made = made-places-fit }
