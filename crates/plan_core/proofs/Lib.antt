pub mod ExprLaws
pub mod PlanLaws
pub mod ValueKinds
