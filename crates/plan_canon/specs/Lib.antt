pub mod Steps
pub mod ExprRules
pub mod PlanRules
pub mod Normal
pub mod Parts
pub mod NormalExpr
pub mod NormalPlan
pub mod Examples
