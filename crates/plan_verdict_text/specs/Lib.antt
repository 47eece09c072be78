pub mod PlanPrinted
pub mod Bounds
