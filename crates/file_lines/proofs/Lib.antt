pub mod Fronts
pub mod RightSides
pub mod RuleLines
pub mod Written
