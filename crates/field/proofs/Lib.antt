pub mod Sum
pub mod Ring
pub mod Power
pub mod TableRules
