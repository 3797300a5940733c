pub mod Views
pub mod Shapes
pub mod Quotas
pub mod Enough
pub mod Within
pub mod Agreed
pub mod CallFacts
pub mod Responses
