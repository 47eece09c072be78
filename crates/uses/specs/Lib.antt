pub mod Ends
pub mod Passes
pub mod PassesLaws
pub mod Relying
pub mod Resources
pub mod Sights
pub mod SightsLaws
pub mod Uses
