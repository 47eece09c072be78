pub mod Coverage
pub mod Ends
pub mod Gathering
pub mod GatheringLaws
pub mod Laid
pub mod LaidLaws
pub mod Laws
