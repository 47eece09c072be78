pub mod Stops
pub mod StopsLaws
pub mod Judgements
pub mod Holding
pub mod Laws
pub mod Stopping
pub mod Judging
