pub mod Pushed
pub mod PushedLaws
pub mod Pushing
