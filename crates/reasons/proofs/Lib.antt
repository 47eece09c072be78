pub mod ReasonsLaws
pub mod HoldersLaws
pub mod UsesLaws
pub mod Using
pub mod TheoremsUses
pub mod TheoremsWho
pub mod Cases
