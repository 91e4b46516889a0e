pub mod Left
pub mod Going
pub mod Falls
pub mod Fit
pub mod Answers
pub mod Positions
pub mod Followed
pub mod Groups
