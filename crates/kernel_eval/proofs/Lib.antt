pub mod Making
pub mod Planning
pub mod Programs
pub mod Sendable
pub mod Sent
pub mod Way
