pub mod Reading
pub mod Roles
pub mod Shapes
pub mod Stages
