pub mod Reports
pub mod Reading
pub mod Printed
pub mod Fields
pub mod Stages
pub mod Law
