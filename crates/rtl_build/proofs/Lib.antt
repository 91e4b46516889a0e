pub mod Growing
pub mod Porting
pub mod Storing
