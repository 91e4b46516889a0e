pub mod Appended
pub mod Printed
pub mod Lines
