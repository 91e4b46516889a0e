pub mod Sum3
