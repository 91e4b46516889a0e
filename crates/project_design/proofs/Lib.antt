mod Porters
mod Few
mod Blocking
mod Finding
mod Making
mod Instancing
mod Ending
mod Widening
pub mod Porting
mod Linking
mod Placing
mod Topping
