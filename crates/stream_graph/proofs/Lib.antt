mod Adding
mod Behind
pub mod CallLemmas
pub mod CallerLemmas
mod Constants
pub mod Facts
mod Faulty
mod Finishing
mod Growing
pub mod KindLemmas
mod Meeting
pub mod NamesDiffer
pub mod NodeLemmas
pub mod Numbers
pub mod Reading
mod Rooms
mod Rows
pub mod Steps
mod Taking
