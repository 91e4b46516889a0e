pub mod Beds
