mod Lawful
mod Steps
