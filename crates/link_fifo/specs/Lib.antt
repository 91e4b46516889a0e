pub mod Numbers
pub mod Netlist
pub mod Queue
pub mod Storage
pub mod TextNames
pub mod Fifo
