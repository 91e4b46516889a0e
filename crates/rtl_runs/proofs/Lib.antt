mod PortValues
mod Edges
mod Driving
