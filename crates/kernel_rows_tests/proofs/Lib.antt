pub mod KeptAfter
