pub mod Traces
pub mod TraceLaws
pub mod BookTraces
pub mod private
