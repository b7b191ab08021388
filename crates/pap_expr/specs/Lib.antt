pub mod Faults
pub mod NodeBytes
pub mod private
