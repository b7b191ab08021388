pub mod ExprFaults
pub mod Plans
pub mod Sites
pub mod Spots
pub mod private
