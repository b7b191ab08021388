pub mod ExpressionFaults
pub mod FaultLines
pub mod FurtherFaults
pub mod Operands
pub mod RunReasons
pub mod private
