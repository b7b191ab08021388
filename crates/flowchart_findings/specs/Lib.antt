pub mod Carries
pub mod ClosedExits
pub mod Findings
pub mod NeverExecuted
pub mod Places
pub mod Texts
pub mod Uses
pub mod private
