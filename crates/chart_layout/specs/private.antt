pub mod Drawn
pub mod Statements
pub mod Trees
pub mod Leads
