pub mod ChainClauses
pub mod Records
pub mod YearClauses
