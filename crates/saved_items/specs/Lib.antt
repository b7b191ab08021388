pub mod SavedBooks
pub mod Fronts
pub mod Texts
pub mod ItemFaults
pub mod WrongItems
pub mod private
