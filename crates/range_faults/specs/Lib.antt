pub mod EntryFaults
pub mod FileFaults
pub mod private
