pub mod EntryViews
