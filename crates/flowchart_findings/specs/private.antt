pub mod FindingViews
pub mod PlaceViews
pub mod SetViews
pub mod StatementViews
pub mod UseViews
