pub mod DetailViews
pub mod FoundViews
pub mod SiteViews
pub mod StopViews
