pub mod SiteViews
