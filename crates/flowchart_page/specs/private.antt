pub mod PageViews
pub mod SourceViews
pub mod TableViews
pub mod SiteViews
pub mod Sites
pub mod VerdictViews
