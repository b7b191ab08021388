pub mod FaultViews
