pub mod PlaceViews
