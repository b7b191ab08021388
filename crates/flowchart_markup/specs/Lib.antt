pub mod Escapes
pub mod Templates
pub mod Fragments
pub mod TemplateLaws
pub mod private
