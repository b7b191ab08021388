pub mod PaddedBack
