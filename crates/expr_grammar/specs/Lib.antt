pub mod Shortened
pub mod Machine
pub mod Run
pub mod Lines
pub mod Trees
pub mod GrammarLaws
pub mod SpelledTokens
pub mod ReadingBack
