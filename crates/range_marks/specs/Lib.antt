pub mod RangeTexts
pub mod RangeMarks
pub mod InternalRanges
pub mod private
