pub mod CountDecisions
pub mod EscapeDecisions
pub mod NestingDecisions
pub mod ReaderViews
pub mod Values
pub mod VerdictDecisions
pub mod Views
