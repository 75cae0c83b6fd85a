pub mod FirstLines
pub mod ChangedLines
pub mod KeyDigits
