pub mod Scanning
mod Looking
pub mod Trees
pub mod Carried
mod Strings
mod Numbers
mod Leaves
mod Typing
mod Lines
