mod Addresses
pub mod Answering
