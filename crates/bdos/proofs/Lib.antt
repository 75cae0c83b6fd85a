pub mod Trees
pub mod Chains
pub mod Parts
pub mod Runs
pub mod Unready
pub mod Needs
pub mod Numbers
