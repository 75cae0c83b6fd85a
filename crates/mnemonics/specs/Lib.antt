pub mod Mnemonics
