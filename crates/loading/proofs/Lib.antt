mod Refusing
mod Escapes
