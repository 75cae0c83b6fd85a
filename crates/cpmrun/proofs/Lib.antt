mod Carrying
mod Choosing
mod Streaming
mod Targets
mod Unmetered
mod Writing
