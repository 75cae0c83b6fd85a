pub mod KnownRun
