pub mod KnownRunLemmas
