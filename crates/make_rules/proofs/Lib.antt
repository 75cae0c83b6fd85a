pub mod TextLemmas
pub mod SignLemmas
pub mod ReadingLemmas
pub mod NamePaths
pub mod RunPaths
pub mod PlacePaths
