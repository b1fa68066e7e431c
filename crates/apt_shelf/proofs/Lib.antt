pub mod EntriesLaws
pub mod ReadingLaws
pub mod ToldLaws
