pub mod Behind
pub mod EntryLines
pub mod EntryNames
pub mod ToldCounts
