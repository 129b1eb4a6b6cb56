pub mod EntriesRead
pub mod Found
pub mod SumRun
pub mod WordsBegun
