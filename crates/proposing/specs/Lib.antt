-- What a proposal that is made is: the check accepts it, with the row that it was made for.
pub mod Promises
