-- What a start's walk leaves of the starts, and the nodes on a straight way.
pub mod Starts
pub mod Straight
