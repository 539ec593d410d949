-- What is proved of walks: first of traces alone, then of each form of a rule, then of the whole.
pub mod Cases
pub mod Traces
pub mod Right
pub mod Rounds
pub mod Walk
-- What is proved of answers and listings: where a run stops, what is new, and the demands.
pub mod Members
pub mod Places
pub mod Runs
pub mod Newness
pub mod Views
pub mod FirstEnds
pub mod Matches
pub mod Readings
pub mod Listings
pub mod Agreements
pub mod Settled
pub mod Steps
-- What loops over the starts keep.
pub mod Loops
-- What is proved of explanations: lists of failures, the misses of walks, and that they are what is told.
pub mod Failures
pub mod Misses
pub mod Explanations
-- What is proved of successive matches: a search, and one after another.
pub mod Searches
pub mod Scans
pub mod ScanSteps
pub mod SettledScans
pub mod ScanLoops
-- What is proved of the calls.
pub mod Refusals
pub mod Rows
pub mod Areas
pub mod Calls
pub mod MatchCalls
pub mod ListCalls
pub mod ScanCalls
pub mod AgreeingCalls
pub mod ExplainCalls
pub mod SettledCalls
-- What is proved of proposed readings: following a path, the check, the call, and the way back.
pub mod Following
pub mod Laps
pub mod Checks
pub mod CheckCalls
pub mod Proposing
-- What is proved of a day's lines: the split, and the calls.
pub mod Lines
pub mod LentAreas
pub mod Parts
pub mod Batches
pub mod SettledBatches
pub mod LinesApart
pub mod LinesInTurn
-- What is proved of least lengths and of the depot profile.
pub mod Lengths
pub mod Profiles
-- What is proved of larger budgets: what they lengthen, and the calls.
pub mod Budgets
pub mod BudgetsOfCalls
