-- The definition: what a reader must believe, in the order of reading. docs/PROMISES.md says how much of it there is.
pub mod Types
pub mod Next
pub mod Messages
pub mod Outcomes
pub mod Actions
pub mod Awaits
pub mod SourcePort
pub mod SoftReset
pub mod NotSupported
pub mod DualRole
pub mod VconnSwap
pub mod States
pub mod Entering
pub mod Refusals
pub mod Answers
pub mod Engine
-- What the types hold, what a log, a run and a promise are
pub mod Held
pub mod Log
pub mod Runs
pub mod Promised
-- The same again, by the paper's numbers: proofs/ shows that the two agree
pub mod Paper
pub mod Marked
pub mod Sentences
pub mod Entries
pub mod Attempts
pub mod Roles
pub mod Feeding
pub mod Former
pub mod Giving
pub mod Flows
pub mod FlowsOfMessages
pub mod FlowsOfSourcePort
pub mod FlowsOfSwaps
pub mod FlowsOfReEntry
pub mod FlowsOfVconn
-- What the code's small values say, inside the engine
pub mod Moves
