mod Following
pub mod WorkerSteps
mod MemberLemmas
pub mod MessageParts
mod PassedOn
pub mod Gathered
mod Loading
mod Going
mod RunLemmas
pub mod Produced
mod Rung
