pub mod Ledger
pub mod PreparedCalls
pub mod Preparing
pub mod Runs
pub mod Sets
pub mod Tables
pub mod Trials
