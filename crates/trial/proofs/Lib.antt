pub mod Asking
pub mod Made
pub mod Running
pub mod SetLaws
pub mod Standing
pub mod Steps
pub mod Transport
