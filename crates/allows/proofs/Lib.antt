pub mod Places
pub mod Numbers
pub mod Tests
pub mod Bounds
pub mod SlotsAllowed
pub mod AllowedSlots
pub mod ExactLaw
