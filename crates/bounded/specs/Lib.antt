pub mod ArrayVecs
