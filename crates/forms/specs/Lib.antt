pub mod Forms
pub mod Printed
