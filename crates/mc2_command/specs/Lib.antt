pub mod Answers
pub mod Asked
pub mod Faults
pub mod Forms
pub mod Printed
pub mod Refused
pub mod Table
