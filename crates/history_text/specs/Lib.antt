pub mod Decimals
pub mod Lines
pub mod Printed
pub mod ReadNumbers
pub mod ReadLines
pub mod Readings
