pub mod Calls
pub mod Handed
pub mod Asked
pub mod ServerCalls
pub mod Accession
pub mod Sheets
