pub mod Words
pub mod Requests
pub mod CommandLine
pub mod Performing
