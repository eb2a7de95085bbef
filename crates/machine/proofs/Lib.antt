pub mod Ends
pub mod Cases
pub mod SeveralCases
