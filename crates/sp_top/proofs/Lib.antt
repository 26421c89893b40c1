pub mod Daemons
pub mod Outputs
pub mod Said
pub mod SaidRuns
pub mod Services
pub mod Whole
pub mod Rules
