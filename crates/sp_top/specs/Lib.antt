pub mod Commands
pub mod Statuses
pub mod Outputs
pub mod Daemons
pub mod Services
pub mod Claims
pub mod Complete
