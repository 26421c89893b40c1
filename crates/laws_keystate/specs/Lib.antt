pub mod Disks
pub mod Starts
pub mod Histories
pub mod Laws
pub mod Calls
pub mod Runs
pub mod RunMoments
pub mod RunLaws
