-- Laws of the open leases.
pub mod Leases
