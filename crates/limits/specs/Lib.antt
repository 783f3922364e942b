-- Values on either side of each limit.
pub mod Limits
