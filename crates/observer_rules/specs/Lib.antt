-- Rules 4: the observer.
pub mod Observer
pub mod Claims
