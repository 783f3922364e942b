-- Laws of words and of the room written into, for the crates above.
pub mod Rooms
