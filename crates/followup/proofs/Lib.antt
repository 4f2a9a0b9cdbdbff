-- Room after room, and the bracket, of a done analysis.
pub mod Rooms
pub mod Tops
pub mod Held
