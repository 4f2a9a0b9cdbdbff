-- What a program may count on after a done analysis: room after room of its cuts, and its bracket.
pub mod Rooms
pub mod Tops
