-- What the functions over a cut table and a node table promise.
pub mod Reading
pub mod Without
