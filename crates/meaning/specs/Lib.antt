-- What a tree that a text says keeps: the text's function, and the rules of a tree.
pub mod Said
pub mod Within
pub mod Exported
