-- Laws of the import: the lists that are lent; what is known of the names; rings; first appearances; kinds of gates; the tree;
-- and, on the contracts alone, a tree that is exported and then imported.
pub mod Rings
pub mod Shown
pub mod GateKinds
pub mod Capped
pub mod Knowing
pub mod Trees
pub mod Rules
pub mod Zeros
pub mod Once
pub mod AsTree
pub mod Told
pub mod Again
pub mod Written
