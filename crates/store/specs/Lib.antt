-- The store of nodes, what finding or adding one and building over it answer, and the memo beside it.
pub mod Store
pub mod Building
pub mod Placing
pub mod Memo
