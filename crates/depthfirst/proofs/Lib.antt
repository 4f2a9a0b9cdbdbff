-- Lists, orders, marks, the recursive walk and first appearance, where a walk stands, the turns of its loop, all walks, numbers,
-- what the one root leads to, and the look for it; how many names an order has; two ways to give the same inputs; and what the answers say
-- of the equations themselves.
pub mod Lists
pub mod Order
pub mod Marks
pub mod Visits
pub mod Meeting
pub mod Standing
pub mod Frames
pub mod Going
pub mod Turns
pub mod Small
pub mod All
pub mod Numbering
pub mod Roots
pub mod Rooting
pub mod Counting
pub mod Agreeing
pub mod Answers
