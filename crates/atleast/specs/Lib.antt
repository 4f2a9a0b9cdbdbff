-- What making a row of steps answers, and the steps of at least k.
pub mod Making
pub mod Rules
pub mod AtLeast
