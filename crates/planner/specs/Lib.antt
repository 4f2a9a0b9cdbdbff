-- What the planner's two calls answer: what a judgement says, when each is given, and what is proposed.
pub mod Saying
pub mod Checking
pub mod Judged
pub mod Taking
pub mod Proposing
pub mod Answers
