pub mod Answers
pub mod Replay
pub mod Replies
pub mod Shown
pub mod Stages
pub mod Texts
