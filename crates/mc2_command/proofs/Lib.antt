pub mod Answered
pub mod Files
pub mod FormsTaken
pub mod TableTaken
