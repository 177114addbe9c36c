pub mod FormTaken
pub mod Left
