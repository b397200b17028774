pub mod Journal
pub mod LawsOf
pub mod Numbered
