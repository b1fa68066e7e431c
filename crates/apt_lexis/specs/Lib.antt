pub mod Causes
pub mod Lines
pub mod Words
pub mod Tokens
pub mod Titles
pub mod Phrase
pub mod Sentences
pub mod Spellings
