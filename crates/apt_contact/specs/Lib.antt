pub mod Meetings
pub mod Contacts
