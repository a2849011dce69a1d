pub mod Causes
pub mod Complete
pub mod Forms
pub mod Outside
pub mod Ran
pub mod View
pub mod Words
