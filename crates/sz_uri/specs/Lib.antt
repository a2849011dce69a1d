pub mod Uri
