pub mod Next
pub mod Offer
pub mod Trial
