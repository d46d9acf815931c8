pub mod Asked
pub mod Replying
pub mod Answering
pub mod Offers
pub mod Groups
pub mod JoinQuestions
pub mod Wanted
pub mod Taken
