pub mod OldState
pub mod NewState
