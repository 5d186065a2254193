pub mod DataArea
pub mod Effect
