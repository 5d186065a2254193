pub mod Ring
pub mod WindowLaws
