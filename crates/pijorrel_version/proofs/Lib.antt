pub mod VersionTells
