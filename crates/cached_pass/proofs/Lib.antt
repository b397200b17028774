pub mod Void
