pub mod Framing
pub mod Fields
pub mod Walk
pub mod RoundTrip
pub mod Writes
