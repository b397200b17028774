pub mod Bill
pub mod Laws
