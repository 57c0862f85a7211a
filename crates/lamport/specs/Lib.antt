pub mod KLamport
pub mod Laws
