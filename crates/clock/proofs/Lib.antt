pub mod Numbers
pub mod Below
