pub mod Numbers
pub mod AdditionsInC
pub mod SilenceInC
