pub mod Before
pub mod Bytes
pub mod Computed
pub mod Filling
pub mod Left
pub mod Silent
pub mod Steadiness
pub mod Tabulated
