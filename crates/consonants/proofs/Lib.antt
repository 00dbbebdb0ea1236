pub mod Following
pub mod SoundTable
