pub mod MetLaws
pub mod NameLaws
pub mod CheckLaws
pub mod SoundLaws
pub mod RefusalLaws
pub mod EachLaws
