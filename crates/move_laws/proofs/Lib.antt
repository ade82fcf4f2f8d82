pub mod MoveLaws
pub mod FileLaws
pub mod EndLaws
pub mod StartLaws
