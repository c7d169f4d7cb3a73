pub mod DeclCover
pub mod DeclSound
pub mod FirstKinds
pub mod Called
