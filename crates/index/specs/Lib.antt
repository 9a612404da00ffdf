pub mod Position
pub mod Claim
pub mod Length
pub mod Laws
pub mod Examples
pub mod Width
