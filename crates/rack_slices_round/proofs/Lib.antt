pub mod Lending
pub mod Places
pub mod Rounds
pub mod Turns
pub mod Wide
pub mod Within
pub mod Working
