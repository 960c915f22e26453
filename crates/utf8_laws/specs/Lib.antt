pub mod Steps
pub mod Append
pub mod QuotedText
pub mod BlockText
pub mod LiteralText
pub mod Sequence
pub mod Exactly
pub mod AreBytes
