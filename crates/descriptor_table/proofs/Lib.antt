-- `ReplyLaws`, what a reply and the numbers after it come to; `Sequences`, calls one after the other, and `Witnessed`, one such; `Unique`,
-- that a promise leaves one result.
pub mod ReplyLaws
pub mod Sequences
pub mod Unique
pub mod Witnessed
