pub mod Rows
pub mod Steps
pub mod PasswdText
pub mod HostsText
pub mod GroupText
pub mod MemberLaws
