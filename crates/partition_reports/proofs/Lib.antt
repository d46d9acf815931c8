pub mod BaseLemmas
pub mod NearLemmas
pub mod ShareLemmas
pub mod SumLemmas
pub mod ChangedBaseLemmas
pub mod ChangeLemmas
pub mod KindLemmas
pub mod ShownLemmas
pub mod MemberLemmas
pub mod SameLemmas
pub mod ShareReportedLemmas
pub mod ReportedLemmas
pub mod ChangeWrongLemmas
pub mod NearMemberLemmas
pub mod TwoLemmas
mod CountLemmas
pub mod PairLawLemmas
pub mod PairWrongLemmas
