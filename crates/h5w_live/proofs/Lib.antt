pub mod RowLemmas
mod WritingLemmas
mod FlushedLemmas
mod BatchLemmas
mod EndLemmas
mod WriterLemmas
mod RunLemmas
mod ReaderLemmas
mod ReportLemmas
mod MeetLemmas
mod JoinLemmas
mod Sent
mod SecondLemmas
