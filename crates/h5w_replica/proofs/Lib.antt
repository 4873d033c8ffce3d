mod FeedLemmas
mod FollowLemmas
mod PiecesLemmas
mod PutLemmas
pub mod Sent
