mod TreeLemmas
mod ReadingLemmas
