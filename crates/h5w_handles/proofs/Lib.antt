mod AsBox
mod CopyLemmas
mod HoldLemmas
