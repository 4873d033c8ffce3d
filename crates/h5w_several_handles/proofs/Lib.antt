mod CallLemmas
mod HoldLemmas
mod ListLemmas
mod NameLemmas
mod PieceLemmas
