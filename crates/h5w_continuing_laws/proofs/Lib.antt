mod ClearedLemmas
mod ContinueLemmas
