mod Paths
mod WalkLemmas
