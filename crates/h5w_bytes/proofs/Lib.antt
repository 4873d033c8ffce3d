mod Links
mod CountLemmas
