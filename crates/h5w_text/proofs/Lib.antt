mod StreamLemmas
mod ValueLemmas
mod TableLemmas
mod HexLemmas
