mod PenLemmas
