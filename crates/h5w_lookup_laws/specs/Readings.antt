-- What the files with a tree show.
use Rattle.std.specs.Prelude.{ℕ, true, false, List, None, codes}
use Rattle.h5w_model.specs.Datasets.{Described}
use Rattle.h5w_model.specs.Tables.{Reading}
use Rattle.h5w_model.specs.Findings.{Summary}
use Rattle.h5w_model.specs.declared.cell.Key.{Key}
use Rattle.h5w_model.specs.declared.cell.IndexKind.TheVariants.{Tree}

-- the dataset's name
abbrev pub data_name : List ℕ
data_name = codes "data"

abbrev pub key_of : ℕ → ℕ → Key
key_of row column = record { i = row; j = column }

-- three rows of two 8-bit integers, one of them in a chunk, and a tree whose header is at 206
abbrev pub described_as : Described
described_as = record {
  shape = record { rank = 2; rows = 3; cols = 2; growing = true };
  int_type = record { size = 1; big = false; signed = true };
  fill = record { value = None };
  layout = record { chunk_rows = 1; chunk_cols = 1; index = Tree; address = 206; place = 15 };
}

-- such a dataset, with the addresses of its chunks
abbrev pub reading_as : List ℕ → Reading
reading_as addresses = record { place = 106; dataset = described_as; table = addresses }

abbrev pub summary_as : ℕ → ℕ → Summary
summary_as used address = record { rows = 3; chunks = 5; blocks = used; end = address; lost = 0 }
