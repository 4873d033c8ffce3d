-- The blocks of the code as the definitions' records.
use Rattle.std.specs.Prelude.{List}
use Rattle.h5w_model.specs.Trees.{BthdFields, RecordFields, BtinFields}
use Rattle.h5w_bt.specs.declared.header.Bthd.{Bthd}
use Rattle.h5w_bt.specs.declared.leaf.Btlf.{Btlf}
use Rattle.h5w_bt.specs.declared.inner.Btin.{Btin}

abbrev pub bthd_of : Bthd → BthdFields
bthd_of t = record { depth = t.depth; root = t.root; records = t.records; total = t.total }

abbrev pub btlf_of : Btlf → List RecordFields
btlf_of t = t.records

abbrev pub btin_of : Btin → BtinFields
btin_of t = record { records = t.records; children = t.children }
