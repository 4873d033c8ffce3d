-- What a file has that is opened, as it is held.
use Rattle.h5w_dataset.specs.Described.{described_of}
use Rattle.h5w_opening.specs.Openings.{DatasetHeaderFields, Opened}
use Rattle.h5w_opening.specs.Fronts.{FrontFields}
use Rattle.h5w_opening.specs.declared.names.Front.{Front}
use Rattle.h5w_opening.specs.declared.finding.DatasetHeader.{DatasetHeader}
use Rattle.h5w_opening.specs.declared.finding.Opening.{Opening}

abbrev pub header_fields_of : DatasetHeader → DatasetHeaderFields
header_fields_of h = record { len = h.len; dataset = described_of h.dataset; in_chunk_0 = h.in_chunk_0 }

abbrev pub opened_of : Opening → Opened
opened_of o = record { root = o.root; place = o.place; header = header_fields_of o.header }

abbrev pub front_fields_of : Front → FrontFields
front_fields_of f = record { root = f.root; places = f.places.items }
