-- A reader, by its parts.
use Rattle.h5w_model.specs.Unfinished.{Reader}
use Rattle.h5w_reader.specs.Readers.{reader_of}
use Rattle.h5w_reader.specs.declared.reader.ReaderCore.{ReaderCore}

abbrev pub reader : ReaderCore → Reader
reader c = reader_of c.name c.attempts c.known c.call
