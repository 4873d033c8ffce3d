-- The texts of replies and of error lines; each is a line.
use Rattle.std.specs.Prelude.{ℕ, suc, List, [], ◌∷◌, ◌++◌, flat_map, ◌==◌, if◌then◌else◌, codes, decimal, ℤ, pos, negsuc}
use Rattle.h5w_model.specs.declared.reply.Reply.{Reply}
use Rattle.h5w_model.specs.declared.reply.Reply.TheVariants.{Appended, Flushing, Written, Busy, Stopped, OutOfRange, FullChunks, FullSpace, Deep, Opening, Refreshing, Reading, Rows, Values, Again, Looking, Idle, ReaderBusy, NoReader, ReaderExists, OutOfRows}

-- a space and a number behind it
abbrev pub spaced : ℕ → List ℕ
spaced n = 32 ∷ decimal n

-- a space and a value behind it
abbrev pub spaced_value : ℤ → List ℕ
spaced_value (pos n) = 32 ∷ decimal n
spaced_value (negsuc n) = 32 ∷ 45 ∷ decimal (suc n)

abbrev pub of_reader : ℕ → List ℕ → List ℕ
of_reader r rest = codes "reader" ++ spaced r ++ rest

-- the text of a reply, without the byte 0a that ends it
abbrev pub reply_words : Reply → List ℕ
reply_words (Appended rows pending) = codes "appended" ++ spaced rows ++ (if pending == 0 then [] else codes " pending" ++ spaced pending)
reply_words (Flushing pieces) = codes "flushing" ++ spaced pieces
reply_words (Written pieces pending) = codes "written" ++ spaced pieces ++ codes " pending" ++ spaced pending
reply_words (Busy pending) = codes "busy" ++ spaced pending
reply_words Stopped = codes "stopped"
reply_words (OutOfRange index value) = codes "outofrange" ++ spaced index ++ spaced_value value
reply_words (FullChunks chunks limit) = codes "full chunks" ++ spaced chunks ++ spaced limit
reply_words (FullSpace at size limit) = codes "full space" ++ spaced at ++ spaced size ++ spaced limit
reply_words Deep = codes "deep"
reply_words (Opening reader) = of_reader reader (codes " open")
reply_words (Refreshing reader) = of_reader reader (codes " refresh")
reply_words (Reading reader) = of_reader reader (codes " read")
reply_words (Rows reader rows) = of_reader reader (codes " rows" ++ spaced rows)
reply_words (Values reader values) = of_reader reader (codes " values" ++ flat_map spaced_value values)
reply_words (Again reader attempts) = of_reader reader (codes " again" ++ spaced attempts)
reply_words (Looking reader) = of_reader reader (codes " looking")
reply_words (Idle reader) = of_reader reader (codes " idle")
reply_words (ReaderBusy reader) = of_reader reader (codes " busy")
reply_words (NoReader reader) = of_reader reader (codes " none")
reply_words (ReaderExists reader) = of_reader reader (codes " exists")
reply_words (OutOfRows reader from count rows) = of_reader reader (codes " outofrows" ++ spaced from ++ spaced count ++ spaced rows)

abbrev pub reply_text : Reply → List ℕ
reply_text reply = reply_words reply ++ 10 ∷ []
