-- What a session of several datasets leaves of its file, in words of the file and of a log.
use Rattle.std.proofs.Common.{◌≡◌, ◌⊎◌, ℕ, suc, ◌+◌, ◌/◌, ◌^◌, ◌≤◌, max, List, [], ◌∷◌, ◌++◌, length, take, ℤ, Option, Ok, refl, sym, ap, ◌∙◌, subst, inl, inr, arith}
use Rattle.std.specs.Prelude.{slice_get, option_map}
use Rattle.std.proofs.lemmas.List.{length-map}
use Rattle.h5w_model.specs.Datasets.{Described}
use Rattle.h5w_model.specs.Findings.{AllSummary, AllValid}
use Rattle.h5w_model.specs.Images.{image}
use Rattle.h5w_model.specs.Logs.{Cutting, appended_in, flushed, flushed_in, hist}
use Rattle.h5w_model.specs.Numbers.{range}
use Rattle.h5w_model.specs.Prefixed.{IsPosition}
use Rattle.h5w_model.specs.Relations.{AllPaired}
use Rattle.h5w_model.specs.Several.{Begun, FileLog, Happened, load_all, log_of, pieces_in, seen_by, shown_in}
use Rattle.h5w_model.specs.Superblock.{super_at}
use Rattle.h5w_model.specs.Tables.{Reads}
use Rattle.h5w_model.specs.declared.piece.Write.{Write}
use Rattle.h5w_model.specs.declared.root.Super.{Super}
use Rattle.h5w_image.specs.View.{DiskState, DiskView}
use Rattle.h5w_space.specs.declared.Full.{Full}
use Rattle.h5w_writer.specs.Sessions.{Session, cleared}
use Rattle.h5w_files.specs.Images.{LeavesFiles, told_bytes}
use Rattle.h5w_batches.specs.Batches.{Batches}
use Rattle.h5w_appending.specs.Puts.{after_puts, writes_of}
use Rattle.h5w_appending.specs.Taken.{values_of}
use Rattle.h5w_appending.specs.Tells.{IsDatasetIn, cut_of}
use Rattle.h5w_appending.proofs.AppendLemmas.{front_of, ok_is}
use Rattle.h5w_appending.proofs.ShutLemmas.{bytes_after}
use Rattle.h5w_text.specs.Streams.{SourceView}
use Rattle.h5w_text.specs.declared.error.ErrorLine.{ErrorLine}
use Rattle.h5w_several_laws.proofs.SeenLemmas.{seen_laws}
use Rattle.h5w_several_open.specs.Beginnings.{HadFlags, HasDatasetBy, root_by, shut_by}
use Rattle.h5w_several_open.proofs.BeginningLemmas.{shut_root}
use Rattle.h5w_several_writer_laws.specs.Bounds.{cuttings_of}
use Rattle.h5w_several_writer_laws.specs.Laws.{PartTells}
use Rattle.h5w_several_writer_laws.specs.Sessions.{Sessions, keeping}
use Rattle.h5w_several_writer_laws.specs.Standing.{StandsAll}
use Rattle.h5w_several_writer_laws.specs.Together.{file_at}
use Rattle.h5w_several_writer_laws.specs.Valid.{names_in}
use Rattle.h5w_several_writer_laws.proofs.GiveLemmas.{standing_all}
use Rattle.h5w_several_writer_laws.proofs.SeenLemmas.{length_pieces}
use Rattle.h5w_several_writer_laws.proofs.TogetherLemmas.{all_names_laws}
use Rattle.h5w_several_open.specs.declared.beginning.Beginning.{Beginning}
use Rattle.h5w_several_appending.specs.Appending.{IsOpenOver, NeedsPlace}
use Rattle.h5w_several_appending.specs.Stores.{Broke, ClosedUp, EachSet, EachTaken, IsEither, IsHalted, IsLogOf, IsSettled, IsStored, OfEachLog, datasets_of}
use Rattle.h5w_several_appending.specs.Taken.{SetBatches}
use Rattle.h5w_several_appending.specs.Tells.{AreLogsOver, EachLogOver, EachReads, Exactly, HasDatasets, Holds, IsBroken, IsClosed, IsWhy, IsWhyBy, LacksPlace, OfEither, OfFile, ShutAgain, cuts_of, of_chunks, of_depth, of_input, of_line, of_memory, of_range, of_room, of_source}

-- ---- The names and the datasets

opened_parts : (S T : Sessions) → ((T ≡ S) ⊎ (T ≡ keeping S)) → T.parts ≡ S.parts
opened_parts S T (inl same) = ap (λ (x : Sessions). x.parts) same
opened_parts S T (inr same) = ap (λ (x : Sessions). x.parts) same

opened_root : (S T : Sessions) → ((T ≡ S) ⊎ (T ≡ keeping S)) → T.root ≡ S.root
opened_root S T (inl same) = ap (λ (x : Sessions). x.root) same
opened_root S T (inr same) = ap (λ (x : Sessions). x.root) same

opened_limit : (S T : Sessions) → ((T ≡ S) ⊎ (T ≡ keeping S)) → T.places.limit ≡ S.places.limit
opened_limit S T (inl same) = ap (λ (x : Sessions). x.places.limit) same
opened_limit S T (inr same) = ap (λ (x : Sessions). x.places.limit) same

named_each : {P : List ℕ → Session → Type 0} (names : List (List ℕ)) (ss : List Session) → ((name : List ℕ) (s : Session) → P name s → s.name ≡ name) → AllPaired P names ss → names_in ss ≡ names
named_each [] [] f h = refl
named_each [] (s ∷ ss) f h = absurd h
named_each (name ∷ names) [] f h = absurd h
named_each (name ∷ names) (s ∷ ss) f h = ap (λ (n : List ℕ). n ∷ names_in ss) (f name s h.0) ∙ ap (λ (ns : List (List ℕ)). name ∷ ns) (named_each names ss f h.1)

first_names : {v : DiskView} {by : Beginning} (name : List ℕ) (names : List (List ℕ)) (limit : ℕ) (first : Sessions) → IsOpenOver by name names limit v first → names_in first.parts ≡ names
first_names name names limit first h = ap names_in (opened_parts h.opened first h.kept.session) ∙ named_each names h.opened.parts (λ n s x. x.named) h.begun.each

first_limit : {v : DiskView} {by : Beginning} (name : List ℕ) (names : List (List ℕ)) (limit : ℕ) (first : Sessions) → IsOpenOver by name names limit v first → first.places.limit ≡ limit
first_limit name names limit first h = opened_limit h.opened first h.kept.session ∙ h.begun.limited

some_names : {v : DiskView} {by : Beginning} (name : List ℕ) (names : List (List ℕ)) (limit : ℕ) (first : Sessions) → IsOpenOver by name names limit v first → 1 ≤ length names
some_names name names limit first h =
    let some = h.begun.sessions.some in
    subst (λ n. 1 ≤ n) (sym (length-map h.opened.parts (λ (s : Session). s.name)) ∙ ap length (named_each names h.opened.parts (λ n s x. x.named) h.begun.each)) some

datasets_in : (by : Beginning) (img : List ℕ) (names : List (List ℕ)) (ss : List Session) → AllPaired (HasDatasetBy by img (length img)) names ss → AllPaired (λ (at : List ℕ) (d : Described). IsDatasetIn by img at d) names (datasets_of ss)
datasets_in by img [] [] h = tt
datasets_in by img [] (s ∷ ss) h = absurd h
datasets_in by img (name ∷ names) [] h = absurd h
datasets_in by img (name ∷ names) (s ∷ ss) h = (record { found = h.0.found; is = h.0.is; unrefused = h.0.unrefused; dataset = sym h.0.dataset }, datasets_in by img names ss h.1)

pub has_datasets : {v : DiskView} {by : Beginning} (name : List ℕ) (names : List (List ℕ)) (limit : ℕ) (first : Sessions) → IsOpenOver by name names limit v first → HasDatasets by name names v (datasets_of first.parts)
has_datasets {by = by} name names limit first h = record {
  there = h.there;
  are = λ img told. subst (λ (ss : List Session). AllPaired (λ (at : List ℕ) (d : Described). IsDatasetIn by img at d) names (datasets_of ss)) (sym (opened_parts h.opened first h.kept.session))
      (datasets_in by img names h.opened.parts (h.exact img told).datasets);
}

-- ---- What a session tells of each dataset

abbrev TellsEach : FileLog → ℕ → List Begun → List Session → Type 0
TellsEach log k [] ss = Unit {0}
TellsEach log k (b ∷ bs) [] = ⊥
TellsEach log k (b ∷ bs) (s ∷ ss) = PartTells log k b s × TellsEach log (suc k) bs ss

tells_from : (S : Sessions) (log : FileLog) → StandsAll S log → (k : ℕ) (bs : List Begun) (ss : List Session) → length bs ≡ length ss → ((d n : ℕ) → n ≡ d + k → slice_get bs d ≡ slice_get log.sets n) → ((d n : ℕ) → n ≡ d + k → slice_get ss d ≡ slice_get S.parts n)
    → TellsEach log k bs ss
tells_from S log stands k [] ss e f g = tt
tells_from S log stands k (b ∷ bs) [] e f g = absurd (omega (arith, e))
tells_from S log stands k (b ∷ bs) (s ∷ ss) e f g = (
  standing_all.tells S log stands k b s (sym (f 0 k (omega arith))) (sym (g 0 k (omega arith))),
  tells_from S log stands (suc k) bs ss (omega (arith, e)) (λ d n i. f (suc d) n (omega (arith, i))) (λ d n i. g (suc d) n (omega (arith, i))),
)

get_at : {A : Type 0} (xs : List A) (d n : ℕ) → n ≡ d + 0 → slice_get xs d ≡ slice_get xs n
get_at xs d n e = ap (slice_get xs) (let f : d ≡ n = omega (arith, e) in f)

tells_each : (S : Sessions) (log : FileLog) → StandsAll S log → TellsEach log 0 log.sets S.parts
tells_each S log stands = tells_from S log stands 0 log.sets S.parts (standing_all.sets S log stands) (get_at log.sets) (get_at S.parts)

-- what is told of a dataset of a log, by what is flushed of it
abbrev TellsOf : (List Happened → ℕ → Begun → Batches → Type 0) → (List ℤ → Batches → List ℤ → Type 0) → Type 0
TellsOf P Flushed = (es : List Happened) (d : ℕ) (s : Begun) (b : Batches) → P es d s b → Flushed s.values b (flushed_in 0 s.values (seen_by d es)) × (appended_in (seen_by d es) ≡ values_of b.closed ++ b.waiting)

stored_tells : TellsOf IsStored Exactly
stored_tells es d s b h = (h.flushed_are, h.appended_are)

either_tells : TellsOf IsEither OfEither
either_tells es d s b h = (h.flushed_are, h.appended_are)

settled_tells : TellsOf IsSettled Exactly
settled_tells es d s b h = (h.flushed_are 0, h.appended_are)

each_over : (P : List Happened → ℕ → Begun → Batches → Type 0) (Flushed : List ℤ → Batches → List ℤ → Type 0) (log : FileLog) → TellsOf P Flushed → log.first ≤ shown_in log.events → (k : ℕ) (bs : List Begun) (ss : List Session) (qs : List Batches) → length bs ≡ length ss
    → TellsEach log k bs ss → EachSet (P log.events) k bs qs → EachLogOver Flushed log k (names_in ss) bs qs
each_over P Flushed log f first k [] [] [] e t h = tt
each_over P Flushed log f first k [] [] (q ∷ qs) e t h = absurd h
each_over P Flushed log f first k [] (s ∷ ss) qs e t h = absurd (omega (arith, e))
each_over P Flushed log f first k (b ∷ bs) [] qs e t h = absurd t
each_over P Flushed log f first k (b ∷ bs) (s ∷ ss) [] e t h = absurd h
each_over P Flushed log f first k (b ∷ bs) (s ∷ ss) (q ∷ qs) e t h =
    let is = f log.events k b q h.0 in (
      record { flushed_are = is.0; appended_are = is.1; prefixed = t.0.prefixed; still = t.0.still; held = t.0.held; now = t.0.now first },
      each_over P Flushed log f first (suc k) bs ss qs (omega (arith, e)) t.1 h.1,
    )

each_reads : (P : List Happened → ℕ → Begun → Batches → Type 0) (Flushed : List ℤ → Batches → List ℤ → Type 0) (log : FileLog) (bytes : List ℕ) → TellsOf P Flushed → image log.start (pieces_in log.events) ≡ bytes → log.first ≤ shown_in log.events → (k : ℕ) (bs : List Begun) (ss : List Session) (qs : List Batches)
    → length bs ≡ length ss → TellsEach log k bs ss → EachSet (P log.events) k bs qs → EachReads Flushed bytes (names_in ss) bs qs
each_reads P Flushed log bytes f same first k [] [] [] e t h = tt
each_reads P Flushed log bytes f same first k [] [] (q ∷ qs) e t h = absurd h
each_reads P Flushed log bytes f same first k [] (s ∷ ss) qs e t h = absurd (omega (arith, e))
each_reads P Flushed log bytes f same first k (b ∷ bs) [] qs e t h = absurd t
each_reads P Flushed log bytes f same first k (b ∷ bs) (s ∷ ss) [] e t h = absurd h
each_reads P Flushed log bytes f same first k (b ∷ bs) (s ∷ ss) (q ∷ qs) e t h =
    let is = f log.events k b q h.0 in
    let now = flushed (log_of k b log) in
    let img : image log.start (hist (log_of k b log).events) ≡ bytes = ap (image log.start) (seen_laws.pieces k log.events) ∙ same in
    let reads : Reads bytes s.name (length now / b.columns) b.columns now = subst (λ (x : List ℕ). Reads x s.name (length now / b.columns) b.columns now) img (t.0.now first).reads in
    ((now, is.0, reads), each_reads P Flushed log bytes f same first (suc k) bs ss qs (omega (arith, e)) t.1 h.1)

-- ---- The log of a session that was stopped

fits_first : (S : Sessions) (log : FileLog) (bs : List Begun) (ss : List Session) → StandsAll S log → log.sets ≡ bs → S.parts ≡ ss → length bs ≡ length ss → 1 ≤ length ss → log.first ≡ 0 → (p : ℕ) → p ≤ shown_in log.events → length (file_at log p) ≤ max S.places.limit (length log.start)
fits_first S log bs [] stands e f same some first p low = absurd (omega (arith, some))
fits_first S log [] (s ∷ ss) stands e f same some first p low = absurd (omega (arith, same))
fits_first S log (b ∷ bs) (s ∷ ss) stands e f same some first p low =
    let position : IsPosition (log_of 0 b log) p = record {
      begun = omega (arith, first);
      reached = let count : length (hist (seen_by 0 log.events)) ≡ shown_in log.events = ap length (seen_laws.pieces 0 log.events) ∙ length_pieces log.events in omega (arith, count, low);
    } in
    let fits = standing_all.fits S log stands 0 b s (ap (λ (xs : List Begun). slice_get xs 0) e) (ap (λ (xs : List Session). slice_get xs 0) f) p position in
    subst (λ (ws : List Write). length (image log.start (take p ws)) ≤ max S.places.limit (length log.start)) (seen_laws.pieces 0 log.events) fits

less_of_two : (n a b c : ℕ) → a ≤ c → n ≤ max a b → n ≤ max c b
less_of_two n a b c low h = omega (arith, h, low)

-- what a session says of the log that it is of
module _ (P : List Happened → ℕ → Begun → Batches → Type 0) (Flushed : List ℤ → Batches → List ℤ → Type 0) (f : TellsOf P Flushed) (img : List ℕ) (sets : List Begun) (names : List (List ℕ)) (limit : ℕ) (S : Sessions) (ws : List Write) (log : FileLog) (bs : List Batches) (named : names_in S.parts ≡ names)
    (of : IsLogOf img sets S ws log) (each : EachSet (P log.events) 0 sets bs) where
  sets_are : log.sets ≡ sets
  sets_are = ap (λ (x : FileLog). x.sets) of.begun

  start_is : log.start ≡ img
  start_is = ap (λ (x : FileLog). x.start) of.begun

  first_is : log.first ≡ 0
  first_is = ap (λ (x : FileLog). x.first) of.begun

  first_low : log.first ≤ shown_in log.events
  first_low = let e = first_is in omega (arith, e)

  count : length sets ≡ length S.parts
  count = sym (ap length sets_are) ∙ standing_all.sets S log of.stands

  tells : TellsEach log 0 sets S.parts
  tells = subst (λ (bs : List Begun). TellsEach log 0 bs S.parts) sets_are (tells_each S log of.stands)

  now_is : image log.start (pieces_in log.events) ≡ image img ws
  now_is = ap (λ (x : List ℕ). image x (pieces_in log.events)) start_is ∙ ap (image img) of.pieces

  pub logs_each : EachLogOver Flushed log 0 names sets bs
  logs_each = subst (λ (ns : List (List ℕ)). EachLogOver Flushed log 0 ns sets bs) named (each_over P Flushed log f first_low 0 sets S.parts bs count tells each)

  pub logs_reads : EachReads Flushed (image img ws) names sets bs
  logs_reads = subst (λ (ns : List (List ℕ)). EachReads Flushed (image img ws) ns sets bs) named (each_reads P Flushed log (image img ws) f now_is first_low 0 sets S.parts bs count tells each)

  pub logs_valid : (t : AllSummary) × AllValid (image img ws) names t
  logs_valid =
      let now = all_names_laws.now S log of.stands first_low in
      (now.summary, subst (λ (ns : List (List ℕ)). AllValid (image img ws) ns now.summary) named (subst (λ (x : List ℕ). AllValid x (names_in S.parts) now.summary) now_is now.valid))

  pub logs_over : (b : SetBatches) → b.sets ≡ bs → S.places.limit ≡ limit → limit ≤ 2 ^ 40 → 1 ≤ length names → AreLogsOver Flushed img names sets ws b
  logs_over b same limit_is high some = record {
    log = log;
    begun = of.begun;
    pieces = of.pieces;
    each = subst (λ (qs : List Batches). EachLogOver Flushed log 0 names sets qs) (sym same) logs_each;
    valid = λ p low.
        let at = all_names_laws.each S log of.stands p (let e = first_is in omega (arith, e)) low in
        (at.summary, subst (λ (ns : List (List ℕ)). AllValid (file_at log p) ns at.summary) named at.valid);
    fits = λ p low.
        let parts : 1 ≤ length S.parts = subst (λ n. 1 ≤ n) (sym (ap length named) ∙ length-map S.parts (λ (s : Session). s.name)) some in
        let least = fits_first S log sets S.parts of.stands sets_are refl count parts first_is p low in
        subst (λ (x : List ℕ). length (file_at log p) ≤ max (2 ^ 40) (length x)) start_is (less_of_two (length (file_at log p)) S.places.limit (length log.start) (2 ^ 40) (subst (λ n. n ≤ 2 ^ 40) (sym limit_is) high) least);
  }

-- ---- What is left

-- of a session that was stopped, where the file was valid
module _ (P : List Happened → ℕ → Begun → Batches → Type 0) (Flushed : List ℤ → Batches → List ℤ → Type 0) (f : TellsOf P Flushed) {v w : DiskView} {by : Beginning} (name : List ℕ) (names : List (List ℕ)) (limit : ℕ) (first : Sessions) (b : SetBatches) (puts : List (Write × ℕ)) (opened : IsOpenOver by name names limit v first)
    (disk : LeavesFiles (option_map (after_puts name puts) v.told) v w) (logs : OfEachLog first (λ img sets. IsHalted P img sets (names_in first.parts) first.places.limit (writes_of puts) b)) where
  named : names_in first.parts ≡ names
  named = first_names name names limit first opened

  pub left_holds : OfFile name names v (λ img sets. Holds Flushed name names w sets b)
  left_holds = λ img t sets told valid reads.
      let h = logs img sets (opened.stands img t sets told valid reads) in
      let is = logs_valid P Flushed f img sets names limit h.session (writes_of puts) h.log b.sets (h.names_are ∙ named) h.of h.each in
      record {
        bytes = image img (writes_of puts);
        told = ap (λ (x : Option DiskState). told_bytes x name) disk.told ∙ bytes_after name puts img v.told told;
        summary = is.0;
        valid = is.1;
        reads = logs_reads P Flushed f img sets names limit h.session (writes_of puts) h.log b.sets (h.names_are ∙ named) h.of h.each;
      }

  pub left_logs : limit ≤ 2 ^ 40 → OfFile name names v (λ img sets. AreLogsOver Flushed img names sets (writes_of puts) b)
  left_logs high = λ img t sets told valid reads.
      let h = logs img sets (opened.stands img t sets told valid reads) in
      logs_over P Flushed f img sets names limit h.session (writes_of puts) h.log b.sets (h.names_are ∙ named) h.of h.each b refl (h.limit_is ∙ first_limit name names limit first opened) high (some_names name names limit first opened)

-- the superblock is the one that the file had
left_shut : {v w : DiskView} {by : Beginning} (name : List ℕ) (names : List (List ℕ)) (limit : ℕ) (first : Sessions) (b : SetBatches) → IsOpenOver by name names limit v first → ClosedUp name first b v w → ShutAgain by name v w
left_shut {v = v} {w = w} {by = by} name names limit first b opened c = λ img root told reads.
    let over = opened.exact img told in
    let same : root ≡ over.root = ok_is root over.root (sym reads ∙ over.super) in
    let first_is : first.root ≡ root_by by over.root = opened_root opened.opened first opened.kept.session ∙ over.root_is in
    let is : c.root ≡ record (shut_by by root) { end = c.root.end } =
    c.root_is ∙ ap (λ (x : Super). record x { end = c.root.end; flags = cleared x.flags }) first_is ∙ ap (λ (x : Super). record x { end = c.root.end }) (shut_root by over.root over.flags)
    ∙ ap (λ (x : Super). record (shut_by by x) { end = c.root.end }) (sym same) in (
      subst (λ (x : Super). HadFlags by x.flags) (sym same) over.flags,
      record {
        bytes = image img (writes_of c.puts);
        told = ap (λ (t : Option DiskState). told_bytes t name) c.disk.told ∙ bytes_after name c.puts img v.told told;
        end = c.root.end;
        super = ap (λ (ws : List Write). super_at (range (image img ws) 0 48)) c.last ∙ ap super_at (front_of c.root c.front img) ∙ c.reads ∙ ap Ok is;
      },
    )

pub is_closed : {v w : DiskView} {by : Beginning} (name : List ℕ) (names : List (List ℕ)) (limit : ℕ) (first : Sessions) (b : SetBatches) → limit ≤ 2 ^ 40 → IsOpenOver by name names limit v first → ClosedUp name first b v w → IsClosed by name names b v w
is_closed name names limit first b high opened c = record {
  puts = c.puts;
  disk = c.disk;
  calm = c.calm;
  holds = left_holds IsStored Exactly stored_tells name names limit first b c.puts opened c.disk c.logs;
  logs = left_logs IsStored Exactly stored_tells name names limit first b c.puts opened c.disk c.logs high;
  shut = left_shut name names limit first b opened c;
}

pub is_broken : {v w : DiskView} {by : Beginning} (name : List ℕ) (names : List (List ℕ)) (limit : ℕ) (first : Sessions) (b : SetBatches) → limit ≤ 2 ^ 40 → IsOpenOver by name names limit v first → Broke name first b v w → IsBroken name names b v w
is_broken name names limit first b high opened c = record {
  puts = c.puts;
  disk = c.disk;
  rose = c.rose;
  holds = left_holds IsEither OfEither either_tells name names limit first b c.puts opened c.disk c.logs;
  logs = left_logs IsEither OfEither either_tells name names limit first b c.puts opened c.disk c.logs high;
}

-- ---- Why an input is not taken to its end

taken_cuts : (ds : List Described) (ss : List Session) (bs : List Batches) → EachTaken ds ss bs → cuttings_of ss ≡ cuts_of ds
taken_cuts [] [] [] h = refl
taken_cuts [] [] (b ∷ bs) h = absurd h
taken_cuts [] (s ∷ ss) bs h = absurd h
taken_cuts (d ∷ ds) [] bs h = absurd h
taken_cuts (d ∷ ds) (s ∷ ss) [] h = absurd h
taken_cuts (d ∷ ds) (s ∷ ss) (b ∷ bs) h = ap (λ (c : Cutting). c ∷ cuttings_of ss) (ap cut_of h.0.dataset) ∙ ap (λ (cs : List Cutting). cut_of d ∷ cs) (taken_cuts ds ss bs h.1)

lacks_place : {v : DiskView} {by : Beginning} (name : List ℕ) (names : List (List ℕ)) (limit : ℕ) (first : Sessions) (b : SetBatches) (full : Full) → IsOpenOver by name names limit v first → NeedsPlace name first v b full
    → OfFile name names v (λ img sets. LacksPlace (datasets_of first.parts) img names sets limit b full)
lacks_place name names limit first b full opened h = λ img t sets told valid reads.
    let l = h.stored.logs img sets (opened.stands img t sets told valid reads) in
    let none = h.bounds l.log l.of.stands in
    let taken = h.stored.taken in
    record {
      log = l.log;
      begun = l.of.begun;
      each = logs_each IsSettled Exactly settled_tells img sets names limit h.session _ l.log b.sets (taken.names ∙ first_names name names limit first opened) l.of l.each;
      some = none.some;
      limited = none.limit ∙ taken.limit ∙ first_limit name names limit first opened;
      past = none.past;
      size_bound = subst (λ (cs : List Cutting). full.size ≤ load_all cs l.log) (taken_cuts (datasets_of first.parts) h.session.parts b.sets taken.parts) none.size_bound;
    }

pub is_why : {v : DiskView} {by : Beginning} (name : List ℕ) (names : List (List ℕ)) (limit : ℕ) (first : Sessions) (s t : SourceView) (b : SetBatches) (e : ErrorLine) → IsOpenOver by name names limit v first → IsWhyBy (NeedsPlace name first v) (datasets_of first.parts) s t b e → IsWhy name names limit (datasets_of first.parts) s t b v e
is_why name names limit first s t b e opened (of_line n line at none) = of_line n line at none
is_why name names limit first s t b e opened (of_range n i x values d at is out) = of_range n i x values d at is out
is_why name names limit first s t b e opened (of_chunks chunks most h) = of_chunks chunks most h
is_why name names limit first s t b e opened (of_room full closes h) = of_room full closes (lacks_place name names limit first b full opened h)
is_why name names limit first s t b e opened (of_depth closes) = of_depth closes
is_why name names limit first s t b e opened (of_input said h is) = of_input said h is
is_why name names limit first s t b e opened (of_source said rose h is) = of_source said rose h is
is_why name names limit first s t b e opened of_memory = of_memory
