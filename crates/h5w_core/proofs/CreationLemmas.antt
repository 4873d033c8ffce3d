-- The pieces of a new file become visible, one after another.
use Rattle.std.proofs.Common.{◌≡◌, ℕ, zero, suc, ◌+◌, ◌<◌, ◌≤◌, List, [], ◌∷◌, ◌++◌, length, replicate, get_or, sym, refl, ap, ◌∙◌, subst, arith, append_assoc, length-append, Option, None}
use Rattle.std.proofs.lemmas.List.{append-nil, length-map, nil_from_length}
use Rattle.h5w_model.specs.Images.{image}
use Rattle.h5w_model.specs.Logs.{Cutting, Log, and_now, hist, spent, shows}
use Rattle.h5w_model.specs.Lawful.{at_first}
use Rattle.h5w_model.specs.declared.piece.Write.{Write}
use Rattle.h5w_model.proofs.ImageLemmas.{image-push}
use Rattle.h5w_image.specs.Memory.{MemView, fresh}
use Rattle.h5w_image.specs.View.{Same, Wrote}
use Rattle.h5w_script_laws.specs.Polling.{MayPoll}
use Rattle.h5w_model.specs.Unfinished.{Reader}
use Rattle.h5w_reader.specs.declared.reader.ReaderCore.{ReaderCore}
use Rattle.h5w_options.specs.Options.{AreOptions}
use Rattle.h5w_options.specs.declared.options.Options.{Options}
use Rattle.h5w_creation_laws.specs.CreatedFiles.{block_write, created_blocks, created_log, created_writes}
use Rattle.h5w_writer.specs.Creations.{IsCreated}
use Rattle.h5w_creation.specs.NewFiles.{new_file}
use Rattle.h5w_creation.proofs.OptionLemmas.{creatable}
use Rattle.h5w_writer.specs.Room.{HasRoomFor}
use Rattle.h5w_writer.specs.Sessions.{Session, AfterPiece, cutting_of}
use Rattle.h5w_writer.specs.Stands.{Stands}
use Rattle.h5w_writer.proofs.LawLemmas.{standing_laws}
use Rattle.h5w_core.specs.Creation.{Creates}
use Rattle.h5w_core.specs.Readers.{placed, reader_at}
use Rattle.h5w_steady.specs.Steady.{steady}
use Rattle.h5w_core.specs.Worlds.{HaveOneLog, HoldsTogether, IsNewWorld, nobody, polling_of}
use Rattle.h5w_core.proofs.ShowLemmas.{same_cutting}
use Rattle.h5w_core.proofs.StateLemmas.{new_now}
use Rattle.h5w_core.proofs.WorldLemmas.{world_of}
use Rattle.h5w_writer.proofs.PastLemmas.{spent_in-events}
use Rattle.h5w_writer.proofs.StateLemmas.{some_is}
use Rattle.h5w_writer_laws.proofs.LeavingLemmas.{piece_leaves}

-- how many they are
abbrev pub total : Options → ℕ
total o = length (created_writes (new_file o))

-- none is visible yet
pub begins : (o : Options) (s : Session) (m n : MemView) → AreOptions o → IsCreated (new_file o) o.limit s → s.budget ≡ o.budget → Stands s (created_log (new_file o)) → m ≡ fresh [] [] → Same (steady m) (steady n) → length s.pending + 1 ≤ n.pieces → s.places.end ≤ n.end
    → Creates o 0 s n
begins o s m n by c budget stands empty same pieces end =
    let is = c.session in
    let history : n.history ≡ [] = some_is n.history m.history same.history ∙ ap (λ (v : MemView). v.history) empty in
    record {
      log = created_log (new_file o);
      stands = stands;
      new = record { file = new_file o; is = creatable o by; log_is = refl };
      is = refl;
      none = refl;
      name = ap (λ (x : Session). x.name) is;
      root = ap (λ (x : Session). x.root) is;
      history = history;
      bytes = some_is n.bytes m.bytes same.bytes ∙ ap (λ (v : MemView). v.bytes) empty;
      dataset = ap (λ (x : Session). x.dataset) is;
      limit = ap (λ (x : Session). x.places.limit) is;
      budget = budget;
      committed = ap (λ (x : Session). x.committed) is;
      waits = ap (λ (x : Session). x.waits) is;
      going = ap (λ (x : Session). x.stopped) is;
      no_flush = ap (λ (x : Session). x.flushing) is;
      loads = refl;
      pieces = ap (λ (ws : List Write). ws ++ s.pending) history ∙ ap (λ (x : Session). x.pending) is;
      shown = ap length history;
      room = record { pieces = pieces; end = end };
    }

-- a piece is left as long as not all are visible
pub some_left : (o : Options) (count : ℕ) (s : Session) (m : MemView) → Creates o count s m → length s.pending + count ≡ total o
some_left o count s m start = omega (arith, length-append m.history s.pending, ap length start.pieces, start.shown)

-- one more
piece_more : (o : Options) (count : ℕ) (s t : Session) (m n : MemView) (piece : Write) (pieces : List Write) → s.pending ≡ piece ∷ pieces → Creates o count s m → AfterPiece s pieces t
    → Wrote (piece ∷ []) (steady m) (steady n) → ((log : Log) → Stands s log → Stands t (and_now (shows piece) log)) → HasRoomFor t (steady n) → Creates o (count + 1) t n
piece_more o count s t m n piece pieces pending start shown wrote stands room =
    let log = start.log in
    let after = piece_leaves s t pieces shown in
    let is = after.still start.no_flush in
    let history : n.history ≡ m.history ++ piece ∷ [] = some_is n.history (m.history ++ piece ∷ []) wrote.history in
    record {
      log = and_now (shows piece) log;
      stands = stands log start.stands;
      new = new_now (shows piece) log start.new;
      is = ap (and_now (shows piece)) start.is;
      none = start.none;
      name = after.name ∙ start.name;
      root = ap (λ (x : Session). x.root) is ∙ start.root;
      history = history ∙ ap (λ (ws : List Write). ws ++ piece ∷ []) start.history;
      bytes = some_is n.bytes (image m.bytes (piece ∷ [])) wrote.bytes ∙ ap (λ (b : List ℕ). image b (piece ∷ [])) start.bytes ∙ sym (image-push [] (hist log.events) piece);
      dataset = after.dataset ∙ start.dataset;
      limit = after.limit ∙ start.limit;
      budget = after.budget ∙ start.budget;
      committed = ap (λ (x : Session). x.committed) is ∙ start.committed;
      waits = after.waits ∙ start.waits;
      going = after.stopped ∙ start.going;
      no_flush = ap (λ (x : Session). x.flushing) is ∙ start.no_flush;
      loads = ap (λ (c : Cutting). spent c (and_now (shows piece) log)) (same_cutting s t pieces after) ∙ spent_in-events (cutting_of s) log (shows piece ∷ log.events) log.events ∙ start.loads;
      pieces =
          ap (λ (ws : List Write). ws ++ t.pending) history
          ∙ ap (λ (ws : List Write). (m.history ++ piece ∷ []) ++ ws) after.pending
          ∙ append_assoc m.history (piece ∷ []) pieces ∙ ap (λ (ws : List Write). m.history ++ ws) (sym pending) ∙ start.pieces;
      shown = ap length history ∙ length-append m.history (piece ∷ []) ∙ ap (λ n. n + 1) start.shown;
      room = room;
    }

-- what a shown piece leaves, where there is one
abbrev pub ShowsPiece : Session → Session → MemView → MemView → Type 0
ShowsPiece s t m n = (w : Write) (ws : List Write) → s.pending ≡ w ∷ ws → AfterPiece s ws t × Wrote (w ∷ []) (steady m) (steady n) × ((log : Log) → Stands s log → Stands t (and_now (shows w) log))

pieces_more : (o : Options) (count : ℕ) (s t : Session) (m n : MemView) (ws : List Write) → s.pending ≡ ws → 1 ≤ length ws → Creates o count s m → ShowsPiece s t m n → HasRoomFor t (steady n) → Creates o (count + 1) t n
pieces_more o count s t m n [] pending some start shown room = absurd (omega arith)
pieces_more o count s t m n (w ∷ ws) pending some start shown room =
    let h = shown w ws pending in piece_more o count s t m n w ws pending start h.0 h.1 h.2 room

pub shows_more : (o : Options) (count : ℕ) (s t : Session) (m n : MemView) → count < total o → Creates o count s m → ShowsPiece s t m n → HasRoomFor t (steady n) → Creates o (count + 1) t n
shows_more o count s t m n few start shown room = pieces_more o count s t m n s.pending refl (omega (arith, some_left o count s m start)) start shown room

-- ---- All are visible

pub all_shown : (o : Options) (s : Session) (m : MemView) → Creates o (total o) s m → s.pending ≡ []
all_shown o s m start = nil_from_length s.pending (omega (arith, some_left o (total o) s m start))

pub all_created : (o : Options) (s : Session) (m : MemView) → Creates o (total o) s m → m.history ≡ created_writes (new_file o)
all_created o s m start = sym (append-nil m.history) ∙ ap (λ (ws : List Write). m.history ++ ws) (sym (all_shown o s m start)) ∙ start.pieces

-- no place has a reader
abbrev nobody_there : Option ReaderCore
nobody_there = None

nowhere : (n r : ℕ) → get_or (replicate n nobody_there) r nobody_there ≡ nobody_there
nowhere zero r = refl
nowhere (suc n) zero = refl
nowhere (suc n) (suc r) = nowhere n r

nobody_at : (r : ℕ) → reader_at nobody r ≡ None
nobody_at r = ap placed (nowhere 17 r)

created_fits : (o : Options) (attempts : ℕ) (s : Session) (m : MemView) → 1 ≤ attempts → Creates o (total o) s m → HaveOneLog (world_of s m attempts nobody) at_first
created_fits o attempts s m some start =
    let w = world_of s m attempts nobody in
    let shown = all_shown o s m start in
    let pieces : length (hist start.log.events) ≡ total o = ap length (sym start.history) ∙ start.shown in
    let count : total o ≡ length (created_blocks (new_file o)) = length-map (created_blocks (new_file o)) block_write in
    record {
      log = start.log;
      stands = record { stands = start.stands; new = start.new; journal = start.history; bytes = start.bytes };
      state = record {
        appended = sym start.none;
        flushed = sym start.committed ∙ standing_laws.flushed_rows s start.log start.stands;
        pending = ap length (sym shown);
        ends_flush = sym start.no_flush;
        taken = λ flush. start.waits;
        idle = λ none. start.no_flush;
        spent = sym start.loads;
        stopped = sym start.going;
        tries = some;
        begun = let first : start.log.first ≡ length (created_blocks (new_file o)) = ap (λ (l : Log). l.first) start.is in omega (arith, pieces, first, count);
        polls = λ r. subst (λ (o : Option Reader). MayPoll (polling_of w) start.log None o) (sym (nobody_at r)) tt;
      };
    }

pub created_new : (o : Options) (attempts : ℕ) (s : Session) (m : MemView) (readers : List (Option ReaderCore)) → Creates o (total o) s m → IsNewWorld o (world_of s m attempts readers)
created_new o attempts s m readers start = record {
  log = start.log;
  stands = record { stands = start.stands; new = start.new; journal = start.history; bytes = start.bytes };
  is = start.is;
  none = start.none;
  pieces = sym start.history ∙ all_created o s m start;
  loads = start.loads;
  name = start.name;
}

pub created_world_fits : (o : Options) (attempts : ℕ) (s : Session) (m : MemView) (readers : List (Option ReaderCore)) → 1 ≤ attempts → Creates o (total o) s m → readers ≡ nobody
    → HaveOneLog (world_of s m attempts readers) at_first
created_world_fits o attempts s m readers some start none =
    subst (λ (places : List (Option ReaderCore)). HaveOneLog (world_of s m attempts places) at_first) (sym none) (created_fits o attempts s m some start)

pub created_holds : (o : Options) (attempts : ℕ) (s : Session) (m : MemView) (readers : List (Option ReaderCore)) → 1 ≤ attempts → Creates o (total o) s m → readers ≡ nobody → HoldsTogether s m attempts readers
created_holds o attempts s m readers some start none =
    record {
      room = start.room;
      folds = start.bytes ∙ ap (image []) (sym start.history);
      places = ap length none;
      script = at_first;
      fits = created_world_fits o attempts s m readers some start none;
    }
