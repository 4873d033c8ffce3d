-- The pieces of a session in a file of a disk.
use Rattle.std.proofs.Common.{◌≡◌, ℕ, ◌+◌, ◌≤◌, List, [], ◌∷◌, ◌++◌, length, Option, Some, None, refl, sym, ap, ◌∙◌, subst, arith, append_assoc, length-append}
use Rattle.std.specs.Prelude.{IfSome, IsSome, option_map}
use Rattle.std.proofs.lemmas.List.{nil_from_length}
use Rattle.h5w_model.specs.Causes.{Rose}
use Rattle.h5w_model.specs.Logs.{Log, and_now, shows}
use Rattle.h5w_model.specs.declared.piece.Write.{Write}
use Rattle.h5w_image.specs.View.{DiskState, DiskView, IsThere, Leaves, file, put}
use Rattle.h5w_image.proofs.DiskLemmas.{there_after_put, rose_from}
use Rattle.h5w_writer.specs.Sessions.{AfterPiece, Session}
use Rattle.h5w_writer.specs.Stands.{Stands}
use Rattle.h5w_writer_laws.proofs.LeavingLemmas.{piece_leaves}
use Rattle.h5w_files.specs.Images.{LeavesFiles}
use Rattle.h5w_appending.specs.Puts.{AllAre, PutsPieces, PutsSome, after_puts, counts_of, showing, writes_of}

-- ---- Lists of puts, one behind the other

pub writes-append : (ps qs : List (Write × ℕ)) → writes_of (ps ++ qs) ≡ writes_of ps ++ writes_of qs
writes-append [] qs = refl
writes-append (p ∷ ps) qs = ap (λ ws. p.0 ∷ ws) (writes-append ps qs)

pub counts-append : (ps qs : List (Write × ℕ)) → counts_of (ps ++ qs) ≡ counts_of ps ++ counts_of qs
counts-append [] qs = refl
counts-append (p ∷ ps) qs = ap (λ cs. p.1 ∷ cs) (counts-append ps qs)

pub length-writes : (ps : List (Write × ℕ)) → length (writes_of ps) ≡ length ps
length-writes [] = refl
length-writes (p ∷ ps) = omega (arith, length-writes ps)

pub length-counts : (ps : List (Write × ℕ)) → length (counts_of ps) ≡ length ps
length-counts [] = refl
length-counts (p ∷ ps) = omega (arith, length-counts ps)

puts-append : (name : List ℕ) (ps qs : List (Write × ℕ)) (d : DiskState) → after_puts name (ps ++ qs) d ≡ after_puts name qs (after_puts name ps d)
puts-append name [] qs d = refl
puts-append name (p ∷ ps) qs d = puts-append name ps qs (put name p.0 p.1 d)

pub puts_twice : (name : List ℕ) (ps qs : List (Write × ℕ)) (t : Option DiskState) → option_map (after_puts name qs) (option_map (after_puts name ps) t) ≡ option_map (after_puts name (ps ++ qs)) t
puts_twice name ps qs None = refl
puts_twice name ps qs (Some d) = ap Some (sym (puts-append name ps qs d))

pub no_puts : (name : List ℕ) (t : Option DiskState) → t ≡ option_map (after_puts name []) t
no_puts name None = refl
no_puts name (Some d) = refl

pub showing-append : (vs ws : List Write) (log : Log) → showing (vs ++ ws) log ≡ showing ws (showing vs log)
showing-append [] ws log = refl
showing-append (v ∷ vs) ws log = showing-append vs ws (and_now (shows v) log)

-- ---- Counts of faults

pub are_of : (a b : ℕ) (cs : List ℕ) → a ≡ b → AllAre a cs → AllAre b cs
are_of a b cs same all = subst (λ n. AllAre n cs) same all

pub are-append : (n : ℕ) (cs ds : List ℕ) → AllAre n cs → AllAre n ds → AllAre n (cs ++ ds)
are-append n [] ds all more = more
are-append n (c ∷ cs) ds all more = (all.0, are-append n cs ds all.1 more)

-- of puts, and more behind them
pub are_both : (n : ℕ) (ps qs : List (Write × ℕ)) → AllAre n (counts_of ps) → AllAre n (counts_of qs) → AllAre n (counts_of (ps ++ qs))
are_both n ps qs all more = subst (λ (cs : List ℕ). AllAre n cs) (sym (counts-append ps qs)) (are-append n (counts_of ps) (counts_of qs) all more)

-- ---- A file that is there stays

still_there : (name : List ℕ) (ps : List (Write × ℕ)) (d : DiskState) → IsSome (file d name) → IsSome (file (after_puts name ps d) name)
still_there name [] d some = some
still_there name (p ∷ ps) d some = still_there name ps (put name p.0 p.1 d) (put_there name p d some)
  where
    view_of : DiskState → DiskView
    view_of d = record { told = Some d; faults = 0; through = []; pieces = 1; end = λ _. 0 }

    put_there : (name : List ℕ) (p : Write × ℕ) (d : DiskState) → IsSome (file d name) → IsSome (file (put name p.0 p.1 d) name)
    put_there name p d some =
        there_after_put {v = view_of d} {w = view_of (put name p.0 p.1 d)} name name p.0 p.1 (record { told = refl; faults = omega arith; through = refl; pieces = omega arith; end = λ q. omega arith }) some

pub puts_there : {v w : DiskView} (name : List ℕ) (ps : List (Write × ℕ)) → LeavesFiles (option_map (after_puts name ps) v.told) v w → IsThere v name → IsThere w name
puts_there {v} {w} name ps p there = subst (λ t. IfSome t (λ d. IsSome (file d name))) (sym p.told) (cases v.told there)
  where
    cases : (t : Option DiskState) → IfSome t (λ d. IsSome (file d name)) → IfSome (option_map (after_puts name ps) t) (λ d. IsSome (file d name))
    cases None h = tt
    cases (Some d) h = still_there name ps d h

-- ---- One piece

-- it was put
pub puts_one : {v w : DiskView} (name : List ℕ) (s t : Session) (wr : Write) (ws : List Write) → s.pending ≡ wr ∷ ws → AfterPiece s ws t → ((log : Log) → Stands s log → Stands t (and_now (shows wr) log))
    → Leaves 1 (option_map (put name wr v.faults) v.told) v w → PutsPieces name s t v w
puts_one {v} {w} name s t wr ws pending after stands p =
    let l = piece_leaves s t ws after in
    record {
      puts = (wr, v.faults) ∷ [];
      pieces = pending ∙ ap (λ (xs : List Write). wr ∷ xs) (sym l.pending);
      session = l.session;
      end = l.end;
      limit = l.limit;
      stands = stands;
      disk = record { told = p.told ∙ one v.told; faults = p.faults; through = p.through };
      since = (refl, tt);
      room = p.pieces;
      ends = p.end name;
    }
  where
    one : (o : Option DiskState) → option_map (put name wr v.faults) o ≡ option_map (after_puts name ((wr, v.faults) ∷ [])) o
    one None = refl
    one (Some d) = refl

pub one_less : (s t : Session) (wr : Write) (ws : List Write) → s.pending ≡ wr ∷ ws → AfterPiece s ws t → length t.pending + 1 ≡ length s.pending
one_less s t wr ws pending after = omega (arith, ap length (piece_leaves s t ws after).pending, ap length pending)

-- none was
pub puts_none : {v w : DiskView} (name : List ℕ) (s : Session) → LeavesFiles v.told v w → v.pieces ≤ w.pieces → v.end name ≤ w.end name → PutsPieces name s s v w
puts_none {v} {w} name s p room ends = record {
  puts = [];
  pieces = refl;
  session = refl;
  end = refl;
  limit = refl;
  stands = λ log stands. stands;
  disk = record { told = p.told ∙ no_puts name v.told; faults = p.faults; through = p.through };
  since = tt;
  room = omega (arith, room);
  ends = ends;
}

-- whatever count of faults stood before each
pub none_put : (v : DiskView) (n : ℕ) (name : List ℕ) (s : Session) → (p : PutsPieces name s s v v) × AllAre n (counts_of p.puts)
unfolding puts_none
none_put v n name s = (puts_none name s (record { told = refl; faults = omega arith; through = refl }) (omega arith) (omega arith), tt)

-- the disk failed at it
pub puts_failed : {v w : DiskView} (name : List ℕ) (s : Session) → 1 ≤ length s.pending → Leaves 0 v.told v w → Rose v.faults w.faults → PutsSome name s s v w
unfolding puts_none
puts_failed {v} {w} name s some p rose = record {
  before = puts_none name s (record { told = p.told; faults = p.faults; through = p.through }) (let h = p.pieces in omega (arith, h)) (p.end name);
  left = some;
  rose = rose;
}

-- ---- Pieces, one behind the other

pub puts_then : {u v w : DiskView} (name : List ℕ) (r s t : Session) → v.faults ≡ u.faults → PutsPieces name r s u v → PutsPieces name s t v w → PutsPieces name r t u w
puts_then {u} {v} {w} name r s t calm p q =
    let count : length (p.puts ++ q.puts) ≡ length p.puts + length q.puts = length-append p.puts q.puts in
    let first = p.room in
    let second = q.room in
    record {
      puts = p.puts ++ q.puts;
      pieces =
          p.pieces ∙ ap (λ (ws : List Write). writes_of p.puts ++ ws) q.pieces ∙ sym (append_assoc (writes_of p.puts) (writes_of q.puts) t.pending)
          ∙ ap (λ (ws : List Write). ws ++ t.pending) (sym (writes-append p.puts q.puts));
      session = q.session ∙ (λ i. record (p.session i) { places = t.places; committed = t.committed; pending = t.pending; flushing = t.flushing });
      end = q.end ∙ p.end;
      limit = q.limit ∙ p.limit;
      stands = λ log stands. subst (λ (l : Log). Stands t l) (sym (ap (λ (ws : List Write). showing ws log) (writes-append p.puts q.puts) ∙ showing-append (writes_of p.puts) (writes_of q.puts) log))
          (q.stands (showing (writes_of p.puts) log) (p.stands log stands));
      disk = record {
        told = q.disk.told ∙ ap (option_map (after_puts name q.puts)) p.disk.told ∙ puts_twice name p.puts q.puts u.told;
        faults = omega (arith, p.disk.faults, q.disk.faults);
        through = q.disk.through ∙ p.disk.through;
      };
      since = are_both u.faults p.puts q.puts p.since (are_of v.faults u.faults (counts_of q.puts) calm q.since);
      room = omega (arith, count, first, second);
      ends = omega (arith, p.ends, q.ends);
    }

-- and then the disk failed
pub some_then : {u v w : DiskView} (name : List ℕ) (r s t : Session) → v.faults ≡ u.faults → PutsPieces name r s u v → PutsSome name s t v w → PutsSome name r t u w
unfolding puts_then
some_then {u} {v} {w} name r s t calm p q = record {
  before = puts_then name r s t calm p q.before;
  left = q.left;
  rose = rose_from u.faults v.faults w.faults p.disk.faults q.rose;
}

pub none_left : (ws : List Write) → length ws ≤ 0 → ws ≡ []
none_left ws few = nil_from_length ws (omega (arith, few))

-- ---- What is left

-- of the room
pub room_left : {v w : DiskView} (name : List ℕ) (s t : Session) → PutsPieces name s t v w → length s.pending ≤ v.pieces → length t.pending ≤ w.pieces
room_left name s t p room =
    let count : length s.pending ≡ length (writes_of p.puts) + length t.pending = ap length p.pieces ∙ length-append (writes_of p.puts) t.pending in
    let more = p.room in
    omega (arith, count, length-writes p.puts, room, more)

pub end_left : {v w : DiskView} (name : List ℕ) (s t : Session) → PutsPieces name s t v w → s.places.end ≤ v.end name → t.places.end ≤ w.end name
end_left name s t p low = let e = p.end in let more = p.ends in omega (arith, e, more, low)
