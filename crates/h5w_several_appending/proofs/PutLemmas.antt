-- The pieces of a session of several datasets in a file of a disk.
use Rattle.std.proofs.Common.{◌≡◌, ℕ, ◌+◌, ◌≤◌, List, [], ◌∷◌, ◌++◌, length, Option, Some, None, refl, sym, ap, ◌∙◌, subst, arith, append_assoc, length-append}
use Rattle.std.specs.Prelude.{option_map}
use Rattle.h5w_model.specs.Causes.{Rose}
use Rattle.h5w_model.specs.Relations.{AllPaired}
use Rattle.h5w_model.specs.Several.{FileLog, shows_all}
use Rattle.h5w_model.specs.declared.piece.Write.{Write}
use Rattle.h5w_image.specs.View.{DiskState, DiskView, Leaves, put}
use Rattle.h5w_image.proofs.DiskLemmas.{rose_from}
use Rattle.h5w_files.specs.Images.{LeavesFiles}
use Rattle.h5w_appending.specs.Puts.{AllAre, after_puts, counts_of, writes_of}
use Rattle.h5w_appending.proofs.PutLemmas.{are_both, are_of, length-writes, no_puts, puts_twice, writes-append}
use Rattle.h5w_writer.specs.Sessions.{Session}
use Rattle.h5w_several_writer.specs.Flows.{KeepsPart, KeepsParts}
use Rattle.h5w_several_writer_laws.specs.Sessions.{Sessions, all_pending}
use Rattle.h5w_several_writer_laws.specs.Standing.{StandsAll, and_then}
use Rattle.h5w_several_appending.specs.Puts.{AreAlike, KeepsAll, PutsPieces, PutsSome, all_shown}

-- ---- What is kept

pub alike_itself : (ss : List Session) → AreAlike ss ss
alike_itself [] = tt
alike_itself (s ∷ ss) = (record { name = refl; dataset = refl; waits = refl }, alike_itself ss)

alike_twice : (ss ts us : List Session) → AreAlike ss ts → AreAlike ts us → AreAlike ss us
alike_twice [] [] [] p q = tt
alike_twice [] [] (u ∷ us) p q = absurd q
alike_twice [] (t ∷ ts) us p q = absurd p
alike_twice (s ∷ ss) [] us p q = absurd p
alike_twice (s ∷ ss) (t ∷ ts) [] p q = absurd q
alike_twice (s ∷ ss) (t ∷ ts) (u ∷ us) p q =
    (record { name = q.0.name ∙ p.0.name; dataset = q.0.dataset ∙ p.0.dataset; waits = q.0.waits ∙ p.0.waits }, alike_twice ss ts us p.1 q.1)

alike_kept : (ss ts : List Session) → AllPaired KeepsPart ss ts → AreAlike ss ts
alike_kept [] [] h = tt
alike_kept [] (t ∷ ts) h = absurd h
alike_kept (s ∷ ss) [] h = absurd h
alike_kept (s ∷ ss) (t ∷ ts) h =
    let is = h.0.session in (record { name = ap (λ (x : Session). x.name) is; dataset = ap (λ (x : Session). x.dataset) is; waits = ap (λ (x : Session). x.waits) is }, alike_kept ss ts h.1)

keeps_itself : (S : Sessions) → KeepsAll S S
keeps_itself S = record { parts = alike_itself S.parts; root = refl; stopped = refl; end = refl; limit = refl }

keeps_twice : (S T U : Sessions) → KeepsAll S T → KeepsAll T U → KeepsAll S U
keeps_twice S T U p q = record { parts = alike_twice S.parts T.parts U.parts p.parts q.parts; root = q.root ∙ p.root; stopped = q.stopped ∙ p.stopped; end = q.end ∙ p.end; limit = q.limit ∙ p.limit }

keeps_of : (S T : Sessions) → KeepsParts S T → KeepsAll S T
keeps_of S T h = record {
  parts = alike_kept S.parts T.parts h.each;
  root = ap (λ (x : Sessions). x.root) h.session;
  stopped = ap (λ (x : Sessions). x.stopped) h.session;
  end = h.end;
  limit = h.limit;
}

pub shown-append : (vs ws : List Write) (log : FileLog) → all_shown (vs ++ ws) log ≡ all_shown ws (all_shown vs log)
shown-append [] ws log = refl
shown-append (v ∷ vs) ws log = shown-append vs ws (and_then (shows_all v) log)

-- ---- One piece

-- it was put
pub puts_one : {v w : DiskView} (name : List ℕ) (S T : Sessions) (wr : Write) (ws : List Write) → all_pending S.parts ≡ wr ∷ ws → all_pending T.parts ≡ ws → KeepsParts S T → ((log : FileLog) → StandsAll S log → StandsAll T (and_then (shows_all wr) log))
    → Leaves 1 (option_map (put name wr v.faults) v.told) v w → PutsPieces name S T v w
puts_one {v} {w} name S T wr ws pending left keeps stands p = record {
  puts = (wr, v.faults) ∷ [];
  pieces = pending ∙ ap (λ (xs : List Write). wr ∷ xs) (sym left);
  keeps = keeps_of S T keeps;
  stands = stands;
  disk = record { told = p.told ∙ one v.told; faults = p.faults; through = p.through };
  since = (refl, tt);
  room = p.pieces;
  ends = p.end name;
}
  where
    one : (o : Option DiskState) → option_map (put name wr v.faults) o ≡ option_map (after_puts name ((wr, v.faults) ∷ [])) o
    one None = refl
    one (Some d) = refl

pub one_less : (S T : Sessions) (wr : Write) (ws : List Write) → all_pending S.parts ≡ wr ∷ ws → all_pending T.parts ≡ ws → length (all_pending T.parts) + 1 ≡ length (all_pending S.parts)
one_less S T wr ws pending left = let a = ap length left in let b = ap length pending in omega (arith, a, b)

-- none was
pub puts_none : {v w : DiskView} (name : List ℕ) (S : Sessions) → LeavesFiles v.told v w → v.pieces ≤ w.pieces → v.end name ≤ w.end name → PutsPieces name S S v w
puts_none {v} {w} name S p room ends = record {
  puts = [];
  pieces = refl;
  keeps = keeps_itself S;
  stands = λ log stands. stands;
  disk = record { told = p.told ∙ no_puts name v.told; faults = p.faults; through = p.through };
  since = tt;
  room = omega (arith, room);
  ends = ends;
}

-- whatever count of faults stood before each
pub none_put : (v : DiskView) (n : ℕ) (name : List ℕ) (S : Sessions) → (p : PutsPieces name S S v v) × AllAre n (counts_of p.puts)
unfolding puts_none
none_put v n name S = (puts_none name S (record { told = refl; faults = omega arith; through = refl }) (omega arith) (omega arith), tt)

-- the disk failed at it
pub puts_failed : {v w : DiskView} (name : List ℕ) (S : Sessions) → 1 ≤ length (all_pending S.parts) → Leaves 0 v.told v w → Rose v.faults w.faults → PutsSome name S S v w
unfolding puts_none
puts_failed {v} {w} name S some p rose = record {
  before = puts_none name S (record { told = p.told; faults = p.faults; through = p.through }) (let h = p.pieces in omega (arith, h)) (p.end name);
  left = some;
  rose = rose;
}

-- ---- Pieces, one behind the other

pub puts_then : {u v w : DiskView} (name : List ℕ) (R S T : Sessions) → v.faults ≡ u.faults → PutsPieces name R S u v → PutsPieces name S T v w → PutsPieces name R T u w
puts_then {u} {v} {w} name R S T calm p q =
    let count : length (p.puts ++ q.puts) ≡ length p.puts + length q.puts = length-append p.puts q.puts in
    let first = p.room in
    let second = q.room in
    record {
      puts = p.puts ++ q.puts;
      pieces =
          p.pieces ∙ ap (λ (ws : List Write). writes_of p.puts ++ ws) q.pieces ∙ sym (append_assoc (writes_of p.puts) (writes_of q.puts) (all_pending T.parts))
          ∙ ap (λ (ws : List Write). ws ++ all_pending T.parts) (sym (writes-append p.puts q.puts));
      keeps = keeps_twice R S T p.keeps q.keeps;
      stands = λ log stands. subst (λ (l : FileLog). StandsAll T l) (sym (ap (λ (ws : List Write). all_shown ws log) (writes-append p.puts q.puts) ∙ shown-append (writes_of p.puts) (writes_of q.puts) log))
          (q.stands (all_shown (writes_of p.puts) log) (p.stands log stands));
      disk = record {
        told = q.disk.told ∙ ap (option_map (after_puts name q.puts)) p.disk.told ∙ puts_twice name p.puts q.puts u.told;
        faults = omega (arith, p.disk.faults, q.disk.faults);
        through = q.disk.through ∙ p.disk.through;
      };
      since = are_both u.faults p.puts q.puts p.since (are_of v.faults u.faults (counts_of q.puts) calm q.since);
      room = omega (arith, count, first, second);
      ends = omega (arith, p.ends, q.ends);
    }

-- and then the disk failed
pub some_then : {u v w : DiskView} (name : List ℕ) (R S T : Sessions) → v.faults ≡ u.faults → PutsPieces name R S u v → PutsSome name S T v w → PutsSome name R T u w
unfolding puts_then
some_then {u} {v} {w} name R S T calm p q = record {
  before = puts_then name R S T calm p q.before;
  left = q.left;
  rose = rose_from u.faults v.faults w.faults p.disk.faults q.rose;
}

-- ---- What is left

-- of the room
pub room_left : {v w : DiskView} (name : List ℕ) (S T : Sessions) → PutsPieces name S T v w → length (all_pending S.parts) ≤ v.pieces → length (all_pending T.parts) ≤ w.pieces
room_left name S T p room =
    let count : length (all_pending S.parts) ≡ length (writes_of p.puts) + length (all_pending T.parts) = ap length p.pieces ∙ length-append (writes_of p.puts) (all_pending T.parts) in
    let more = p.room in
    omega (arith, count, length-writes p.puts, room, more)

pub end_left : {v w : DiskView} (name : List ℕ) (S T : Sessions) → PutsPieces name S T v w → S.places.end ≤ v.end name → T.places.end ≤ w.end name
end_left name S T p low = let e = p.keeps.end in let more = p.ends in omega (arith, e, more, low)

-- how many were put, where all were
pub all_put : {v w : DiskView} (name : List ℕ) (S T : Sessions) (p : PutsPieces name S T v w) → all_pending T.parts ≡ [] → all_pending S.parts ≡ writes_of p.puts
all_put name S T p none = p.pieces ∙ ap (λ (ws : List Write). writes_of p.puts ++ ws) none ∙ nil_behind (writes_of p.puts)
  where
    nil_behind : (ws : List Write) → ws ++ [] ≡ ws
    nil_behind [] = refl
    nil_behind (w ∷ ws) = ap (λ (x : List Write). w ∷ x) (nil_behind ws)
