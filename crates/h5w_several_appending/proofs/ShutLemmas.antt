-- How an append to several datasets ends: the session that is closed.
use Rattle.std.proofs.Common.{◌≡◌, ℕ, List, [], ◌∷◌, ◌++◌, map, Result, Ok, Err, refl, sym, ap, ◌∙◌}
use Rattle.h5w_model.specs.Several.{FileLog}
use Rattle.h5w_model.specs.Superblock.{super_at, super_bytes}
use Rattle.h5w_model.specs.declared.piece.Write.{Write}
use Rattle.h5w_model.specs.declared.root.Super.{Super}
use Rattle.h5w_image.specs.View.{DiskView}
use Rattle.h5w_writer.specs.PartLaws.{super_piece}
use Rattle.h5w_writer.specs.Sessions.{Session, cleared, rows_of}
use Rattle.h5w_text.specs.Streams.{SourceView, SinkView}
use Rattle.h5w_text.specs.declared.error.ErrorLine.{ErrorLine}
use Rattle.h5w_appending.specs.Puts.{counts_of, writes_of}
use Rattle.h5w_appending.proofs.PutLemmas.{are_both, are_of, writes-append}
use Rattle.h5w_appending.proofs.StoreLemmas.{agrees, puts_more, rose_halted, writes_both}
use Rattle.h5w_several_writer_laws.specs.Sessions.{Sessions, all_pending, closed_all, closed_part, closed_parts, closed_super}
use Rattle.h5w_several_writer_laws.specs.Standing.{StandsAll}
use Rattle.h5w_several_writer_laws.specs.Valid.{names_in}
use Rattle.h5w_several_appending.specs.Appending.{ClosesBy, PutsAll, PutsBy, PutsHalted, Settles, TakesInput, Told}
use Rattle.h5w_several_appending.specs.Stores.{IsEither, IsHalted, IsStored, datasets_of}
use Rattle.h5w_several_appending.specs.Taken.{SetBatches, after_all, close_each, no_sets, of_all, rows_with}
use Rattle.h5w_several_appending.specs.Tells.{all_batches}
use Rattle.h5w_several_appending.specs.declared.batching.Ending.{Ending}
use Rattle.h5w_several_appending.specs.declared.batching.Ending.TheVariants as endings
use Rattle.h5w_several_appending.proofs.LogLemmas.{each_map, settled_either, settled_stored}
use Rattle.h5w_several_appending.proofs.PartLemmas.{alike_names, taken_done}
use Rattle.h5w_several_appending.proofs.PutLemmas.{all_put}
use Rattle.h5w_several_appending.proofs.SetLemmas.{closed_none}
use Rattle.h5w_several_appending.proofs.StoreLemmas.{first_planned, first_whole, halted_names, same_log, settled_log}

-- ---- The close

parts_names : (root : Super) (ss : List Session) → names_in (map (closed_part root) ss) ≡ names_in ss
parts_names root [] = refl
parts_names root (s ∷ ss) = ap (λ (ns : List (List ℕ)). s.name ∷ ns) (parts_names root ss)

closed_names : (root : Super) (ss : List Session) → names_in (closed_parts root ss) ≡ names_in ss
closed_names root [] = refl
closed_names root (s ∷ ss) = ap (λ (ns : List (List ℕ)). s.name ∷ ns) (parts_names root ss)

all_names : (S T : Sessions) → T ≡ closed_all S → names_in T.parts ≡ names_in S.parts
all_names S T closed = ap (λ (x : Sessions). names_in x.parts) closed ∙ closed_names (closed_super S) S.parts

-- the session was closed, and its piece was put
shut_whole : {v w : DiskView} (n : ℕ) (name : List ℕ) (S T R : Sessions) → all_pending S.parts ≡ [] → T ≡ closed_all S → all_pending T.parts ≡ super_piece (closed_super S) ∷ [] → super_at (super_bytes (closed_super S)) ≡ Ok (closed_super S)
    → ((log : FileLog) → StandsAll S log → StandsAll T log) → PutsAll n name T R v w → ClosesBy n name S v w (Ok tt)
shut_whole {v} {w} n name S T R idle closed pending reads stands q = λ first b u counted h.
    let ps = q.puts in
    let one : writes_of ps.puts ≡ super_piece (closed_super S) ∷ [] = sym (all_put name T R ps q.all) ∙ pending in
    record {
      puts = h.puts ++ ps.puts;
      disk = puts_more name h.puts ps.puts h.disk ps.disk;
      since = are_both u.faults h.puts ps.puts h.since (are_of v.faults u.faults (counts_of ps.puts) (q.before ∙ sym counted) ps.since);
      calm = q.calm ∙ sym counted;
      begins = first_whole (all_pending first.parts) h.puts ps.puts (all_pending S.parts) idle h.begins;
      front = writes_of h.puts;
      root = closed_super S;
      last = writes-append h.puts ps.puts ∙ ap (λ (x : List Write). writes_of h.puts ++ x) one;
      reads = reads;
      root_is = ap (λ (x : Super). record x { end = S.root.end; flags = cleared x.flags }) h.taken.root;
      logs = λ img sets begun.
          let l = settled_log img sets T R (writes_of h.puts) (writes_of ps.puts) b ps.stands (same_log img sets S T (writes_of h.puts) b stands (h.logs img sets begun)) in
          writes_both (λ ws. IsHalted IsStored img sets (names_in first.parts) first.places.limit ws b) h.puts ps.puts (record {
            session = R;
            names_are = alike_names T.parts R.parts ps.keeps.parts ∙ all_names S T closed ∙ h.taken.names;
            limit_is = ps.keeps.limit ∙ ap (λ (x : Sessions). x.places.limit) closed ∙ h.taken.limit;
            log = l.log;
            of = l.of;
            each = each_map 0 sets b.sets (settled_stored l.log.events) l.each;
          });
    }

-- the disk failed at it
shut_broke : {v w : DiskView} (n : ℕ) (name : List ℕ) (S T R : Sessions) → all_pending S.parts ≡ [] → T ≡ closed_all S → ((log : FileLog) → StandsAll S log → StandsAll T log) → PutsHalted n name T R v w → ClosesBy n name S v w (Err endings.Disk)
shut_broke {v} {w} n name S T R idle closed stands q = λ first b u counted h.
    let ps = q.puts in
    let middle = q.middle in
    record {
      puts = h.puts ++ ps.puts;
      disk = puts_more name h.puts ps.puts h.disk ps.disk;
      since = are_both u.faults h.puts ps.puts h.since (are_of n u.faults (counts_of ps.puts) (sym counted) q.since);
      rose = rose_halted u.faults v.faults n w.faults counted h.disk.faults q.rose;
      begins = agrees (all_pending first.parts) (writes_of (h.puts ++ ps.puts)) (all_pending middle.parts) (first_planned (all_pending first.parts) h.puts ps.puts (all_pending S.parts) (all_pending middle.parts) idle h.begins);
      logs = λ img sets begun.
          let l = settled_log img sets T middle (writes_of h.puts) (writes_of ps.puts) b ps.stands (same_log img sets S T (writes_of h.puts) b stands (h.logs img sets begun)) in
          writes_both (λ ws. IsHalted IsEither img sets (names_in first.parts) first.places.limit ws b) h.puts ps.puts (record {
            session = R;
            names_are = halted_names middle R q.halted ∙ alike_names T.parts middle.parts ps.keeps.parts ∙ all_names S T closed ∙ h.taken.names;
            limit_is = ap (λ (x : Sessions). x.places.limit) q.halted.session ∙ ps.keeps.limit ∙ ap (λ (x : Sessions). x.places.limit) closed ∙ h.taken.limit;
            log = l.log;
            of = record { stands = q.halted.stands l.log l.of.stands; begun = l.of.begun; pieces = l.of.pieces };
            each = each_map 0 sets b.sets (settled_either l.log.events) l.each;
          });
    }

-- by the result of the puts
pub shut_by : (v w : DiskView) (n : ℕ) (name : List ℕ) (S T R : Sessions) (q : Result (Unit {0}) Ending) → all_pending S.parts ≡ [] → T ≡ closed_all S → all_pending T.parts ≡ super_piece (closed_super S) ∷ [] → super_at (super_bytes (closed_super S)) ≡ Ok (closed_super S)
    → ((log : FileLog) → StandsAll S log → StandsAll T log) → PutsBy n name T R v w q → ClosesBy n name S v w q
shut_by v w n name S T R (Ok a) idle closed pending reads stands q = shut_whole n name S T R idle closed pending reads stands q
shut_by v w n name S T R (Err (endings.Refused e)) idle closed pending reads stands q = absurd q
shut_by v w n name S T R (Err endings.Disk) idle closed pending reads stands q = shut_broke n name S T R idle closed stands q
shut_by v w n name S T R (Err endings.Sink) idle closed pending reads stands q = absurd q

-- ---- Behind what was taken

-- how many rows there are behind all batches
closed_rows : {u w : DiskView} {k l : SinkView} (name : List ℕ) (first T : Sessions) (b : SetBatches) → Told name first T (close_each (datasets_of first.parts) b) u w k l → map rows_of T.parts ≡ rows_with (datasets_of first.parts) (close_each (datasets_of first.parts) b).sets
closed_rows name first T b told =
    let ds = datasets_of first.parts in sym (taken_done ds T.parts (close_each ds b).sets (closed_none ds b) told.stored.taken.parts)

-- all was, and the session was closed or the disk failed
pub settles_all : {u v : DiskView} {k l : SinkView} {x y : SourceView} (w : DiskView) (n : ℕ) (name : List ℕ) (first S : Sessions) (r : Result (Unit {0}) Ending) → u.faults ≡ n → ClosesBy n name S v w r → TakesInput name first S x y u v k l (Ok tt)
    → Settles name (map rows_of S.parts) first x y u w k l r
settles_all {u} {v} w n name first S (Ok a) counted c h =
    (h.0, h.1, c first (all_batches (datasets_of first.parts) h.0) u counted h.2.stored, h.2.gave, closed_rows name first S (after_all (datasets_of first.parts) (no_sets (datasets_of first.parts)) h.0) h.2)
settles_all w n name first S (Err (endings.Refused e)) counted c h = absurd c
settles_all {u} w n name first S (Err endings.Disk) counted c h =
    let b = all_batches (datasets_of first.parts) h.0 in (b, of_all h.0 h.1, record { broke = c first b u counted h.2.stored; gave = h.2.gave })
settles_all w n name first S (Err endings.Sink) counted c h = absurd c

-- a refusal
pub settles_some : {u v w : DiskView} {k l : SinkView} {x y : SourceView} (n : ℕ) (name : List ℕ) (first S : Sessions) (e : ErrorLine) → u.faults ≡ n → ClosesBy n name S v w (Ok tt) → TakesInput name first S x y u v k l (Err (endings.Refused e))
    → Settles name (map rows_of S.parts) first x y u w k l (Err (endings.Refused e))
settles_some {u} n name first S e counted c h = (h.0, h.1, h.2, c first h.0 u counted h.3.stored, h.3.gave)

pub settles_broke : {u v : DiskView} {k l : SinkView} {x y : SourceView} (w : DiskView) (n : ℕ) (name : List ℕ) (first S : Sessions) (e : ErrorLine) (r : Ending) → u.faults ≡ n → ClosesBy n name S v w (Err r) → TakesInput name first S x y u v k l (Err (endings.Refused e))
    → Settles name (map rows_of S.parts) first x y u w k l (Err r)
settles_broke w n name first S e (endings.Refused f) counted c h = absurd c
settles_broke {u} w n name first S e endings.Disk counted c h = (h.0, h.1, record { broke = c first h.0 u counted h.3.stored; gave = h.3.gave })
settles_broke w n name first S e endings.Sink counted c h = absurd c
