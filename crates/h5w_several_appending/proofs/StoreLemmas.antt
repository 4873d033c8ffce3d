-- What a session of several datasets stores of its batches, step by step.
use Rattle.std.proofs.Common.{◌≡◌, ◌≢◌, ℕ, suc, ◌+◌, ◌*◌, ◌<◌, ◌≤◌, false, List, [], ◌∷◌, ◌++◌, length, map, ℤ, refl, sym, ap, ◌∙◌, subst, arith, append_assoc, append-nil}
use Rattle.std.specs.Prelude.{slice_set}
use Rattle.std.proofs.lemmas.List.{length-map}
use Rattle.h5w_model.specs.Causes.{Rose}
use Rattle.h5w_model.specs.Datasets.{Described}
use Rattle.h5w_model.specs.Several.{Begun, FileLog, appends_to, pieces_in, plans_each}
use Rattle.h5w_model.specs.declared.piece.Write.{Write}
use Rattle.h5w_model.specs.declared.root.Super.{Super}
use Rattle.h5w_image.specs.View.{DiskView}
use Rattle.h5w_image.proofs.DiskLemmas.{rose_from}
use Rattle.h5w_writer.specs.Sessions.{Session, stopped_of, with_values}
use Rattle.h5w_batches.specs.Batches.{Batches, no_batches}
use Rattle.h5w_files.specs.Images.{LeavesFiles}
use Rattle.h5w_appending.specs.Appending.{Unput}
use Rattle.h5w_appending.specs.Puts.{ComesFirst, counts_of, writes_of}
use Rattle.h5w_appending.specs.Taken.{values_of}
use Rattle.h5w_appending.proofs.PutLemmas.{are_both, are_of, no_puts, writes-append}
use Rattle.h5w_appending.proofs.StoreLemmas.{agrees, puts_more, rose_halted, unput_more, writes_both, first_more}
use Rattle.h5w_several_batches.specs.SetLines.{columns_at}
use Rattle.h5w_several_open.specs.Stands.{opened_file}
use Rattle.h5w_several_writer.specs.Flows.{all_waits}
use Rattle.h5w_several_writer_laws.specs.Sessions.{AppendsTo, Sessions, all_pending, counts_of as pieces_of}
use Rattle.h5w_several_writer_laws.specs.Standing.{StandsAll, and_then}
use Rattle.h5w_several_writer_laws.specs.Valid.{names_in}
use Rattle.h5w_several_writer_laws.proofs.GiveLemmas.{standing_all}
use Rattle.h5w_several_appending.specs.Appending.{AppendsAll, Halted, Planned, PutsAll, PutsHalted, Unflushed}
use Rattle.h5w_several_appending.specs.Puts.{AreAlike, PutsPieces, PutsSome, all_shown}
use Rattle.h5w_several_appending.specs.Stores.{Broke, EachSet, EachTaken, HasTaken, IsEither, IsHalted, IsLogOf, IsSettled, Settled, Stored, datasets_of}
use Rattle.h5w_several_appending.specs.Taken.{SetBatches, add_to, close_each, columns_in, end_each, no_sets, none_waits, rows_with}
use Rattle.h5w_several_appending.proofs.LogLemmas.{each_end, each_map, settled_added, settled_broken, settled_either, settled_planned, settled_shown, shown_pieces, shown_same, up_to_all}
use Rattle.h5w_several_appending.proofs.PartLemmas.{added_names, alike_but, alike_names, names_count, planned_names, some_taken, taken_added, taken_alike, taken_none, taken_planned}
use Rattle.h5w_several_appending.proofs.PutLemmas.{all_put, none_put}
use Rattle.h5w_several_appending.proofs.SetLemmas.{close_some}

-- ---- What comes first

first_idle : (vs ws ps : List Write) → ps ≡ [] → ComesFirst vs (ws ++ ps) → ComesFirst vs ws
first_idle vs ws ps idle h = (h.0, h.1 ∙ ap (λ (x : List Write). ws ++ x) idle ∙ append-nil ws)

pub first_later : (vs ws ps qs : List Write) → ps ≡ [] → ComesFirst vs (ws ++ ps) → ComesFirst vs (ws ++ qs)
first_later vs ws ps qs idle h = first_more vs ws qs (first_idle vs ws ps idle h)

pub first_put : (vs : List Write) (ps qs : List (Write × ℕ)) (old new : List Write) → old ≡ writes_of qs ++ new → ComesFirst vs (writes_of ps ++ old) → ComesFirst vs (writes_of (ps ++ qs) ++ new)
first_put vs ps qs old new pieces h =
    (h.0, h.1 ∙ ap (λ (x : List Write). writes_of ps ++ x) pieces ∙ sym (append_assoc (writes_of ps) (writes_of qs) new) ∙ ap (λ (x : List Write). x ++ new) (sym (writes-append ps qs)))

-- more pieces of it, behind those
pub first_planned : (vs : List Write) (ps qs : List (Write × ℕ)) (old new : List Write) → old ≡ [] → ComesFirst vs (writes_of ps ++ old) → ComesFirst vs (writes_of (ps ++ qs) ++ new)
first_planned vs ps qs old new idle h =
    first_more vs (writes_of (ps ++ qs)) new (subst (λ (x : List Write). ComesFirst vs x) (sym (writes-append ps qs)) (first_more vs (writes_of ps) (writes_of qs) (first_idle vs (writes_of ps) old idle h)))

pub first_whole : (vs : List Write) (ps qs : List (Write × ℕ)) (old : List Write) → old ≡ [] → ComesFirst vs (writes_of ps ++ old) → ComesFirst vs (writes_of (ps ++ qs))
first_whole vs ps qs old idle h = subst (λ (x : List Write). ComesFirst vs x) (sym (writes-append ps qs)) (first_more vs (writes_of ps) (writes_of qs) (first_idle vs (writes_of ps) old idle h))

-- ---- What was taken

root_still : (first S T : Sessions) → T.root ≡ S.root → S.root ≡ record (first.root) { end = S.root.end } → T.root ≡ record (first.root) { end = T.root.end }
root_still first S T same h = same ∙ h ∙ ap (λ n. record (first.root) { end = n }) (sym (ap (λ (r : Super). r.end) same))

alike_taken : (first S T : Sessions) (b : SetBatches) → AreAlike S.parts T.parts → T.root ≡ S.root → T.places.limit ≡ S.places.limit → HasTaken first S b → HasTaken first T b
alike_taken first S T b same root limit h =
    let names = alike_names S.parts T.parts same in
    record {
      names = names ∙ h.names;
      root = root_still first S T root h.root;
      limit = limit ∙ h.limit;
      parts = taken_alike (datasets_of first.parts) S.parts T.parts b.sets same h.parts;
      used = subst (λ n. b.used < n) (sym (names_count S.parts T.parts names)) h.used;
    }

added_taken : (first S T : Sessions) (b : SetBatches) (values : List ℤ) (n : ℕ) → (a : AppendsTo b.used values S T) → length values ≡ n * a.part.dataset.shape.cols → HasTaken first S b → HasTaken first T (record b { sets = add_to b.used values b.sets })
added_taken first S T b values n a rows h =
    let parts : T.parts ≡ slice_set S.parts b.used (with_values a.part values) = ap (λ (x : Sessions). x.parts) a.session in
    let names : names_in T.parts ≡ names_in S.parts = ap names_in parts ∙ added_names S.parts b.used a.part values a.is in
    record {
      names = names ∙ h.names;
      root = root_still first S T (ap (λ (x : Sessions). x.root) a.session) h.root;
      limit = ap (λ (x : Sessions). x.places.limit) a.session ∙ h.limit;
      parts = subst (λ (ss : List Session). EachTaken (datasets_of first.parts) ss (add_to b.used values b.sets)) (sym parts) (taken_added (datasets_of first.parts) S.parts b.sets b.used a.part values n a.is rows h.parts);
      used = subst (λ n. b.used < n) (sym (names_count S.parts T.parts names)) h.used;
    }

planned_taken : (name : List ℕ) (first S T : Sessions) (b : SetBatches) (w : DiskView) → Planned name S T w → HasTaken first S b → HasTaken first T (record b { sets = end_each b.sets; told = b.told ++ rows_with (datasets_of first.parts) (end_each b.sets) ∷ [] })
planned_taken name first S T b w p h =
    let names = planned_names S.parts T.parts p.plans.each in
    record {
      names = names ∙ h.names;
      root = p.plans.root ∙ ap (λ (x : Super). record x { end = T.root.end }) h.root;
      limit = p.plans.limit ∙ h.limit;
      parts = taken_planned (datasets_of first.parts) S.parts T.parts b.sets p.plans.each h.parts;
      used = subst (λ n. b.used < n) (sym (names_count S.parts T.parts names)) h.used;
    }

puts_taken : {v w : DiskView} (name : List ℕ) (first S T : Sessions) (b : SetBatches) → PutsPieces name S T v w → HasTaken first S b → HasTaken first T b
puts_taken name first S T b p h = alike_taken first S T b p.keeps.parts p.keeps.root p.keeps.limit h

-- ---- Logs

shown_log : (img : List ℕ) (sets : List Begun) (T : Sessions) (ws vs : List Write) (log base : FileLog) → StandsAll T (all_shown vs log) → log ≡ record base { events = log.events } → base ≡ opened_file img sets → pieces_in log.events ≡ ws
    → IsLogOf img sets T (ws ++ vs) (all_shown vs log)
shown_log img sets T ws vs log base stands begun is pieces = record {
  stands = stands;
  begun = shown_same vs log ∙ ap (λ (x : FileLog). record x { events = (all_shown vs log).events }) begun ∙ ap (λ (x : FileLog). record x { events = (all_shown vs log).events }) is;
  pieces = shown_pieces vs log ∙ ap (λ (x : List Write). x ++ vs) pieces;
}

pub settled_log : (img : List ℕ) (sets : List Begun) (S T : Sessions) (ws vs : List Write) (b : SetBatches) → ((log : FileLog) → StandsAll S log → StandsAll T (all_shown vs log)) → Settled img sets S ws b → Settled img sets T (ws ++ vs) b
unfolding shown_log
settled_log img sets S T ws vs b stands l = record {
  log = all_shown vs l.log;
  of = shown_log img sets T ws vs l.log (opened_file img sets) (stands l.log l.of.stands) l.of.begun refl l.of.pieces;
  each = each_map 0 sets b.sets (settled_shown vs l.log) l.each;
}

-- of a session that stands for the same logs
pub same_log : (img : List ℕ) (sets : List Begun) (S T : Sessions) (ws : List Write) (b : SetBatches) → ((log : FileLog) → StandsAll S log → StandsAll T log) → Settled img sets S ws b → Settled img sets T ws b
same_log img sets S T ws b stands l = record { log = l.log; of = record { stands = stands l.log l.of.stands; begun = l.of.begun; pieces = l.of.pieces }; each = l.each }

added_log : (img : List ℕ) (sets : List Begun) (S T : Sessions) (ws : List Write) (b : SetBatches) (values : List ℤ) → ((log : FileLog) → StandsAll S log → StandsAll T (and_then (appends_to b.used values) log)) → Settled img sets S ws b
    → Settled img sets T ws (record b { sets = add_to b.used values b.sets })
added_log img sets S T ws b values stands l =
    let log = and_then (appends_to b.used values) l.log in
    record {
      log = log;
      of = record { stands = stands l.log l.of.stands; begun = ap (λ (x : FileLog). record x { events = log.events }) l.of.begun; pieces = l.of.pieces };
      each = settled_added l.log.events b.used 0 b.used values sets b.sets (let e : b.used ≡ 0 + b.used = omega arith in e) l.each;
    }

-- a flush, of which these pieces are shown
module _ (img : List ℕ) (sets : List Begun) (name : List ℕ) (S T R : Sessions) (ws vs : List Write) (b : SetBatches) (w : DiskView) (p : Planned name S T w) (stands : (log : FileLog) → StandsAll T log → StandsAll R (all_shown vs log)) (l : Settled img sets S ws b) where
  abbrev counts : List ℕ
  counts = pieces_of T.parts

  abbrev plan : FileLog
  plan = and_then (plans_each counts) l.log

  pub flush_log : IsLogOf img sets R (ws ++ vs) (all_shown vs plan)
  unfolding shown_log
  flush_log = shown_log img sets R ws vs plan (opened_file img sets) (stands plan (p.stands l.log l.of.stands)) (ap (λ (x : FileLog). record x { events = plan.events }) l.of.begun) refl l.of.pieces

  -- all are
  pub flush_settled : length (all_pending T.parts) ≡ length vs → EachSet (IsSettled (all_shown vs plan).events) 0 sets (end_each b.sets)
  flush_settled count = each_end (IsSettled (all_shown vs plan).events) 0 sets b.sets (λ d s q h. settled_planned counts vs l.log d s q (let low = up_to_all d T.parts in omega (arith, low, count)) h) l.each

  -- some are
  pub flush_either : EachSet (IsEither (all_shown vs plan).events) 0 sets b.sets
  flush_either = each_map 0 sets b.sets (λ d s q h. settled_broken counts vs l.log d s q h) l.each

-- ---- Steps that put nothing

-- values were appended, by a session that had nothing pending
pub stored_values : {u v w : DiskView} (name : List ℕ) (first S T : Sessions) (b : SetBatches) (values : List ℤ) (n : ℕ) → (a : AppendsAll name b.used S T values w) → length values ≡ n * a.added.part.dataset.shape.cols → all_pending S.parts ≡ [] → Unput name v w
    → Stored name first S b u v → Stored name first T (record b { sets = add_to b.used values b.sets }) u w
stored_values {u} {v} {w} name first S T b values n a rows idle p h = record {
  taken = added_taken first S T b values n a.added rows h.taken;
  puts = h.puts;
  disk = unput_more name h.puts h.disk p.disk;
  since = h.since;
  begins = first_later (all_pending first.parts) (writes_of h.puts) (all_pending S.parts) (all_pending T.parts) idle h.begins;
  logs = λ img sets stands. added_log img sets S T (writes_of h.puts) b values a.stands (h.logs img sets stands);
}

-- another dataset is in use
pub stored_used : {u v : DiskView} (name : List ℕ) (first S : Sessions) (b : SetBatches) (d : ℕ) → d < length S.parts → Stored name first S b u v → Stored name first S (record b { used = d }) u v
stored_used {u} {v} name first S b d inside h = record {
  taken = record { names = h.taken.names; root = h.taken.root; limit = h.taken.limit; parts = h.taken.parts; used = inside };
  puts = h.puts;
  disk = h.disk;
  since = h.since;
  begins = h.begins;
  logs = λ img sets stands. let l = h.logs img sets stands in record { log = l.log; of = l.of; each = l.each };
}

-- a flush was refused
pub stored_unflushed : {u v w : DiskView} (name : List ℕ) (first S T : Sessions) (b : SetBatches) → all_pending S.parts ≡ [] → Unflushed S T → Unput name v w → Stored name first S b u v → Stored name first T b u w
stored_unflushed {u} {v} {w} name first S T b idle a p h =
    let is = a.same.session in
    record {
      taken = alike_taken first S T b (alike_but S.parts T.parts a.same.parts) (ap (λ (x : Sessions). x.root) is) (ap (λ (x : Sessions). x.places.limit) is) h.taken;
      puts = h.puts;
      disk = unput_more name h.puts h.disk p.disk;
      since = h.since;
      begins = first_later (all_pending first.parts) (writes_of h.puts) (all_pending S.parts) (all_pending T.parts) idle h.begins;
      logs = λ img sets stands. same_log img sets S T (writes_of h.puts) b a.stands (h.logs img sets stands);
    }

-- nothing was done
pub stored_same : {u v w : DiskView} (name : List ℕ) (first S : Sessions) (b : SetBatches) → Unput name v w → Stored name first S b u v → Stored name first S b u w
stored_same {u} {v} {w} name first S b p h = record { taken = h.taken; puts = h.puts; disk = unput_more name h.puts h.disk p.disk; since = h.since; begins = h.begins; logs = h.logs }

-- the session of a settled log, as one that is stopped
halted_of : (img : List ℕ) (sets : List Begun) (names : List (List ℕ)) (limit : ℕ) (S T : Sessions) (ws : List Write) (b : SetBatches) → names_in T.parts ≡ names → T.places.limit ≡ limit → ((log : FileLog) → StandsAll S log → StandsAll T log) → Settled img sets S ws b
    → IsHalted IsEither img sets names limit ws b
halted_of img sets names limit S T ws b named limited stands l = record {
  session = T;
  names_are = named;
  limit_is = limited;
  log = l.log;
  of = record { stands = stands l.log l.of.stands; begun = l.of.begun; pieces = l.of.pieces };
  each = each_map 0 sets b.sets (settled_either l.log.events) l.each;
}

stopped_names : (ss : List Session) → names_in (map stopped_of ss) ≡ names_in ss
stopped_names [] = refl
stopped_names (s ∷ ss) = ap (λ (ns : List (List ℕ)). s.name ∷ ns) (stopped_names ss)

-- of one that was stopped
pub halted_names : (S T : Sessions) → Halted S T → names_in T.parts ≡ names_in S.parts
halted_names S T a = ap (λ (x : Sessions). names_in x.parts) a.session ∙ stopped_names S.parts

-- the image failed, and the session was stopped
pub broke_before : {u v w : DiskView} (name : List ℕ) (first S T : Sessions) (b : SetBatches) → Halted S T → Unput name v w → Rose v.faults w.faults → Stored name first S b u v → Broke name first b u w
broke_before {u} {v} {w} name first S T b a p rose h = record {
  puts = h.puts;
  disk = unput_more name h.puts h.disk p.disk;
  since = h.since;
  rose = rose_from u.faults v.faults w.faults h.disk.faults rose;
  begins = agrees (all_pending first.parts) (writes_of h.puts) (all_pending S.parts) h.begins;
  logs = λ img sets stands.
      halted_of img sets (names_in first.parts) first.places.limit S T (writes_of h.puts) b (halted_names S T a ∙ h.taken.names) (ap (λ (x : Sessions). x.places.limit) a.session ∙ h.taken.limit) a.stands (h.logs img sets stands);
}

-- ---- The puts of pending pieces

-- all were put
pub puts_all : {v w : DiskView} (n : ℕ) (name : List ℕ) (S T : Sessions) → v.faults ≡ n → PutsPieces name S T v w → all_pending T.parts ≡ [] → w.faults ≡ v.faults → PutsAll n name S T v w
puts_all n name S T counted p all calm = record { puts = p; all = all; before = counted; calm = calm ∙ counted }

-- the disk failed at one of them
pub puts_halted : {v w : DiskView} (n : ℕ) (name : List ℕ) (S middle T : Sessions) → v.faults ≡ n → PutsSome name S middle v w → Halted middle T → PutsHalted n name S T v w
puts_halted {v} {w} n name S middle T counted p halted = record {
  middle = middle;
  puts = p.before;
  since = are_of v.faults n (counts_of p.before.puts) counted p.before.since;
  rose = λ low. subst (λ m. Rose m w.faults) counted p.rose;
  halted = halted;
}

-- it had failed before
pub puts_late : {v : DiskView} (n : ℕ) (name : List ℕ) (S T : Sessions) → v.faults ≢ n → Halted S T → PutsHalted n name S T v v
puts_late {v} n name S T other halted =
    let none = none_put v n name S in
    record { middle = S; puts = none.0; since = none.1; rose = λ low. rises n v.faults low other; halted = halted }
  where
    rises : (a b : ℕ) → a ≤ b → b ≢ a → Rose a b
    rises a b low other = grind (arith, low, other)

-- pieces that bring no rows were put
pub stored_puts : {u v w : DiskView} (name : List ℕ) (first S T : Sessions) (b : SetBatches) → v.faults ≡ u.faults → PutsPieces name S T v w → Stored name first S b u v → Stored name first T b u w
stored_puts {u} {v} {w} name first S T b calm p h = record {
  taken = puts_taken name first S T b p h.taken;
  puts = h.puts ++ p.puts;
  disk = puts_more name h.puts p.puts h.disk p.disk;
  since = are_both u.faults h.puts p.puts h.since (are_of v.faults u.faults (counts_of p.puts) calm p.since);
  begins = first_put (all_pending first.parts) h.puts p.puts (all_pending S.parts) (all_pending T.parts) p.pieces h.begins;
  logs = λ img sets stands. writes_both (λ ws. Settled img sets T ws b) h.puts p.puts (settled_log img sets S T (writes_of h.puts) (writes_of p.puts) b p.stands (h.logs img sets stands));
}

-- the disk failed at one of them
pub broke_puts : {u v w : DiskView} (n : ℕ) (name : List ℕ) (first S T : Sessions) (b : SetBatches) → u.faults ≡ n → PutsHalted n name S T v w → Stored name first S b u v → Broke name first b u w
broke_puts {u} {v} {w} n name first S T b counted p h =
    let q = p.puts in
    let middle = p.middle in
    record {
      puts = h.puts ++ q.puts;
      disk = puts_more name h.puts q.puts h.disk q.disk;
      since = are_both u.faults h.puts q.puts h.since (are_of n u.faults (counts_of q.puts) (sym counted) p.since);
      rose = rose_halted u.faults v.faults n w.faults counted h.disk.faults p.rose;
      begins = agrees (all_pending first.parts) (writes_of (h.puts ++ q.puts)) (all_pending middle.parts) (first_put (all_pending first.parts) h.puts q.puts (all_pending S.parts) (all_pending middle.parts) q.pieces h.begins);
      logs = λ img sets stands. writes_both (λ ws. IsHalted IsEither img sets (names_in first.parts) first.places.limit ws b) h.puts q.puts (
          halted_of img sets (names_in first.parts) first.places.limit middle T (writes_of h.puts ++ writes_of q.puts) b (halted_names middle T p.halted ∙ (puts_taken name first S middle b q h.taken).names)
          (ap (λ (x : Sessions). x.places.limit) p.halted.session ∙ (puts_taken name first S middle b q h.taken).limit) p.halted.stands
          (settled_log img sets S middle (writes_of h.puts) (writes_of q.puts) b q.stands (h.logs img sets stands))
          );
    }

-- ---- A batch

-- all pieces were put
pub stored_batch : {u v x w : DiskView} (n : ℕ) (name : List ℕ) (first S T R : Sessions) (b : SetBatches) → u.faults ≡ n → all_pending S.parts ≡ [] → Unput name v x → Planned name S T x → PutsAll n name T R x w → Stored name first S b u v
    → Stored name first R (close_each (datasets_of first.parts) b) u w
stored_batch {u} {v} {x} {w} n name first S T R b counted idle p plan q h =
    let ps = q.puts in
    let ds = datasets_of first.parts in
    let next : SetBatches = record b { sets = end_each b.sets; told = b.told ++ rows_with ds (end_each b.sets) ∷ [] } in
    let some : none_waits b.sets ≡ false = some_taken ds S.parts b.sets plan.waits h.taken.parts in
    let count : length (all_pending T.parts) ≡ length (writes_of ps.puts) = ap length (all_put name T R ps q.all) in
    let stored : Stored name first R next u w = record {
      taken = puts_taken name first T R next ps (planned_taken name first S T b x plan h.taken);
      puts = h.puts ++ ps.puts;
      disk = puts_more name h.puts ps.puts (unput_more name h.puts h.disk p.disk) ps.disk;
      since = are_both u.faults h.puts ps.puts h.since (are_of x.faults u.faults (counts_of ps.puts) (q.before ∙ sym counted) ps.since);
      begins = first_planned (all_pending first.parts) h.puts ps.puts (all_pending S.parts) (all_pending R.parts) idle h.begins;
      logs = λ img sets stands.
          let l = h.logs img sets stands in
          writes_both (λ ws. Settled img sets R ws next) h.puts ps.puts (record {
            log = all_shown (writes_of ps.puts) (and_then (plans_each (pieces_of T.parts)) l.log);
            of = flush_log img sets name S T R (writes_of h.puts) (writes_of ps.puts) b x plan ps.stands l;
            each = flush_settled img sets name S T R (writes_of h.puts) (writes_of ps.puts) b x plan ps.stands l count;
          });
    } in
    subst (λ (c : SetBatches). Stored name first R c u w) (sym (close_some ds b some)) stored

-- the disk failed at a piece
pub broke_batch : {u v x w : DiskView} (n : ℕ) (name : List ℕ) (first S T R : Sessions) (b : SetBatches) → u.faults ≡ n → all_pending S.parts ≡ [] → Unput name v x → Planned name S T x → PutsHalted n name T R x w → Stored name first S b u v → Broke name first b u w
broke_batch {u} {v} {x} {w} n name first S T R b counted idle p plan q h =
    let ps = q.puts in
    let middle = q.middle in
    let taken = puts_taken name first T middle _ ps (planned_taken name first S T b x plan h.taken) in
    let before = unput_more name h.puts h.disk p.disk in
    record {
      puts = h.puts ++ ps.puts;
      disk = puts_more name h.puts ps.puts before ps.disk;
      since = are_both u.faults h.puts ps.puts h.since (are_of n u.faults (counts_of ps.puts) (sym counted) q.since);
      rose = rose_halted u.faults x.faults n w.faults counted before.faults q.rose;
      begins = agrees (all_pending first.parts) (writes_of (h.puts ++ ps.puts)) (all_pending middle.parts) (first_planned (all_pending first.parts) h.puts ps.puts (all_pending S.parts) (all_pending middle.parts) idle h.begins);
      logs = λ img sets stands.
          let l = h.logs img sets stands in
          let of = flush_log img sets name S T middle (writes_of h.puts) (writes_of ps.puts) b x plan ps.stands l in
          let log = all_shown (writes_of ps.puts) (and_then (plans_each (pieces_of T.parts)) l.log) in
          writes_both (λ ws. IsHalted IsEither img sets (names_in first.parts) first.places.limit ws b) h.puts ps.puts (record {
            session = R;
            names_are = halted_names middle R q.halted ∙ taken.names;
            limit_is = ap (λ (y : Sessions). y.places.limit) q.halted.session ∙ taken.limit;
            log = log;
            of = record { stands = q.halted.stands log of.stands; begun = of.begun; pieces = of.pieces };
            each = flush_either img sets name S T middle (writes_of h.puts) (writes_of ps.puts) b x plan ps.stands l;
          });
    }

-- ---- Where it begins

-- no batch of any dataset
abbrev AllNone : List Batches → Type 0
AllNone [] = Unit {0}
AllNone (b ∷ bs) = (b ≡ no_batches) × AllNone bs

begun_each : (sets : List Begun) (bs : List Batches) (k : ℕ) → length sets ≡ length bs → AllNone bs → EachSet (IsSettled []) k sets bs
begun_each [] [] k e h = tt
begun_each [] (b ∷ bs) k e h = absurd (omega (arith, e))
begun_each (s ∷ sets) [] k e h = absurd (omega (arith, e))
begun_each (s ∷ sets) (b ∷ bs) k e h =
    let none : b ≡ no_batches = h.0 in (
      record { flushed_are = λ n. sym (ap (λ (q : Batches). s.values ++ values_of q.closed) none ∙ append-nil s.values); appended_are = sym (ap (λ (q : Batches). values_of q.closed ++ q.waiting) none) },
      begun_each sets bs (suc k) (omega (arith, e)) h.1,
    )

none_each : (ds : List Described) → AllNone (map (λ (d : Described). no_batches) ds)
none_each [] = tt
none_each (d ∷ ds) = (refl, none_each ds)

-- nothing was stored yet
pub stored_none : {u v : DiskView} (name : List ℕ) (S : Sessions) → LeavesFiles u.told u v → 1 ≤ length S.parts → ((k : ℕ) → 1 ≤ columns_at (columns_in S.parts) k) → all_waits S.parts ≡ 0 → Stored name S S (no_sets (datasets_of S.parts)) u v
stored_none {u} {v} name S p some columns none = record {
  taken = record { names = refl; root = refl; limit = refl; parts = taken_none S.parts columns none; used = some };
  puts = [];
  disk = record { told = p.told ∙ no_puts name u.told; faults = p.faults; through = p.through };
  since = tt;
  begins = ([], append-nil (all_pending S.parts));
  logs = λ img sets stands.
      let log = opened_file img sets in
      let count : length sets ≡ length S.parts = standing_all.sets S log stands in
      record {
        log = log;
        of = record { stands = stands; begun = refl; pieces = refl };
        each = begun_each sets (map (λ (d : Described). no_batches) (datasets_of S.parts)) 0 (count ∙ sym (length-map (datasets_of S.parts) (λ (d : Described). no_batches) ∙ length-map S.parts (λ (s : Session). s.dataset))) (none_each (datasets_of S.parts));
      };
}
