-- What a session stores of its batches, step by step.
use Rattle.std.proofs.Common.{◌≡◌, ◌≢◌, ◌⊎◌, ℕ, zero, suc, ◌+◌, ◌*◌, ◌/◌, ◌<◌, ◌≤◌, List, [], ◌∷◌, ◌++◌, length, ℤ, refl, sym, ap, ◌∙◌, subst, inl, inr, arith, append_assoc, append-nil, length-append}
use Rattle.std.specs.Prelude.{option_map}
use Rattle.std.proofs.Math.Nat.{zero-mul}
use Rattle.h5w_model.specs.Causes.{Rose}
use Rattle.h5w_model.specs.Logs.{Log, and_now, appended_in, appends, flushed_in, hist, plans}
use Rattle.h5w_model.specs.declared.piece.Write.{Write}
use Rattle.h5w_model.specs.declared.root.Super.{Super}
use Rattle.h5w_model.specs.Datasets.{Described}
use Rattle.h5w_image.specs.View.{DiskView, ImageView, Same}
use Rattle.h5w_image.proofs.DiskLemmas.{rose_from}
use Rattle.h5w_writer.specs.Openings.{opened_log}
use Rattle.h5w_writer.specs.Room.{HasRoomFor}
use Rattle.h5w_writer.specs.Sessions.{AddsValues, IsNamed, Session, TakesRows, rows_of}
use Rattle.h5w_writer.specs.Stands.{Stands}
use Rattle.h5w_files.specs.Images.{LeavesFiles, file_image}
use Rattle.h5w_batches.specs.Batches.{Batches, close_batch, no_batches}
use Rattle.h5w_appending.specs.Taken.{values_of}
use Rattle.h5w_appending.specs.Puts.{AgreesAtFirst, ComesFirst, PutsPieces, PutsSome, after_puts, counts_of, showing, writes_of}
use Rattle.h5w_appending.specs.Appends.{Broke, HasTaken, IsLogOf, Settled, Stored, columns_of, grown}
use Rattle.h5w_appending.specs.Appending.{AppendsAll, Halted, HasNone, Planned, PutsAll, PutsHalted, Unflushed, Unput}
use Rattle.h5w_appending.proofs.BatchLemmas.{batch_rows, plan_done, plan_open, showing_appended, showing_flushed, showing_hist, showing_same, values_closed}
use Rattle.h5w_files.proofs.ImageLemmas.{same_name}
use Rattle.h5w_appending.proofs.PutLemmas.{are_both, are_of, no_puts, none_put, puts_twice, writes-append}

-- ---- Disks

-- an image that is the same is a file into which nothing was put
pub unput_of : {v w : DiskView} (r q : ℕ) (name other : List ℕ) → Same (file_image r name v) (file_image q other w) → Unput name v w
unput_of {v} {w} r q name other same =
    let both = same_name r q name other v.through w.through same.through in
    record {
      disk = record { told = same.disk; faults = same.faults; through = both.1 };
      room = same.pieces;
      end = subst (λ (n : List ℕ). v.end name ≤ w.end n) both.0 same.end;
    }

-- and works through the same reference
pub reference_of : {v w : ImageView} → Same v w → (r q : ℕ) (xs ys : List ℕ) → v.through ≡ r ∷ xs → w.through ≡ q ∷ ys → q ≡ r
reference_of same r q xs ys e f = let both : q ∷ ys ≡ r ∷ xs = sym f ∙ same.through ∙ e in cc

-- values that were appended
pub appends_ok : (v w : DiskView) (r q : ℕ) (name other : List ℕ) (s t : Session) (values : List ℤ) → Same (file_image r name v) (file_image q other w) → AddsValues s values t → ((log : Log) → Stands s log → Stands t (and_now (appends values) log))
    → HasRoomFor t (file_image q other w) → AppendsAll name s t values w
appends_ok v w r q name other s t values same added stands room = record {
  added = added;
  stands = stands;
  room = room.pieces;
  end = subst (λ (m : List ℕ). t.places.end ≤ w.end m) (same_name r q name other v.through w.through same.through).0 room.end;
}

-- what a flush that was not refused planned
pub flushes_ok : (v w : DiskView) (r q : ℕ) (name other : List ℕ) (s t : Session) (n : ℕ) → Same (file_image r name v) (file_image q other w) → TakesRows s t → n ≡ length t.pending → (0 < s.waits → 1 ≤ n) → (s.waits ≡ 0 → t ≡ s)
    → ((log : Log) → Stands s log → Stands t (and_now (plans n) log)) → HasRoomFor t (file_image q other w) → HasNone s t ⊎ Planned name s t w
flushes_ok v w r q name other s t n same rows count some nothing stands room = cases s.waits refl
  where
    cases : (k : ℕ) → s.waits ≡ k → HasNone s t ⊎ Planned name s t w
    cases zero e = inl (e, nothing e)
    cases (suc k) e = inr (record {
      waits = omega (arith, e);
      rows = rows;
      some = let one = some (omega (arith, e)) in omega (arith, one, count);
      stands = λ log h. subst (λ m. Stands t (and_now (plans m) log)) count (stands log h);
      room = room.pieces;
      end = subst (λ (m : List ℕ). t.places.end ≤ w.end m) (same_name r q name other v.through w.through same.through).0 room.end;
    })

-- puts that were done, and more behind them
pub puts_more : {u v w : DiskView} (name : List ℕ) (ps qs : List (Write × ℕ)) → LeavesFiles (option_map (after_puts name ps) u.told) u v → LeavesFiles (option_map (after_puts name qs) v.told) v w
    → LeavesFiles (option_map (after_puts name (ps ++ qs)) u.told) u w
puts_more {u} name ps qs p q = record {
  told = q.told ∙ ap (option_map (after_puts name qs)) p.told ∙ puts_twice name ps qs u.told;
  faults = omega (arith, p.faults, q.faults);
  through = q.through ∙ p.through;
}

pub unput_more : {u v w : DiskView} (name : List ℕ) (ps : List (Write × ℕ)) → LeavesFiles (option_map (after_puts name ps) u.told) u v → LeavesFiles v.told v w
    → LeavesFiles (option_map (after_puts name ps) u.told) u w
unput_more name ps p q = record { told = q.told ∙ p.told; faults = omega (arith, p.faults, q.faults); through = q.through ∙ p.through }

-- what is pending is put, or stays
first_still : (vs ws : List Write) (s t : Session) → t.pending ≡ s.pending → ComesFirst vs (ws ++ s.pending) → ComesFirst vs (ws ++ t.pending)
first_still vs ws s t same h = (h.0, h.1 ∙ ap (λ (x : List Write). ws ++ x) (sym same))

first_put : (vs : List Write) (s t : Session) (ps qs : List (Write × ℕ)) → s.pending ≡ writes_of qs ++ t.pending → ComesFirst vs (writes_of ps ++ s.pending) → ComesFirst vs (writes_of (ps ++ qs) ++ t.pending)
first_put vs s t ps qs pieces h =
    (h.0, h.1 ∙ ap (λ (x : List Write). writes_of ps ++ x) pieces ∙ sym (append_assoc (writes_of ps) (writes_of qs) t.pending) ∙ ap (λ (x : List Write). x ++ t.pending) (sym (writes-append ps qs)))

-- and then more
pub first_more : (vs ws xs : List Write) → ComesFirst vs ws → ComesFirst vs (ws ++ xs)
first_more vs ws xs h = (h.0 ++ xs, sym (append_assoc vs h.0 xs) ∙ ap (λ (x : List Write). x ++ xs) h.1)

-- of a session that has nothing pending
first_idle : (vs ws : List Write) (s : Session) → s.pending ≡ [] → ComesFirst vs (ws ++ s.pending) → ComesFirst vs ws
first_idle vs ws s idle h = (h.0, h.1 ∙ ap (λ (x : List Write). ws ++ x) idle ∙ append-nil ws)

-- those that are pending later come behind
first_later : (vs ws : List Write) (s t : Session) → s.pending ≡ [] → ComesFirst vs (ws ++ s.pending) → ComesFirst vs (ws ++ t.pending)
first_later vs ws s t idle h = first_more vs ws t.pending (first_idle vs ws s idle h)

-- more pieces of it, behind those
pub first_planned : (vs : List Write) (s t : Session) (ps qs : List (Write × ℕ)) → s.pending ≡ [] → ComesFirst vs (writes_of ps ++ s.pending) → ComesFirst vs (writes_of (ps ++ qs) ++ t.pending)
first_planned vs s t ps qs idle h =
    first_more vs (writes_of (ps ++ qs)) t.pending (subst (λ (x : List Write). ComesFirst vs x) (sym (writes-append ps qs)) (first_more vs (writes_of ps) (writes_of qs) (first_idle vs (writes_of ps) s idle h)))

-- as far as they were put
pub agrees : (vs ws xs : List Write) → ComesFirst vs (ws ++ xs) → AgreesAtFirst vs ws
agrees vs ws xs h = (xs, h)

pub first_whole : (vs : List Write) (s : Session) (ps qs : List (Write × ℕ)) → s.pending ≡ [] → ComesFirst vs (writes_of ps ++ s.pending) → ComesFirst vs (writes_of (ps ++ qs))
first_whole vs s ps qs idle h = subst (λ (x : List Write). ComesFirst vs x) (sym (writes-append ps qs)) (first_more vs (writes_of ps) (writes_of qs) (first_idle vs (writes_of ps) s idle h))

-- ---- Values of a line

added_taken : (first s t : Session) (b : Batches) (values : List ℤ) (n : ℕ) → 1 ≤ columns_of first → length values ≡ n * s.dataset.shape.cols → AddsValues s values t → HasTaken first s b → HasTaken first t (record b { waiting = b.waiting ++ values })
added_taken first s t b values n some rows a h =
    let is = a.session in
    let name : t.name ≡ s.name = ap (λ (x : Session). x.name) is in
    let root : t.root ≡ s.root = ap (λ (x : Session). x.root) is in
    let dataset : t.dataset ≡ s.dataset = ap (λ (x : Session). x.dataset) is in
    let waits : t.waits ≡ s.waits + length values / s.dataset.shape.cols = ap (λ (x : Session). x.waits) is in
    let low = h.rises in
    let more = a.rises in
    let same : s.dataset.shape.cols ≡ columns_of first = ap (λ (d : Described). d.shape.cols) h.dataset in
    let count : length values ≡ n * columns_of first = rows ∙ ap (λ c. n * c) same in
    let quotient : length values / s.dataset.shape.cols ≡ n = ap (λ c. length values / c) same ∙ ap (λ k. k / columns_of first) count ∙ divides n (columns_of first) some in
    record {
      name = name ∙ h.name;
      root = root ∙ h.root ∙ ap (λ n. record (first.root) { end = n }) (sym (ap (λ (r : Super). r.end) root));
      dataset = dataset ∙ h.dataset ∙ ap (λ (d : Described). grown d.shape.rows d.layout.address first.dataset) (sym dataset);
      named = λ n. ap (λ (d : Described). d.layout.address) dataset ∙ h.named n;
      rows = ap (λ (d : Described). d.shape.rows) dataset ∙ h.rows;
      waits = length-append b.waiting values ∙ ap (λ k. k + length values) h.waits ∙ ap (λ k. s.waits * columns_of first + k) count ∙ distributes s.waits n (columns_of first)
          ∙ ap (λ k. (s.waits + k) * columns_of first) (sym quotient) ∙ ap (λ k. k * columns_of first) (sym waits);
      limit = a.limit ∙ h.limit;
      rises = omega (arith, low, more);
      keeps = ap (λ (x : Session). x.keeps) is ∙ h.keeps;
      budget = ap (λ (x : Session). x.budget) is ∙ h.budget;
    }
  where
    divides : (n c : ℕ) → 1 ≤ c → n * c / c ≡ n
    divides n c some = grind arith

    distributes : (a b c : ℕ) → a * c + b * c ≡ (a + b) * c
    distributes a b c = grind arith

added_log : (img : List ℕ) (columns : ℕ) (xs : List ℤ) (s t : Session) (ws : List Write) (b : Batches) (values : List ℤ) → ((log : Log) → Stands s log → Stands t (and_now (appends values) log)) → Settled img columns xs s ws b
    → Settled img columns xs t ws (record b { waiting = b.waiting ++ values })
added_log img columns xs s t ws b values stands l =
    let log = l.of.log in
    record {
      of = record {
        log = and_now (appends values) log;
        stands = stands log l.of.stands;
        begun = ap (λ (x : Log). record x { events = appends values ∷ log.events }) l.of.begun;
        pieces = l.of.pieces;
        flushed_are = l.of.flushed_are;
        appended_are = ap (λ (vs : List ℤ). vs ++ values) l.of.appended_are ∙ append_assoc (values_of b.closed) b.waiting values;
      };
      settled = l.settled;
    }

-- values were appended, by a session that had nothing pending
pub stored_values : {u v w : DiskView} (name : List ℕ) (first s t : Session) (b : Batches) (values : List ℤ) (n : ℕ) → 1 ≤ columns_of first → length values ≡ n * s.dataset.shape.cols → s.pending ≡ [] → AppendsAll name s t values w → Unput name v w
    → Stored name first s b u v → Stored name first t (record b { waiting = b.waiting ++ values }) u w
stored_values {u} {v} {w} name first s t b values n some rows idle a p h = record {
  taken = added_taken first s t b values n some rows a.added h.taken;
  puts = h.puts;
  disk = unput_more name h.puts h.disk p.disk;
  since = h.since;
  begins = first_later first.pending (writes_of h.puts) s t idle h.begins;
  logs = λ img columns xs stands. added_log img columns xs s t (writes_of h.puts) b values a.stands (h.logs img columns xs stands);
}

-- ---- Refusals

but_taken : (first s t : Session) (b : Batches) → t ≡ record s { index = t.index } → HasTaken first s b → HasTaken first t b
but_taken first s t b same h =
    let name : t.name ≡ s.name = ap (λ (x : Session). x.name) same in
    let root : t.root ≡ s.root = ap (λ (x : Session). x.root) same in
    let dataset : t.dataset ≡ s.dataset = ap (λ (x : Session). x.dataset) same in
    let waits : t.waits ≡ s.waits = ap (λ (x : Session). x.waits) same in
    let end : t.places.end ≡ s.places.end = ap (λ (x : Session). x.places.end) same in
    let low = h.rises in
    record {
      name = name ∙ h.name;
      root = root ∙ h.root ∙ ap (λ n. record (first.root) { end = n }) (sym (ap (λ (r : Super). r.end) root));
      dataset = dataset ∙ h.dataset ∙ ap (λ (d : Described). grown d.shape.rows d.layout.address first.dataset) (sym dataset);
      named = λ n. ap (λ (d : Described). d.layout.address) dataset ∙ h.named n;
      rows = ap (λ (d : Described). d.shape.rows) dataset ∙ h.rows;
      waits = h.waits ∙ ap (λ n. n * columns_of first) (sym waits);
      limit = ap (λ (x : Session). x.places.limit) same ∙ h.limit;
      rises = omega (arith, low, end);
      keeps = ap (λ (x : Session). x.keeps) same ∙ h.keeps;
      budget = ap (λ (x : Session). x.budget) same ∙ h.budget;
    }

pub same_log : (img : List ℕ) (columns : ℕ) (xs : List ℤ) (s t : Session) (ws : List Write) (b : Batches) → ((log : Log) → Stands s log → Stands t log) → Settled img columns xs s ws b → Settled img columns xs t ws b
same_log img columns xs s t ws b stands l = record {
  of = record { log = l.of.log; stands = stands l.of.log l.of.stands; begun = l.of.begun; pieces = l.of.pieces; flushed_are = l.of.flushed_are; appended_are = l.of.appended_are };
  settled = l.settled;
}

-- a flush was refused
pub stored_unflushed : {u v w : DiskView} (name : List ℕ) (first s t : Session) (b : Batches) → Unflushed s t → Unput name v w → Stored name first s b u v → Stored name first t b u w
stored_unflushed {u} {v} {w} name first s t b a p h = record {
  taken = but_taken first s t b a.same.session h.taken;
  puts = h.puts;
  disk = unput_more name h.puts h.disk p.disk;
  since = h.since;
  begins = first_still first.pending (writes_of h.puts) s t (ap (λ (x : Session). x.pending) a.same.session) h.begins;
  logs = λ img columns xs stands. same_log img columns xs s t (writes_of h.puts) b a.stands (h.logs img columns xs stands);
}

-- nothing was done
pub stored_same : {u v w : DiskView} (name : List ℕ) (first s : Session) (b : Batches) → Unput name v w → Stored name first s b u v → Stored name first s b u w
stored_same {u} {v} {w} name first s b p h = record {
  taken = h.taken;
  puts = h.puts;
  disk = unput_more name h.puts h.disk p.disk;
  since = h.since;
  begins = h.begins;
  logs = h.logs;
}

-- the image failed, and the session was stopped
pub broke_before : {u v w : DiskView} (name : List ℕ) (first s t : Session) (b : Batches) → Halted s t → Unput name v w → Rose v.faults w.faults → Stored name first s b u v → Broke name first b u w
broke_before {u} {v} {w} name first s t b a p rose h = record {
  puts = h.puts;
  disk = unput_more name h.puts h.disk p.disk;
  since = h.since;
  rose = rose_from u.faults v.faults w.faults h.disk.faults rose;
  begins = agrees first.pending (writes_of h.puts) s.pending h.begins;
  logs = λ img columns xs stands. let l = h.logs img columns xs stands in record {
    session = t;
    stopped = ap (λ (x : Session). x.stopped) a.session;
    named = ap (λ (x : Session). x.name) a.session ∙ h.taken.name;
    of = record { log = l.of.log; stands = a.stands l.of.log l.of.stands; begun = l.of.begun; pieces = l.of.pieces; flushed_are = l.of.flushed_are; appended_are = l.of.appended_are };
  };
}

-- ---- The puts of pending pieces

-- all were put
pub puts_all : {v w : DiskView} (n : ℕ) (name : List ℕ) (s t : Session) → v.faults ≡ n → PutsPieces name s t v w → t.pending ≡ [] → w.faults ≡ v.faults → PutsAll n name s t v w
puts_all n name s t counted p all calm = record { puts = p; all = all; before = counted; calm = calm ∙ counted }

-- the disk failed at one of them
pub puts_halted : {v w : DiskView} (n : ℕ) (name : List ℕ) (s middle t : Session) → v.faults ≡ n → PutsSome name s middle v w → Halted middle t → PutsHalted n name s t v w
puts_halted {v} {w} n name s middle t counted p halted = record {
  middle = middle;
  puts = p.before;
  since = are_of v.faults n (counts_of p.before.puts) counted p.before.since;
  left = λ some. p.left;
  rose = λ low. subst (λ m. Rose m w.faults) counted p.rose;
  halted = halted;
}

-- it had failed before
pub puts_late : {v : DiskView} (n : ℕ) (name : List ℕ) (s t : Session) → v.faults ≢ n → Halted s t → PutsHalted n name s t v v
puts_late {v} n name s t other halted = record {
  middle = s;
  puts = (none_put v n name s).0;
  since = (none_put v n name s).1;
  left = λ some. some;
  rose = λ low. rises n v.faults low other;
  halted = halted;
}
  where
    rises : (a b : ℕ) → a ≤ b → b ≢ a → Rose a b
    rises a b low other = grind (arith, low, other)

-- ---- Pieces of no flush

shown_log : (img : List ℕ) (columns : ℕ) (xs : List ℤ) (t : Session) (ws vs : List Write) (b : Batches) (log : Log) → Stands t (showing vs log) → log ≡ record (opened_log img columns xs) { events = log.events } → hist log.events ≡ ws
    → flushed_in 0 log.values (showing vs log).events ≡ xs ++ values_of b.closed → appended_in log.events ≡ values_of b.closed ++ b.waiting → IsLogOf img columns xs t (ws ++ vs) b
shown_log img columns xs t ws vs b log stands begun pieces flushed appended =
    let new = showing vs log in
    let same = showing_same vs log in
    record {
      log = new;
      stands = stands;
      begun = same ∙ ap (λ (x : Log). record x { events = new.events }) begun;
      pieces = showing_hist vs log ∙ ap (λ (x : List Write). x ++ vs) pieces;
      flushed_are = ap (λ (x : List ℤ). flushed_in 0 x new.events) (ap (λ (x : Log). x.values) same) ∙ flushed;
      appended_are = showing_appended vs log ∙ appended;
    }

pub settled_log : (img : List ℕ) (columns : ℕ) (xs : List ℤ) (s t : Session) (ws vs : List Write) (b : Batches) → ((log : Log) → Stands s log → Stands t (showing vs log)) → Settled img columns xs s ws b → Settled img columns xs t (ws ++ vs) b
unfolding shown_log
settled_log img columns xs s t ws vs b stands l =
    let log = l.of.log in
    let values : log.values ≡ xs = ap (λ (x : Log). x.values) l.of.begun in
    record {
      of =
          shown_log img columns xs t ws vs b log (stands log l.of.stands) l.of.begun l.of.pieces
          (showing_flushed vs log 0 log.values ∙ ap (λ (x : List ℤ). flushed_in (0 + length vs) x log.events) values ∙ l.settled (0 + length vs)) l.of.appended_are;
      settled = λ n. showing_flushed vs log n xs ∙ l.settled (n + length vs);
    }

pub puts_taken : {v w : DiskView} (name : List ℕ) (first s t : Session) (b : Batches) → PutsPieces name s t v w → HasTaken first s b → HasTaken first t b
puts_taken name first s t b p h =
    let same = p.session in
    let name_is : t.name ≡ s.name = ap (λ (x : Session). x.name) same in
    let root : t.root ≡ s.root = ap (λ (x : Session). x.root) same in
    let dataset : t.dataset ≡ s.dataset = ap (λ (x : Session). x.dataset) same in
    let waits : t.waits ≡ s.waits = ap (λ (x : Session). x.waits) same in
    let end = p.end in
    let low = h.rises in
    record {
      name = name_is ∙ h.name;
      root = root ∙ h.root ∙ ap (λ n. record (first.root) { end = n }) (sym (ap (λ (r : Super). r.end) root));
      dataset = dataset ∙ h.dataset ∙ ap (λ (d : Described). grown d.shape.rows d.layout.address first.dataset) (sym dataset);
      named = λ n. ap (λ (d : Described). d.layout.address) dataset ∙ h.named n;
      rows = ap (λ (d : Described). d.shape.rows) dataset ∙ h.rows;
      waits = h.waits ∙ ap (λ n. n * columns_of first) (sym waits);
      limit = p.limit ∙ h.limit;
      rises = omega (arith, low, end);
      keeps = ap (λ (x : Session). x.keeps) same ∙ h.keeps;
      budget = ap (λ (x : Session). x.budget) same ∙ h.budget;
    }

pub writes_both : (P : List Write → Type 0) (ps qs : List (Write × ℕ)) → P (writes_of ps ++ writes_of qs) → P (writes_of (ps ++ qs))
writes_both P ps qs h = subst P (sym (writes-append ps qs)) h

-- pieces that bring no rows were put
pub stored_puts : {u v w : DiskView} (name : List ℕ) (first s t : Session) (b : Batches) → v.faults ≡ u.faults → PutsPieces name s t v w → Stored name first s b u v → Stored name first t b u w
stored_puts {u} {v} {w} name first s t b calm p h = record {
  taken = puts_taken name first s t b p h.taken;
  puts = h.puts ++ p.puts;
  disk = puts_more name h.puts p.puts h.disk p.disk;
  since = are_both u.faults h.puts p.puts h.since (are_of v.faults u.faults (counts_of p.puts) calm p.since);
  begins = first_put first.pending s t h.puts p.puts p.pieces h.begins;
  logs = λ img columns xs stands. writes_both (λ ws. Settled img columns xs t ws b) h.puts p.puts (settled_log img columns xs s t (writes_of h.puts) (writes_of p.puts) b p.stands (h.logs img columns xs stands));
}

pub rose_halted : (a b n c : ℕ) → a ≡ n → a ≤ b → (n ≤ b → Rose n c) → Rose a c
rose_halted a b n c same low rose = let risen = rose (omega (arith, same, low)) in omega (arith, same, risen)

-- the disk failed at one of them
pub broke_puts : {u v w : DiskView} (n : ℕ) (name : List ℕ) (first s t : Session) (b : Batches) → u.faults ≡ n → PutsHalted n name s t v w → Stored name first s b u v → Broke name first b u w
broke_puts {u} {v} {w} n name first s t b counted p h =
    let q = p.puts in
    record {
      puts = h.puts ++ q.puts;
      disk = puts_more name h.puts q.puts h.disk q.disk;
      since = are_both u.faults h.puts q.puts h.since (are_of n u.faults (counts_of q.puts) (sym counted) p.since);
      rose = rose_halted u.faults v.faults n w.faults counted h.disk.faults p.rose;
      begins = agrees first.pending (writes_of (h.puts ++ q.puts)) p.middle.pending (first_put first.pending s p.middle h.puts q.puts q.pieces h.begins);
      logs = λ img columns xs stands.
          let l = settled_log img columns xs s p.middle (writes_of h.puts) (writes_of q.puts) b q.stands (h.logs img columns xs stands) in
          record {
            session = t;
            stopped = ap (λ (x : Session). x.stopped) p.halted.session;
            named = ap (λ (x : Session). x.name) p.halted.session ∙ (puts_taken name first s p.middle b q h.taken).name;
            of = writes_both (λ ws. IsLogOf img columns xs t ws b) h.puts q.puts (record {
              log = l.of.log;
              stands = p.halted.stands l.of.log l.of.stands;
              begun = l.of.begun;
              pieces = l.of.pieces;
              flushed_are = l.of.flushed_are;
              appended_are = l.of.appended_are;
            });
          };
    }

-- ---- A batch

planned_taken : (name : List ℕ) (first s t : Session) (b : Batches) (w : DiskView) → 1 ≤ columns_of first → Planned name s t w → HasTaken first s b → HasTaken first t (close_batch b)
planned_taken name first s t b w some p h =
    let r = p.rows in
    let dataset : t.dataset ≡ grown (rows_of s) t.dataset.layout.address first.dataset = r.dataset ∙ ap (grown (rows_of s) t.dataset.layout.address) h.dataset in
    let here : IsNamed first.dataset → IsNamed s.dataset = λ n e. n (sym (h.named n) ∙ e) in
    let rows : t.dataset.shape.rows ≡ rows_of s = ap (λ (d : Described). d.shape.rows) dataset in
    let low = h.rises in
    let more = r.rises in
    record {
      name = r.name ∙ h.name;
      root = r.root ∙ ap (λ (x : Super). record x { end = t.root.end }) h.root;
      dataset = dataset ∙ ap (λ n. grown n t.dataset.layout.address first.dataset) (sym rows);
      named = λ n. r.address (here n) ∙ h.named n;
      rows = rows ∙ ap (λ n. n + s.waits) h.rows ∙ sym (batch_rows (columns_of first) first.dataset.shape.rows s.waits b some p.waits h.waits);
      waits = sym (zero-mul (columns_of first)) ∙ ap (λ n. n * columns_of first) (sym r.waits);
      limit = r.limit ∙ h.limit;
      rises = omega (arith, low, more);
      keeps = r.keeps ∙ h.keeps;
      budget = r.budget ∙ h.budget;
    }

batch_log : (img : List ℕ) (columns : ℕ) (xs : List ℤ) (name : List ℕ) (s t r : Session) (ws vs : List Write) (b : Batches) (v : DiskView) → Planned name s t v → ((log : Log) → Stands t log → Stands r (showing vs log)) → length t.pending ≡ length vs
    → Settled img columns xs s ws b → Settled img columns xs r (ws ++ vs) (close_batch b)
batch_log img columns xs name s t r ws vs b v p stands count l =
    let log = l.of.log in
    let plan = and_now (plans (length t.pending)) log in
    let same = showing_same vs plan in
    let done : (n : ℕ) → flushed_in n xs (showing vs plan).events ≡ xs ++ values_of (close_batch b).closed =
    λ n. showing_flushed vs plan n xs ∙ plan_done (length t.pending) (n + length vs) xs log.events (omega (arith, count)) ∙ ap (λ (x : List ℤ). xs ++ x) (l.of.appended_are ∙ sym (values_closed b)) in
    record {
      of = record {
        log = showing vs plan;
        stands = stands plan (p.stands log l.of.stands);
        begun = same ∙ ap (λ (x : Log). record x { events = (showing vs plan).events }) l.of.begun;
        pieces = showing_hist vs plan ∙ ap (λ (x : List Write). x ++ vs) l.of.pieces;
        flushed_are = ap (λ (x : List ℤ). flushed_in 0 x (showing vs plan).events) (ap (λ (x : Log). x.values) (same ∙ ap (λ (x : Log). record x { events = (showing vs plan).events }) l.of.begun)) ∙ done 0;
        appended_are = showing_appended vs plan ∙ l.of.appended_are ∙ sym (values_closed b) ∙ sym (append-nil (values_of (close_batch b).closed));
      };
      settled = done;
    }

-- all pieces were put
pub stored_batch : {u v x w : DiskView} (n : ℕ) (name : List ℕ) (first s t r : Session) (b : Batches) → u.faults ≡ n → 1 ≤ columns_of first → s.pending ≡ [] → Unput name v x → Planned name s t x → PutsAll n name t r x w → Stored name first s b u v → Stored name first r (close_batch b) u w
stored_batch {u} {v} {x} {w} n name first s t r b counted some idle p plan q h =
    let ps = q.puts in
    let before = stored_same name first s b p h in
    let count : length t.pending ≡ length (writes_of ps.puts) = ap length ps.pieces ∙ ap (λ (ws : List Write). length (writes_of ps.puts ++ ws)) q.all ∙ ap length (append-nil (writes_of ps.puts)) in
    record {
      taken = puts_taken name first t r (close_batch b) ps (planned_taken name first s t b x some plan h.taken);
      puts = h.puts ++ ps.puts;
      disk = puts_more name h.puts ps.puts (unput_more name h.puts h.disk p.disk) ps.disk;
      since = are_both u.faults h.puts ps.puts h.since (are_of x.faults u.faults (counts_of ps.puts) (q.before ∙ sym counted) ps.since);
      begins = first_planned first.pending s r h.puts ps.puts idle h.begins;
      logs = λ img columns xs stands.
          writes_both (λ ws. Settled img columns xs r ws (close_batch b)) h.puts ps.puts
          (batch_log img columns xs name s t r (writes_of h.puts) (writes_of ps.puts) b x plan ps.stands count (h.logs img columns xs stands));
    }

half_log : (img : List ℕ) (columns : ℕ) (xs : List ℤ) (name : List ℕ) (s t m r : Session) (ws vs : List Write) (b : Batches) (v : DiskView) → Planned name s t v → ((log : Log) → Stands t log → Stands m (showing vs log)) → length vs < length t.pending
    → Halted m r → Settled img columns xs s ws b → IsLogOf img columns xs r (ws ++ vs) b
half_log img columns xs name s t m r ws vs b v p stands few halted l =
    let log = l.of.log in
    let plan = and_now (plans (length t.pending)) log in
    let same = showing_same vs plan in
    let begun = same ∙ ap (λ (x : Log). record x { events = (showing vs plan).events }) l.of.begun in
    record {
      log = showing vs plan;
      stands = halted.stands (showing vs plan) (stands plan (p.stands log l.of.stands));
      begun = begun;
      pieces = showing_hist vs plan ∙ ap (λ (x : List Write). x ++ vs) l.of.pieces;
      flushed_are = ap (λ (x : List ℤ). flushed_in 0 x (showing vs plan).events) (ap (λ (x : Log). x.values) begun) ∙ showing_flushed vs plan 0 xs ∙ plan_open (length t.pending) (0 + length vs) xs log.events (omega (arith, few)) ∙ l.settled (0 + length vs);
      appended_are = showing_appended vs plan ∙ l.of.appended_are;
    }

-- the disk failed at one of them
pub broke_batch : {u v x w : DiskView} (n : ℕ) (name : List ℕ) (first s t r : Session) (b : Batches) → u.faults ≡ n → 1 ≤ columns_of first → s.pending ≡ [] → Unput name v x → Planned name s t x → PutsHalted n name t r x w → Stored name first s b u v → Broke name first b u w
broke_batch {u} {v} {x} {w} n name first s t r b counted some idle p plan q h =
    let ps = q.puts in
    let left = q.left plan.some in
    let disk = unput_more name h.puts h.disk p.disk in
    let few : length (writes_of ps.puts) < length t.pending = omega (arith, ap length ps.pieces, length-append (writes_of ps.puts) q.middle.pending, left) in
    record {
      puts = h.puts ++ ps.puts;
      disk = puts_more name h.puts ps.puts disk ps.disk;
      since = are_both u.faults h.puts ps.puts h.since (are_of n u.faults (counts_of ps.puts) (sym counted) q.since);
      rose = rose_halted u.faults x.faults n w.faults counted disk.faults q.rose;
      begins = agrees first.pending (writes_of (h.puts ++ ps.puts)) q.middle.pending (first_planned first.pending s q.middle h.puts ps.puts idle h.begins);
      logs = λ img columns xs stands. record {
        session = r;
        stopped = ap (λ (y : Session). y.stopped) q.halted.session;
        named = ap (λ (y : Session). y.name) q.halted.session ∙ (puts_taken name first t q.middle (close_batch b) ps (planned_taken name first s t b x some plan h.taken)).name;
        of = writes_both (λ ws. IsLogOf img columns xs r ws b) h.puts ps.puts
            (half_log img columns xs name s t q.middle r (writes_of h.puts) (writes_of ps.puts) b x plan ps.stands few q.halted (h.logs img columns xs stands));
      };
    }

-- ---- The beginning

-- a session that has just begun has stored nothing
pub stored_none : {u v : DiskView} (name : List ℕ) (first : Session) → LeavesFiles u.told u v → first.waits ≡ 0 → Stored name first first no_batches u v
stored_none {u} {v} name first p none = record {
  taken = record {
    name = refl;
    root = refl;
    dataset = refl;
    named = λ n. refl;
    rows = refl;
    waits = sym (zero-mul (columns_of first)) ∙ ap (λ n. n * columns_of first) (sym none);
    limit = refl;
    rises = omega arith;
    keeps = refl;
    budget = refl;
  };
  puts = [];
  disk = record { told = p.told ∙ no_puts name u.told; faults = p.faults; through = p.through };
  since = tt;
  begins = ([], append-nil first.pending);
  logs = λ img columns xs stands. record {
    of = record { log = opened_log img columns xs; stands = stands; begun = refl; pieces = refl; flushed_are = sym (append-nil xs); appended_are = refl };
    settled = λ n. sym (append-nil xs);
  };
}
