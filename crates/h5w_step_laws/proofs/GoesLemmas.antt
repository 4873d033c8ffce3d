-- One more event takes a log that has come to a moment to the next.
use Rattle.std.proofs.Common.{◌≡◌, ◌⊎◌, ℕ, ◌+◌, ◌*◌, ◌/◌, ◌<◌, ◌≤◌, Bool, true, false, List, [], ◌∷◌, ◌++◌, length, Some, refl, sym, ◌∙◌, ap, subst, inl, inr, arith}
use Rattle.std.specs.Prelude.{slice_get, ℤ}
use Rattle.std.proofs.Math.Nat.{mul-div_cancel}
use Rattle.std.proofs.lemmas.List.{take_all}
use Rattle.std.proofs.lemmas.Bool.{cases_lt}
use Rattle.h5w_model.specs.Images.{apply, image}
use Rattle.h5w_model.specs.Programs.{eval, visits, Visit}
use Rattle.h5w_model.specs.Logs.{Log, Happening, shows, hist, shown, flushed, flushed_rows, and_now}
use Rattle.h5w_model.specs.Tables.{Reading, Shows, Reads, InPlace, in_place, address_behind, format_limits}
use Rattle.h5w_model.specs.Findings.{Used, the_superblock}
use Rattle.h5w_model.specs.Prefixed.{image_at, ReadsNow, IsKey, MissesAll, Stays, StillAt}
use Rattle.h5w_model.specs.declared.cell.Key.{Key}
use Rattle.h5w_model.specs.declared.cell.IndexKind.{IndexKind}
use Rattle.h5w_model.specs.declared.cell.IndexKind.TheVariants.{Array, Tree}
use Rattle.h5w_model.specs.declared.piece.Write.{Write}
use Rattle.h5w_model.proofs.ImageLemmas.{image-push, Apart-part, Apart-sym}
use Rattle.h5w_laws.proofs.AnswerLemmas.{same_ok}
use Rattle.h5w_laws.proofs.LogLemmas.{length_hist, image_earlier}
use Rattle.h5w_laws.proofs.EventLemmas.{event_laws}
use Rattle.h5w_step_laws.specs.Ranges.{Among, AllAmong, AllEndBy, AllWithin, AreApart, AllSome, Disjoint, MissesBlocks}
use Rattle.h5w_step_laws.proofs.RangeLemmas.{among_left, among_right, among_split, ends_right, ends_joined, ends_later, some_joined, within_more}
use Rattle.h5w_step_laws.specs.Moments.{Moment, Represents, reading_of, front_of, moved_of, all_used}
use Rattle.h5w_step_laws.specs.Steps.{Step, unseen, ends, switches, commits, OffAll, Clear, HeldBehind}
use Rattle.h5w_step_laws.specs.Logs.{image_now, IsPast, Goes, PieceGoes, EventGoes, BeginGoes}
use Rattle.h5w_step_laws.proofs.PartLemmas.{apart_sym, disjoint_some, disjoint_two}
use Rattle.h5w_step_laws.proofs.MomentLemmas.{in_behind, lies_missed, Parts, parts_of}
use Rattle.h5w_step_laws.proofs.StepRepresents.{chunk_lies, step_represents}
use Rattle.h5w_step_laws.proofs.StepStays.{step_follows, step_stays}
use Rattle.h5w_step_laws.proofs.FoundLemmas.{moment_found, shown_is}

-- ---- Images of a log

pub image_pushed : (log : Log) (w : Write) → image_now (and_now (shows w) log) ≡ apply w (image_now log)
image_pushed log w = image-push log.start (hist log.events) w

pub image_last : (log : Log) (p : ℕ) → shown log.events ≤ p → image_at log p ≡ image_now log
image_last log p h = ap (image log.start) (take_all p (hist log.events) (omega (arith, h, length_hist log.events)))

-- ---- What is held

-- what is known of the ranges that are held at a moment
pub record Holds (m : Moment) (held : List Used) : Type 0 where
  pub reaches : AllAmong m.behind held
  pub off_front : OffAll held (front_of m)
  pub ends : AllEndBy m.super.end held
  pub some : AllSome held
  pub clear : Clear held m

-- what stands behind the blocks in place is off what stands before
pub behind_front : (m : Moment) → Disjoint (all_used m) → OffAll m.behind (front_of m)
behind_front m d u v a b = front b
  where
    p : Parts m
    p = parts_of m d

    index : Among u (m.fixed ++ m.behind)
    index = among_right u m.fixed m.behind a

    later : Among v m.header ⊎ Among v m.fixed → AreApart u v
    later (inl c) = apart_sym v u (p.header v u c index)
    later (inr c) = apart_sym v u (p.fixed v u c a)

    third : Among v m.root ⊎ Among v (m.header ++ m.fixed) → AreApart u v
    third (inl c) = apart_sym v u (p.root v u c (among_right u m.header (m.fixed ++ m.behind) index))
    third (inr c) = later (among_split v m.header m.fixed c)

    front : (the_superblock ≡ v) ⊎ Among v (m.root ++ (m.header ++ m.fixed)) → AreApart u v
    front (inl e) =
        apart_sym v u (subst (λ (x : Used). AreApart x u) e (p.super u (among_right u m.root (m.header ++ (m.fixed ++ m.behind)) (among_right u m.header (m.fixed ++ m.behind) index))))
    front (inr c) = third (among_split v m.root (m.header ++ m.fixed) c)

-- blocks and chunks behind the blocks in place do not meet
pub behind_clear : (m : Moment) → Disjoint (all_used m) → Clear m.behind m
behind_clear m d u v a block b chunk = disjoint_two m.behind u v (parts_of m d).behind a b (λ e. differ (sym block ∙ ap (λ (x : Used). x.chunk) e ∙ chunk))
  where
    differ : ◌≡◌ {A = Bool} false true → ⊥
    differ e = cc

pub holds_behind : (img name : List ℕ) (m : Moment) → Represents img name m → Holds m m.behind
holds_behind img name m r = record {
  reaches = λ u a. a;
  off_front = behind_front m r.apart;
  ends = ends_right m.super.end m.fixed m.behind r.index.ends;
  some = λ u a. disjoint_some (all_used m) r.apart u (in_behind m u a);
  clear = behind_clear m r.apart;
}

pub clear_joined : (us vs : List Used) (m : Moment) → Clear us m → Clear vs m → Clear (us ++ vs) m
clear_joined us vs m h g u v a block b chunk = go (among_split u us vs a)
  where
    go : Among u us ⊎ Among u vs → AreApart u v
    go (inl c) = h u v c block b chunk
    go (inr c) = g u v c block b chunk

pub off_joined : (us vs ws : List Used) → OffAll us ws → OffAll vs ws → OffAll (us ++ vs) ws
off_joined us vs ws h g u v a b = go (among_split u us vs a)
  where
    go : Among u us ⊎ Among u vs → AreApart u v
    go (inl c) = h u v c b
    go (inr c) = g u v c b

-- what is held is off the front of the next moment, whose blocks in place may be others
pub off_next : (m n : Moment) (held : List Used) → n ≡ record m { fixed = n.fixed; behind = n.behind; table = n.table } → OffAll held (front_of m) → OffAll held n.fixed → OffAll held (front_of n)
off_next m n held is off off_fixed u v a b = front b
  where
    root : n.root ≡ m.root
    root = ap (λ (x : Moment). x.root) is

    header : n.header ≡ m.header
    header = ap (λ (x : Moment). x.header) is

    later : Among v n.header ⊎ Among v n.fixed → AreApart u v
    later (inl c) = off u v a (inr (among_right v m.root (m.header ++ m.fixed) (among_left v m.header m.fixed (subst (λ (us : List Used). Among v us) header c))))
    later (inr c) = off_fixed u v a c

    third : Among v n.root ⊎ Among v (n.header ++ n.fixed) → AreApart u v
    third (inl c) = off u v a (inr (among_left v m.root (m.header ++ m.fixed) (subst (λ (us : List Used). Among v us) root c)))
    third (inr c) = later (among_split v n.header n.fixed c)

    front : (the_superblock ≡ v) ⊎ Among v (n.root ++ (n.header ++ n.fixed)) → AreApart u v
    front (inl e) = off u v a (inl e)
    front (inr c) = third (among_split v n.root (n.header ++ n.fixed) c)

pub step_holds : (img name : List ℕ) (m : Moment) (held : List Used) (w : Write) (n : Moment) (after : List Used) → Represents img name m → Holds m held → Step img m held w n after → Holds n after
step_holds img name m held w n after r h (unseen u off is same) =
    subst (λ (us : List Used). Holds n us) (sym same) (subst (λ (x : Moment). Holds x held) (sym is) h)
step_holds img name m held w n after r h (ends e same) =
    subst (λ (us : List Used). Holds n us) (sym same) (subst (λ (x : Moment). Holds x held) (sym e.is)
    (record { reaches = h.reaches; off_front = h.off_front; ends = ends_later m.super.end n.super.end held e.rises h.ends; some = h.some; clear = h.clear }))
step_holds img name m held w n after r h (switches s off clear same) =
    let next = step_represents img name m held w n after r (switches s off clear same) in
    let own = holds_behind (apply w img) name n next in
    let end : m.super.end ≡ n.super.end = sym (ap (λ (x : Moment). x.super.end) s.is) in
    subst (λ (us : List Used). Holds n us) (sym same) (record {
      reaches = λ u a. among_left u n.behind held a;
      off_front = off_joined n.behind held (front_of n) own.off_front (off_next m n held s.is h.off_front off);
      ends = ends_joined n.super.end n.behind held own.ends (subst (λ e. AllEndBy e held) end h.ends);
      some = some_joined n.behind held own.some h.some;
      clear = clear_joined n.behind held n own.clear clear;
    })
step_holds img name m held w n after r h (commits c same) =
    let next = step_represents img name m held w n after r (commits c same) in
    subst (λ (us : List Used). Holds n us) (sym same) (holds_behind (apply w img) name n next)

-- ---- A piece meets nothing that is held

pub moved_front : (m : Moment) (u : Used) → Among u (moved_of m) → Among u (front_of m)
moved_front m u (inl e) = inl e
moved_front m u (inr a) = inr (among_right u m.root (m.header ++ m.fixed) a)

pub step_misses : (img : List ℕ) (m : Moment) (held : List Used) (w : Write) (n : Moment) (after : List Used) → OffAll held (moved_of m) → Step img m held w n after → MissesBlocks w held
step_misses img m held w n after off (unseen s misses is same) u a block = misses u a block
step_misses img m held w n after off (ends e same) u a block =
    let place = e.place in
    let len = e.len in
    Apart-part 0 48 u.place u.len w.at (length w.piece) u.place u.len (omega arith) (omega (arith, place, len)) (omega arith) (omega arith)
    (Apart-sym u.place u.len 0 48 (off u the_superblock a (inl refl)))
step_misses img m held w n after off (switches s other clear same) u a block =
    lies_missed w m.fixed held s.inside (λ x y b c. apart_sym y x (off y x c (inr (among_right x m.header m.fixed b)))) u a
step_misses img m held w n after off (commits c same) u a block =
    lies_missed w m.header held (chunk_lies m w c.inside) (λ x y b d. apart_sym y x (off y x d (inr (among_left x m.header m.fixed b)))) u a

pub misses_within : (w : Write) (us : List Used) (vs : List Visit) → AllWithin us vs → MissesBlocks w us → MissesAll w vs
misses_within w us [] h off = tt
misses_within w us (v ∷ vs) h off =
    let c = h.0 in
    let u = c.used in
    let from = c.from in
    let to = c.to in
    (Apart-part w.at (length w.piece) u.place u.len w.at (length w.piece) v.place v.len (omega arith) (omega arith) from to (off u c.among c.block), misses_within w us vs h.1 off)

-- ---- Past positions

-- a key of the index is one that it is asked for
pub key_named : (kind : IndexKind) (key : Key) → IsKey kind key → kind ≡ Array → key.i < 131060
key_named Array key h is = h.0
key_named Tree key h is = absurd (differ is)
  where
    differ : Tree ≡ Array → ⊥
    differ e = cc

pub held_of : (img name : List ℕ) (m : Moment) (held : List Used) → Represents img name m → AllAmong m.behind held → HeldBehind img (reading_of m) held
held_of img name m held r reaches p key read is_key =
    let i = r.index in
    let same : i.blocks ≡ p = same_ok (eval img (in_place m.dataset)) i.blocks p i.read read in
    let a = i.answered key (key_named m.dataset.layout.index key is_key) in
    subst (λ (q : InPlace). AllWithin held (visits img (address_behind q key))) same (within_more m.behind held (visits img (address_behind i.blocks key)) reaches a.within)

-- what is shown at a position, told of another image that is the same
pub moved_past : (log : Log) (p : ℕ) (m : Moment) (held : List Used) (r : Reading) (img : List ℕ) → image_at log p ≡ img → r.dataset.shape.rows ≤ m.dataset.shape.rows
    → (r.dataset.shape.rows ≡ m.dataset.shape.rows → HeldBehind img r held) → IsPast log p m held r
moved_past log p m held r img e rows reached = record { rows = rows; reached = λ q. subst (λ (i : List ℕ). HeldBehind i r held) (sym e) (reached q) }

pub past_now : (log : Log) (p : ℕ) (name : List ℕ) (m : Moment) (held : List Used) (r : Reading) → image_at log p ≡ image_now log → Represents (image_now log) name m → AllAmong m.behind held
    → Shows format_limits (image_at log p) name r → IsPast log p m held r
past_now log p name m held r same here reaches shown_there =
    let is : r ≡ reading_of m = shown_is (image_now log) name m r here (subst (λ (i : List ℕ). Shows format_limits i name r) same shown_there) in
    subst (λ (x : Reading). IsPast log p m held x) (sym is)
    (moved_past log p m held (reading_of m) (image_now log) same (omega arith) (λ q. held_of (image_now log) name m held here reaches))

-- rows never fall, and where they stay what was held is held
pub record Onward (m : Moment) (held : List Used) (n : Moment) (after : List Used) : Type 0 where
  pub rows : m.dataset.shape.rows ≤ n.dataset.shape.rows
  pub more : m.dataset.shape.rows ≡ n.dataset.shape.rows → AllAmong held after

pub step_onward : (img : List ℕ) (m : Moment) (held : List Used) (w : Write) (n : Moment) (after : List Used) → Step img m held w n after → Onward m held n after
step_onward img m held w n after (unseen u off is same) = record {
  rows = subst (λ (x : Moment). m.dataset.shape.rows ≤ x.dataset.shape.rows) (sym is) (omega arith);
  more = λ e u a. subst (λ (us : List Used). Among u us) (sym same) a;
}
step_onward img m held w n after (ends e same) = record {
  rows = subst (λ (x : Moment). m.dataset.shape.rows ≤ x.dataset.shape.rows) (sym e.is) (omega arith);
  more = λ f u a. subst (λ (us : List Used). Among u us) (sym same) a;
}
step_onward img m held w n after (switches s off clear same) = record {
  rows = subst (λ (x : Moment). m.dataset.shape.rows ≤ x.dataset.shape.rows) (sym s.is) (omega arith);
  more = λ e u a. subst (λ (us : List Used). Among u us) (sym same) (among_right u n.behind held a);
}
step_onward img m held w n after (commits c same) =
    let rises = c.rises in
    record { rows = omega (arith, rises); more = λ e. absurd (omega (arith, rises, e)) }

pub past_later : (log : Log) (w : Write) (p : ℕ) (m : Moment) (held : List Used) (n : Moment) (after : List Used) (r : Reading) → p ≤ shown log.events → Onward m held n after → IsPast log p m held r
    → IsPast (and_now (shows w) log) p n after r
past_later log w p m held n after r low on past =
    let rows = past.rows in
    let more = on.rows in
    moved_past (and_now (shows w) log) p n after r (image_at log p) (image_earlier (shows w) log p low) (omega (arith, rows, more))
    (λ e q key read is_key.
    let same : r.dataset.shape.rows ≡ m.dataset.shape.rows = omega (arith, rows, more, e) in
    let rest : m.dataset.shape.rows ≡ n.dataset.shape.rows = omega (arith, rows, more, e) in
    within_more held after (visits (image_at log p) (address_behind q key)) (on.more rest) (past.reached same q key read is_key))

-- ---- One piece

pub reads_now : (name : List ℕ) (log : Log) (m : Moment) → Represents (image_now log) name m → m.values ≡ flushed log → 0 < log.columns → m.dataset.shape.cols ≡ log.columns → ReadsNow name log
reads_now name log m here values some columns =
    let f = moment_found (image_now log) name m here in
    let rows : m.dataset.shape.rows ≡ flushed_rows log =
    sym (mul-div_cancel m.dataset.shape.rows some)
    ∙ ap (λ c. m.dataset.shape.rows * c / log.columns) (sym columns)
    ∙ ap (λ n. n / log.columns) (sym here.count)
    ∙ ap (λ (vs : List ℤ). length vs / log.columns) values in
    record {
      summary = f.summary;
      valid = f.valid;
      reads =
          subst (λ n. Reads (image_now log) name n log.columns (flushed log)) rows
          (subst (λ c. Reads (image_now log) name m.dataset.shape.rows c (flushed log)) columns
          (subst (λ (vs : List ℤ). Reads (image_now log) name m.dataset.shape.rows m.dataset.shape.cols vs) values f.reads));
    }

pub piece_found : (ws : List Write) (w v : Write) → slice_get (ws ++ w ∷ []) (length ws) ≡ Some v → w ≡ v
piece_found [] w v h = cc
piece_found (x ∷ ws) w v h = piece_found ws w v h

pub still_now : (name : List ℕ) (log : Log) (m : Moment) (held : List Used) (w : Write) (n : Moment) (after : List Used) → Goes name log m held → Step (image_now log) m held w n after
    → StillAt name (and_now (shows w) log) (shown log.events)
still_now name log m held w n after g s =
    let new : Log = and_now (shows w) log in
    let k : ℕ = shown log.events in
    let img : List ℕ = image_now log in
    let here : image_at new k ≡ img = image_earlier (shows w) log k (omega arith) ∙ image_last log k (omega arith) in
    let there : image_at new (k + 1) ≡ apply w img = image_last new (k + 1) (omega arith) ∙ image_pushed log w in
    let off = step_misses img m held w n after (λ u v a b. g.off_front u v a (moved_front m v b)) s in
    record {
      steps = λ r t shows_r shows_t.
          let is_r : r ≡ reading_of m = shown_is img name m r g.now (subst (λ (i : List ℕ). Shows format_limits i name r) here shows_r) in
          let is_t : t ≡ reading_of n = shown_is (apply w img) name n t (step_represents img name m held w n after g.now s) (subst (λ (i : List ℕ). Shows format_limits i name t) there shows_t) in
          subst (λ (x : Reading). Stays (image_at new k) x (image_at new (k + 1)) t) (sym is_r)
          (subst (λ (x : Reading). Stays (image_at new k) (reading_of m) (image_at new (k + 1)) x) (sym is_t)
          (subst (λ (i : List ℕ). Stays i (reading_of m) (image_at new (k + 1)) (reading_of n)) (sym here)
          (subst (λ (i : List ℕ). Stays img (reading_of m) i (reading_of n)) (sym there) (step_stays img name m held w n after g.now s))));
      misses = λ v p r t found begun low shows_r shows_t rows q key read is_key.
          let earlier : image_at new p ≡ image_at log p = image_earlier (shows w) log p low in
          let past = g.past p r begun low (subst (λ (i : List ℕ). Shows format_limits i name r) earlier shows_r) in
          let is_t : t ≡ reading_of m = shown_is img name m t g.now (subst (λ (i : List ℕ). Shows format_limits i name t) here shows_t) in
          let same : r.dataset.shape.rows ≡ m.dataset.shape.rows = rows ∙ ap (λ (x : Reading). x.dataset.shape.rows) is_t in
          let is : w ≡ v = piece_found (hist log.events) w v (ap (slice_get (hist log.events ++ w ∷ [])) (length_hist log.events) ∙ found) in
          let reached : HeldBehind (image_at new p) r held = subst (λ (i : List ℕ). HeldBehind i r held) (sym earlier) (past.reached same) in
          subst (λ (x : Write). MissesAll x (visits (image_at new p) (address_behind q key))) is
          (misses_within w held (visits (image_at new p) (address_behind q key)) (reached q key read is_key) off);
    }

pub piece_goes : PieceGoes
piece_goes name log m held w n after g s values =
    let new : Log = and_now (shows w) log in
    let img : List ℕ = image_now log in
    let begun = g.begun in
    let pushed = image_pushed log w in
    let next : Represents (image_now new) name n = subst (λ (i : List ℕ). Represents i name n) (sym pushed) (step_represents img name m held w n after g.now s) in
    let h = step_holds img name m held w n after g.now (record { reaches = g.reaches; off_front = g.off_front; ends = g.ends; some = g.some; clear = g.clear }) s in
    let f = step_follows img name m held w n after g.now s in
    let columns : n.dataset.shape.cols ≡ log.columns = ap (λ d. d.shape.cols) f.described.rows_alone ∙ g.columns in
    let on = step_onward img m held w n after s in
    record {
      begun = omega (arith, begun);
      now = next;
      values = values;
      some_columns = g.some_columns;
      columns = columns;
      reaches = h.reaches;
      past = λ p r low high shows_r.
          elim (cases_lt (shown log.events) p) [
            | inl last ↦ past_now new p name n after r (image_last new p (omega (arith, last))) next h.reaches shows_r
            | inr before ↦
                past_later log w p m held n after r before on
                (g.past p r low before (subst (λ (i : List ℕ). Shows format_limits i name r) (image_earlier (shows w) log p before) shows_r))
          ];
      off_front = h.off_front;
      ends = h.ends;
      some = h.some;
      clear = h.clear;
      prefixed = event_laws.prefixed name (shows w) log g.prefixed (λ low. reads_now name new n next values g.some_columns columns);
      still = event_laws.still_piece name w log g.still (λ low. still_now name log m held w n after g s);
    }

-- ---- Other events, and the first position

pub same_images : (e : Happening) (log : Log) → shown (e ∷ log.events) ≡ shown log.events → image_now (and_now e log) ≡ image_now log
same_images e log same = sym (image_last (and_now e log) (shown log.events) (omega (arith, same))) ∙ image_earlier e log (shown log.events) (omega arith) ∙ image_last log (shown log.events) (omega arith)

pub event_goes : EventGoes
event_goes name e log m held same values g =
    let new : Log = and_now e log in
    let begun = g.begun in
    let now : Represents (image_now new) name m = subst (λ (i : List ℕ). Represents i name m) (sym (same_images e log same)) g.now in
    record {
      begun = omega (arith, begun, same);
      now = now;
      values = values;
      some_columns = g.some_columns;
      columns = g.columns;
      reaches = g.reaches;
      past = λ p r low high shows_r.
          let before : p ≤ shown log.events = omega (arith, high, same) in
          let earlier : image_at new p ≡ image_at log p = image_earlier e log p before in
          let past = g.past p r low before (subst (λ (i : List ℕ). Shows format_limits i name r) earlier shows_r) in
          moved_past new p m held r (image_at log p) earlier past.rows past.reached;
      off_front = g.off_front;
      ends = g.ends;
      some = g.some;
      clear = g.clear;
      prefixed = event_laws.prefixed name e log g.prefixed (λ low. reads_now name new m now values g.some_columns g.columns);
      still = event_laws.still name e log same g.still;
    }

pub begin_goes : BeginGoes
begin_goes name log m first now values some columns prefixed =
    let h = holds_behind (image_now log) name m now in
    record {
      begun = omega (arith, first);
      now = now;
      values = values;
      some_columns = some;
      columns = columns;
      reaches = h.reaches;
      past = λ p r low high shows_r. past_now log p name m m.behind r (image_last log p (omega (arith, low, first))) now h.reaches shows_r;
      off_front = h.off_front;
      ends = h.ends;
      some = h.some;
      clear = h.clear;
      prefixed = prefixed;
      still = λ k low high. absurd (omega (arith, low, high, first, length_hist log.events));
    }
