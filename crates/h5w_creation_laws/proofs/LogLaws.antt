-- The log of a session that creates its file.
use Rattle.std.proofs.Common.{◌≡◌, ◌≢◌, ℕ, ◌+◌, ◌<◌, ◌≤◌, List, [], ◌∷◌, ◌++◌, length, length-append, append_assoc, append-nil, refl, ap, sym, ◌∙◌, subst, arith}
use Rattle.std.specs.Prelude.{map, ℤ}
use Rattle.std.proofs.lemmas.List.{length-map}
use Rattle.h5w_model.specs.Images.{apply, image}
use Rattle.h5w_model.specs.Logs.{Log, Happening, appends, plans, shows, hist, shown, appended_in, appended, flushed_in, flushed, and_now}
use Rattle.h5w_model.specs.Findings.{Used}
use Rattle.h5w_model.specs.Prefixed.{ReadsNow, EachReads, PrefixedEach, Still}
use Rattle.h5w_model.specs.declared.cell.IndexKind.{IndexKind}
use Rattle.h5w_model.specs.declared.cell.IndexKind.TheVariants.{Array, Tree}
use Rattle.h5w_model.specs.declared.piece.Write.{Write}
use Rattle.h5w_model.proofs.ImageLemmas.{length-apply}
use Rattle.h5w_space.specs.Space.{Space}
use Rattle.h5w_step_laws.specs.Moments.{Represents}
use Rattle.h5w_step_laws.specs.Logs.{Goes, image_now}
use Rattle.h5w_step_laws.specs.Sessions.{Runs}
use Rattle.h5w_step_laws.proofs.GoesLemmas.{begin_goes, reads_now}
use Rattle.h5w_step_laws.proofs.SessionLaws.{goes_runs}
use Rattle.h5w_flush_laws.specs.Knowledge.{KnownHeld}
use Rattle.h5w_flush_laws.specs.Flushes.{IsBegun, Rests, shown_also}
use Rattle.h5w_creation_laws.specs.CreatedFiles.{CreatedFile, IsCreatable, end_of, super_block, root_block, header_block, index_blocks, block_write, created_blocks, created_writes, created_moment, created_log, no_address}
use Rattle.h5w_creation_laws.specs.CreationLaws.{WritesEndBy, IsShown, CreationLaws}
use Rattle.h5w_creation_laws.proofs.CreatedLaws.{created_sizes, created_new, created_known}

-- ---- A log after some pieces

hist_also : (ws : List Write) (log : Log) → hist (shown_also ws log).events ≡ hist log.events ++ ws
hist_also [] log = sym (append-nil (hist log.events))
hist_also (w ∷ ws) log = hist_also ws (and_now (shows w) log) ∙ append_assoc (hist log.events) (w ∷ []) ws

shown_count : (ws : List Write) (log : Log) → shown (shown_also ws log).events ≡ shown log.events + length ws
shown_count [] log = omega arith
shown_count (w ∷ ws) log = shown_count ws (and_now (shows w) log) ∙ omega arith

kept_also : (ws : List Write) (log : Log) → shown_also ws log ≡ record log { events = (shown_also ws log).events }
kept_also [] log = refl
kept_also (w ∷ ws) log = kept_also ws (and_now (shows w) log)

appended_also : (ws : List Write) (log : Log) → appended_in (shown_also ws log).events ≡ appended_in log.events
appended_also [] log = refl
appended_also (w ∷ ws) log = appended_also ws (and_now (shows w) log)

flushed_also : (ws : List Write) (log : Log) (k : ℕ) (base : List ℤ) → flushed_in k base (shown_also ws log).events ≡ flushed_in (k + length ws) base log.events
flushed_also [] log k base = ap (λ (n : ℕ). flushed_in n base log.events) (omega arith)
flushed_also (w ∷ ws) log k base = flushed_also ws (and_now (shows w) log) k base ∙ ap (λ (n : ℕ). flushed_in n base log.events) (omega arith)

more_also : (ws : List Write) (w : Write) (log : Log) → shown_also (ws ++ w ∷ []) log ≡ and_now (shows w) (shown_also ws log)
more_also [] w log = refl
more_also (v ∷ ws) w log = more_also ws w (and_now (shows v) log)

pub is_shown : (f : CreatedFile) (done : List Write) → IsShown f done (shown_also done (created_log f))
is_shown f done = record {
  kept = kept_also done (created_log f);
  pieces = hist_also done (created_log f);
  count = shown_count done (created_log f) ∙ omega arith;
  image = λ i. image ((kept_also done (created_log f) i).start) (hist_also done (created_log f) i);
  appended = ap (λ (l : Log). appended l) (kept_also done (created_log f)) ∙ appended_also done (created_log f);
  flushed = λ k. flushed_also done (created_log f) k [];
}

first_of : (f : CreatedFile) (done : List Write) → (shown_also done (created_log f)).first ≡ length (created_blocks f)
first_of f done = ap (λ (l : Log). l.first) (kept_also done (created_log f))

-- ---- What is shown ends within the file

image_within : (end : ℕ) (img : List ℕ) (ws : List Write) → WritesEndBy end ws → length img ≤ end → length (image img ws) ≤ end
image_within end img [] ends low = low
image_within end img (w ∷ ws) ends low =
    let here = ends.0 in
    image_within end (apply w img) ws ends.1 (omega (arith, length-apply w img))

ends_first : (end : ℕ) (ws vs : List Write) → WritesEndBy end (ws ++ vs) → WritesEndBy end ws
ends_first end [] vs ends = tt
ends_first end (w ∷ ws) vs ends = (ends.0, ends_first end ws vs ends.1)

fits_shown : (f : CreatedFile) (done pending : List Write) → IsCreatable f → done ++ pending ≡ created_writes f → length (image [] done) ≤ end_of f
fits_shown f done pending h parts =
    image_within (end_of f) [] done (ends_first (end_of f) done pending (subst (λ (ws : List Write). WritesEndBy (end_of f) ws) (sym parts) (created_sizes f h).within)) (omega arith)

-- ---- Before the last piece

each_unseen : (name : List ℕ) (log : Log) (es : List Happening) → shown es < log.first → EachReads name log es
each_unseen name log [] low = λ h. absurd (omega (arith, low, h))
each_unseen name log (appends vs ∷ es) low = ((λ h. absurd (omega (arith, low, h))), each_unseen name log es low)
each_unseen name log (plans k ∷ es) low = ((λ h. absurd (omega (arith, low, h))), each_unseen name log es low)
each_unseen name log (shows w ∷ es) low = ((λ h. absurd (omega (arith, low, h))), each_unseen name log es (omega (arith, low)))

some_left : (pending : List Write) → pending ≢ [] → 1 ≤ length pending
some_left [] h = absurd (h refl)
some_left (w ∷ ws) h = omega arith

few_shown : (f : CreatedFile) (done pending : List Write) → done ++ pending ≡ created_writes f → pending ≢ [] → length done < length (created_blocks f)
few_shown f done pending parts some =
    omega (arith, some_left pending some, length-append done pending, ap length parts, length-map (created_blocks f) block_write)

not_yet : (f : CreatedFile) (done pending : List Write) → done ++ pending ≡ created_writes f → pending ≢ [] → shown (shown_also done (created_log f)).events < (shown_also done (created_log f)).first
not_yet f done pending parts some = omega (arith, few_shown f done pending parts some, (is_shown f done).count, first_of f done)

pub prefixed_unseen : (f : CreatedFile) (done pending : List Write) → done ++ pending ≡ created_writes f → pending ≢ [] → PrefixedEach f.name (shown_also done (created_log f))
prefixed_unseen f done pending parts some =
    let log = shown_also done (created_log f) in
    each_unseen f.name log log.events (not_yet f done pending parts some)

pub still_unseen : (f : CreatedFile) (done pending : List Write) → done ++ pending ≡ created_writes f → pending ≢ [] → Still f.name (shown_also done (created_log f))
still_unseen f done pending parts some = λ k low high.
    absurd (omega (arith, low, high, few_shown f done pending parts some, ap length (is_shown f done).pieces, first_of f done))

-- ---- Once all are shown

-- all pieces but the superblock
abbrev pub before_super : IndexKind → CreatedFile → List Write
before_super k f = map block_write (index_blocks k f ++ header_block f ∷ root_block f ∷ [])

pub super_last : (k : IndexKind) (f : CreatedFile) → map block_write (index_blocks k f ++ header_block f ∷ root_block f ∷ super_block f ∷ []) ≡ before_super k f ++ block_write (super_block f) ∷ []
super_last Array f = refl
super_last Tree f = refl

-- the log by its last piece
last_shown : (f : CreatedFile) → shown_also (created_writes f) (created_log f) ≡ and_now (shows (block_write (super_block f))) (shown_also (before_super f.index f) (created_log f))
last_shown f = ap (λ (ws : List Write). shown_also ws (created_log f)) (super_last f.index f) ∙ more_also (before_super f.index f) (block_write (super_block f)) (created_log f)

prefixed_last : (name : List ℕ) (w : Write) (log : Log) → shown log.events < log.first → ReadsNow name (and_now (shows w) log) → PrefixedEach name (and_now (shows w) log)
prefixed_last name w log low reads = ((λ h. reads), each_unseen name (and_now (shows w) log) log.events low)

some_pending : (w : Write) → (let ws : List Write = w ∷ [] in ws) ≢ []
some_pending w = λ e. cc

pub created_rests : (f : CreatedFile) (s : Space) → IsCreatable f → IsBegun (created_moment f) s
    → (r : Rests f.name (shown_also (created_writes f) (created_log f)) (created_moment f) no_address s) × (r.knows.held ≡ (created_moment f).behind)
created_rests f s h begun =
    let ws = created_writes f in
    let log = shown_also ws (created_log f) in
    let m = created_moment f in
    let w = block_write (super_block f) in
    let before = shown_also (before_super f.index f) (created_log f) in
    let here = is_shown f ws in
    let kept = here.kept in
    let columns : log.columns ≡ f.columns = ap (λ (l : Log). l.columns) kept in
    let values : log.values ≡ [] = ap (λ (l : Log). l.values) kept in
    let now : image_now log ≡ image [] ws = λ i. image ((kept i).start) (here.pieces i) in
    let file : Represents (image_now log) f.name m = subst (λ (img : List ℕ). Represents img f.name m) (sym now) (created_new f h).represents in
    let none : [] ≡ flushed log = sym (ap (λ (vs : List ℤ). flushed_in 0 vs log.events) values ∙ here.flushed 0) in
    let some : 0 < log.columns = omega (arith, columns, h.some_columns) in
    let all : shown log.events ≡ log.first = omega (arith, here.count, first_of f ws, length-map (created_blocks f) block_write) in
    let reads : ReadsNow f.name log = reads_now f.name log m file none some (sym columns) in
    let low = not_yet f (before_super f.index f) (w ∷ []) (sym (super_last f.index f)) (some_pending w) in
    let prefixed : PrefixedEach f.name log =
    subst (λ (l : Log). PrefixedEach f.name l) (sym (last_shown f)) (prefixed_last f.name w before low (subst (λ (l : Log). ReadsNow f.name l) (last_shown f) reads)) in
    let goes : Goes f.name log m [] = begin_goes f.name log m (sym all) file none some (sym columns) prefixed in
    let runs : Runs f.name log [] m m.behind = goes_runs f.name log m [] goes (λ k. ap (λ (vs : List ℤ). flushed_in k vs log.events) values ∙ here.flushed k) in
    let known = subst (λ (img : List ℕ). KnownHeld img f.name m no_address s m.behind) (sym now) (created_known f s h begun) in
    (record { knows = known.knows; runs = subst (λ (us : List Used). Runs f.name log [] m us) (sym known.is) runs }, known.is)

pub creation_laws : CreationLaws
creation_laws = record { shown = is_shown; more = λ f done w. sym (more_also done w (created_log f)); fits = fits_shown; prefixed = prefixed_unseen; still = still_unseen; rests = created_rests }
