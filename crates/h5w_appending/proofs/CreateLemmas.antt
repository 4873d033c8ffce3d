-- The making of a file.
use Rattle.std.proofs.Common.{◌≡◌, ℕ, zero, suc, ◌+◌, ◌<◌, ◌≤◌, true, false, List, [], ◌∷◌, ◌++◌, length, length-append, append_assoc, append-nil, get_or, take, drop, replicate, Option, Some, None, Result, Ok, Err, refl, sym, ap, ap₂, ◌∙◌, subst, inl, inr, arith}
use Rattle.std.specs.Prelude.{IfErr, IfSome, OnOk, is_none, option_map}
use Rattle.std.specs.FinMap as finite
use Rattle.std.specs.List.{AllByRecursion}
use Rattle.std.specs.Option.{unwrap_or}
use Rattle.std.proofs.Math.Seq.{drop-cons, take-append_seam}
use Rattle.h5w_model.specs.Causes.{Rose}
use Rattle.h5w_model.specs.Findings.{Used}
use Rattle.h5w_model.specs.Images.{AllSized, apply, image}
use Rattle.h5w_model.specs.Numbers.{range}
use Rattle.h5w_model.specs.Superblock.{super_at}
use Rattle.h5w_model.specs.declared.piece.Write.{Write}
use Rattle.h5w_model.specs.declared.root.Super.{Super}
use Rattle.h5w_model.proofs.ImageLemmas.{AllSized-append, At-apply, image-push}
use Rattle.h5w_model.proofs.SuperLemmas.{length-super_bytes, super_at-super_bytes}
use Rattle.h5w_step_laws.specs.Moments.{Represents, reading_of}
use Rattle.h5w_step_laws.proofs.FoundLemmas.{moment_found, moment_shows}
use Rattle.h5w_image.specs.View.{DiskState, DiskView, Leaves, file, made, put}
use Rattle.h5w_image.proofs.Names.{get-insert_same}
use Rattle.h5w_image.proofs.DiskLemmas.{rose_from, missing_file, insert_twice}
use Rattle.h5w_creation_laws.specs.CreatedFiles.{CreatedFile, block_write}
use Rattle.h5w_creation_laws.specs.CreationLaws.{WritesEndBy}
use Rattle.h5w_creation.specs.Forms.{IsForm}
use Rattle.h5w_creation.specs.declared.form.Form.{Form}
use Rattle.h5w_several_creation.specs.Forms.{AreNames, all_by}
use Rattle.h5w_several_creation.proofs.SetLemmas.{are_creatable, same_forms}
use Rattle.h5w_several_creation_laws.specs.SeveralFiles.{AllNamed, AreCreatable, closed_writes, created_writes, end_behind, end_of, first_place, moment_at, root_ranges, super_block, super_of}
use Rattle.h5w_several_creation_laws.specs.SeveralLaws.{EachStands}
use Rattle.h5w_several_creation_laws.proofs.PlaceLemmas.{end_above}
use Rattle.h5w_several_creation_laws.proofs.SetLemmas.{ends_joined}
use Rattle.h5w_several_creation_laws.proofs.StandLaws.{several_sizes, several_stand}
use Rattle.h5w_text.specs.Errors.{error_text}
use Rattle.h5w_text.specs.Says.{Said}
use Rattle.h5w_text.specs.Statuses.{status_of}
use Rattle.h5w_text.specs.Streams.{SinkView}
use Rattle.h5w_text.specs.declared.error.ErrorLine.{ErrorLine}
use Rattle.h5w_text.specs.declared.error.ErrorLine.TheVariants as errors
use Rattle.h5w_text.specs.declared.status.Status.{Status}
use Rattle.h5w_text.specs.declared.status.Status.TheVariants as statuses
use Rattle.h5w_files.specs.Ends.{IsGivenBy, EndsWell, status_by}
use Rattle.h5w_files.proofs.ClearLemmas.{any_told}
use Rattle.h5w_files.proofs.EndLemmas.{completes}
use Rattle.h5w_appending.specs.Puts.{after_puts, counts_of, writes_of}
use Rattle.h5w_appending.specs.Creates.{AreEmptyDatasets, CreateEnds, CreatesTo, FillsFew, HasPut, IsEmptyDataset, Makes, PutsFew, PutsUpTo, answer_of, create_line, create_text, end_given, new_bytes, with_new}
use Rattle.h5w_appending.specs.declared.creating.CreateError.{CreateError}
use Rattle.h5w_appending.specs.declared.creating.CreateError.TheVariants as refusals
use Rattle.h5w_appending.proofs.PutLemmas.{are_both, are_of, length-counts, length-writes, no_puts, puts_twice, writes-append}

-- ---- One piece after the other

one_put : (name : List ℕ) (wr : Write) (faults : ℕ) (t : Option DiskState) → option_map (put name wr faults) t ≡ option_map (after_puts name ((wr, faults) ∷ [])) t
one_put name wr faults None = refl
one_put name wr faults (Some d) = refl

next_of : (ws : List Write) (i : ℕ) (wr : Write) → i < length ws → wr ≡ get_or ws i wr → drop i ws ≡ wr ∷ drop (i + 1) ws
next_of ws i wr low is =
    let more : suc i ≡ i + 1 = omega arith in
    drop-cons ws i wr low ∙ ap (λ (k : ℕ). get_or ws i wr ∷ drop k ws) more ∙ ap (λ (x : Write). x ∷ drop (i + 1) ws) (sym is)

pub up_to_more : {u v w : DiskView} (name : List ℕ) (ws : List Write) (i : ℕ) (wr : Write) → i < length ws → wr ≡ get_or ws i wr → v.faults ≡ u.faults → PutsUpTo name ws (drop i ws) u v
    → Leaves 1 (option_map (put name wr v.faults) v.told) v w → PutsUpTo name ws (drop (i + 1) ws) u w
up_to_more {u} {v} {w} name ws i wr low is calm p l =
    let one : List (Write × ℕ) = (wr, v.faults) ∷ [] in
    let count = length-append p.puts one in
    let first = p.room in
    let second = l.pieces in
    let low_faults = p.disk.faults in
    let more_faults = l.faults in
    let ends = p.ends in
    let end = l.end name in
    record {
      puts = p.puts ++ one;
      pieces =
          p.pieces ∙ ap (λ (xs : List Write). writes_of p.puts ++ xs) (next_of ws i wr low is) ∙ sym (append_assoc (writes_of p.puts) (wr ∷ []) (drop (i + 1) ws))
          ∙ ap (λ (xs : List Write). xs ++ drop (i + 1) ws) (sym (writes-append p.puts one));
      disk = record {
        told = l.told ∙ one_put name wr v.faults v.told ∙ ap (option_map (after_puts name one)) p.disk.told ∙ puts_twice name p.puts one u.told;
        faults = omega arith;
        through = l.through ∙ p.disk.through;
      };
      since = are_both u.faults p.puts one p.since (calm, tt);
      room = omega arith;
      ends = omega arith;
    }

some_left : (ws : List Write) (i : ℕ) → i < length ws → 1 ≤ length (drop i ws)
some_left [] i h = absurd (omega arith)
some_left (w ∷ ws) zero h = omega arith
some_left (w ∷ ws) (suc i) h = some_left ws i (omega arith)

-- the disk failed at the next
pub few_put : {u v w : DiskView} (name : List ℕ) (ws : List Write) (i : ℕ) → i < length ws → PutsUpTo name ws (drop i ws) u v → Leaves 0 v.told v w → Rose v.faults w.faults → PutsFew name ws u w
few_put {u} {v} {w} name ws i low p l rose =
    let first = p.room in
    let second = l.pieces in
    let low_faults = p.disk.faults in
    let more_faults = l.faults in
    let ends = p.ends in
    let end = l.end name in
    record {
      left = drop i ws;
      some = some_left ws i low;
      before = record {
        puts = p.puts;
        pieces = p.pieces;
        disk = record { told = l.told ∙ p.disk.told; faults = omega arith; through = l.through ∙ p.disk.through };
        since = p.since;
        room = omega arith;
        ends = omega arith;
      };
      rose = rose_from u.faults v.faults w.faults low_faults rose;
    }

-- what each piece needs
pub sized_at : (ws : List Write) (i : ℕ) (wr : Write) → AllSized ws → i < length ws → wr ≡ get_or ws i wr → 1 ≤ length wr.piece
sized_at [] i wr sized low is = absurd (omega arith)
sized_at (w ∷ ws) zero wr sized low is = subst (λ (x : Write). 1 ≤ length x.piece) (sym is) (sized.0.0)
sized_at (w ∷ ws) (suc i) wr sized low is = sized_at ws i wr sized.1 (omega arith) is

pub ends_at : (end : ℕ) (ws : List Write) (i : ℕ) (wr : Write) → WritesEndBy end ws → i < length ws → wr ≡ get_or ws i wr → wr.at + length wr.piece ≤ end
ends_at end [] i wr ends low is = absurd (omega arith)
ends_at end (w ∷ ws) zero wr ends low is = subst (λ (x : Write). x.at + length x.piece ≤ end) (sym is) (ends.0)
ends_at end (w ∷ ws) (suc i) wr ends low is = ends_at end ws i wr ends.1 (omega arith) is

pub ends_higher : (low high : ℕ) (ws : List Write) → low ≤ high → WritesEndBy low ws → WritesEndBy high ws
ends_higher low high [] le ends = tt
ends_higher low high (w ∷ ws) le ends = let here = ends.0 in (omega arith, ends_higher low high ws le ends.1)

-- ---- A file that was made

put_new : (name b : List ℕ) (cs : List ℕ) (w : Write) (c : ℕ) (d : DiskState) → put name w c (with_new name b cs d) ≡ with_new name (apply w b) (cs ++ c ∷ []) d
put_new name b cs w c d =
    let bytes : unwrap_or (file (with_new name b cs d) name) [] ≡ b = ap (λ o. unwrap_or o []) (get-insert_same d.files name b) in
    let files : finite.insert (finite.insert d.files name b) name (apply w (unwrap_or (file (with_new name b cs d) name) [])) ≡ finite.insert d.files name (apply w b) =
    ap (λ x. finite.insert (finite.insert d.files name b) name (apply w x)) bytes ∙ insert_twice d.files name b (apply w b) in
    λ i. record { files = files i; puts = append_assoc d.puts cs (c ∷ []) i }

puts_new : (name b : List ℕ) (cs : List ℕ) (ps : List (Write × ℕ)) (d : DiskState) → after_puts name ps (with_new name b cs d) ≡ with_new name (image b (writes_of ps)) (cs ++ counts_of ps) d
puts_new name b cs [] d = ap (λ xs. with_new name b xs d) (sym (append-nil cs))
puts_new name b cs (p ∷ ps) d =
    ap (after_puts name ps) (put_new name b cs p.0 p.1 d) ∙ puts_new name (apply p.0 b) (cs ++ p.1 ∷ []) ps d
    ∙ ap (λ xs. with_new name (image (apply p.0 b) (writes_of ps)) xs d) (append_assoc cs (p.1 ∷ []) (counts_of ps))

-- without pieces
made_new : (name : List ℕ) (d : DiskState) → made name d ≡ with_new name [] [] d
made_new name d = λ i. record { files = finite.insert d.files name []; puts = sym (append-nil d.puts) i }

puts_made : (name : List ℕ) (ps : List (Write × ℕ)) (t : Option DiskState) → option_map (after_puts name ps) (option_map (made name) t) ≡ option_map (with_new name (image [] (writes_of ps)) (counts_of ps)) t
puts_made name ps None = refl
puts_made name ps (Some d) = ap Some (ap (after_puts name ps) (made_new name d) ∙ puts_new name [] [] ps d)

-- so many of its pieces
has_put : {u v w : DiskView} (name : List ℕ) (ws left : List Write) → IfSome u.told (λ d. true ≡ is_none (file d name)) → Leaves 0 (option_map (made name) u.told) u v → v.faults ≡ u.faults
    → (p : PutsUpTo name ws left v w) → HasPut name ws (length p.puts) u w
has_put {u} {v} {w} name ws left missing m calm p =
    let some : take (length p.puts) ws ≡ writes_of p.puts = ap₂ (λ n (xs : List Write). take n xs) (sym (length-writes p.puts)) p.pieces ∙ take-append_seam (writes_of p.puts) left in
    let low = m.faults in
    record {
      counts = counts_of p.puts;
      count = length-counts p.puts;
      missing = missing_file name u.told missing;
      disk = record {
        told = p.disk.told ∙ ap (option_map (after_puts name p.puts)) m.told ∙ puts_made name p.puts u.told ∙ ap (λ (xs : List Write). option_map (with_new name (image [] xs) (counts_of p.puts)) u.told) (sym some);
        faults = omega (arith, low, p.disk.faults);
        through = p.disk.through ∙ m.through;
      };
      since = are_of v.faults u.faults (counts_of p.puts) calm p.since;
    }

count_of : {v w : DiskView} (name : List ℕ) (ws left : List Write) → (p : PutsUpTo name ws left v w) → length p.puts + length left ≡ length ws
count_of name ws left p = omega (arith, ap length p.pieces, length-append (writes_of p.puts) left, length-writes p.puts)

pub made_all : {u v w : DiskView} (name : List ℕ) (ws : List Write) → IfSome u.told (λ d. true ≡ is_none (file d name)) → Leaves 0 (option_map (made name) u.told) u v → v.faults ≡ u.faults
    → PutsUpTo name ws [] v w → w.faults ≡ v.faults → Makes name ws u w (Ok tt)
made_all {u} {v} {w} name ws missing m calm p calmer =
    let n : length p.puts ≡ length ws = omega (arith, count_of name ws [] p) in
    (subst (λ k. HasPut name ws k u w) n (has_put name ws [] missing m calm p), calmer ∙ calm)

pub made_few : (u v w : DiskView) (name : List ℕ) (ws : List Write) (e : CreateError) → IfSome u.told (λ d. true ≡ is_none (file d name)) → Leaves 0 (option_map (made name) u.told) u v → v.faults ≡ u.faults
    → FillsFew name ws v w e → Makes name ws u w (Err e)
made_few u v w name ws refusals.Exists missing m calm p = absurd p
made_few u v w name ws refusals.Failed missing m calm p =
    let low = m.faults in
    let some = p.some in (
      inr (record { pieces = length p.before.puts; few = omega (arith, count_of name ws p.left p.before, some); before = has_put name ws p.left missing m calm p.before }),
      rose_from u.faults v.faults w.faults low p.rose,
    )
made_few u v w name ws refusals.OutOfMemory missing m calm p =
    let low = m.faults in
    inr (record {
      counts = [];
      count = refl;
      missing = missing_file name u.told missing;
      disk = record {
        told = p.told ∙ m.told ∙ no_puts name (option_map (made name) u.told) ∙ puts_made name [] u.told;
        faults = omega (arith, low, p.faults);
        through = p.through ∙ m.through;
      };
      since = tt;
    })

-- by what was answered
pub made_by : (u v w : DiskView) (name : List ℕ) (ws : List Write) (r : Result (Unit {0}) CreateError) → IfSome u.told (λ d. true ≡ is_none (file d name)) → Leaves 0 (option_map (made name) u.told) u v → v.faults ≡ u.faults
    → OnOk r (PutsUpTo name ws [] v w) → OnOk r (w.faults ≡ v.faults) → IfErr r (λ e. FillsFew name ws v w e) → Makes name ws u w r
made_by u v w name ws (Ok a) missing m calm p calmer few = made_all name ws missing m calm p calmer
made_by u v w name ws (Err e) missing m calm p calmer few = made_few u v w name ws e missing m calm few

-- ---- What the pieces are

pub all_may : (names : List (List ℕ)) (form : Form) → IsForm form → AreNames names → AllNamed names → AreCreatable (all_by names form)
all_may names form h are named = are_creatable names (replicate (length names) form) (same_forms names form h) are named

pub closed_sized : (fs : List CreatedFile) → AreCreatable fs → AllSized (closed_writes fs)
closed_sized fs h =
    let long = length-super_bytes (super_of 0 fs) in
    AllSized-append (created_writes fs) (block_write (super_block 0 fs) ∷ []) (several_sizes fs h).sized ((omega arith, omega arith), tt)

pub closed_within : (fs : List CreatedFile) → AreCreatable fs → WritesEndBy (end_of fs) (closed_writes fs)
closed_within fs h =
    let long = length-super_bytes (super_of 0 fs) in
    let above = end_above (first_place fs) fs in
    ends_joined (end_of fs) (created_writes fs) (block_write (super_block 0 fs) ∷ []) (several_sizes fs h).within (omega arith, tt)

-- a dataset that is at its first moment reads as empty
empty_here : (img : List ℕ) (s : Super) (root : List Used) (place : ℕ) (f : CreatedFile) → Represents img f.name (moment_at s root place f) → IsEmptyDataset f img
empty_here img s root place f r =
    let m = moment_at s root place f in
    let found = moment_found img f.name m r in
    record {
      summary = found.summary;
      valid = found.valid;
      reads = record { shown = reading_of m; shows = moment_shows img f.name m r; rows_are = refl; columns_are = refl; count = r.count; values_are = r.cells };
      shape = refl;
      int_type = refl;
      fill = refl;
      index = refl;
      chunk_rows = refl;
      chunk_columns = refl;
    }

each_empty : (img : List ℕ) (s : Super) (root : List Used) (place : ℕ) (fs : List CreatedFile) → EachStands img s root place fs → AllByRecursion (λ f. IsEmptyDataset f img) fs
each_empty img s root place [] h = tt
each_empty img s root place (f ∷ fs) h = (empty_here img s root place f h.0, each_empty img s root (end_behind place f) fs h.1)

-- its superblock is the last that was put
new_superblock : (fs : List CreatedFile) → AreCreatable fs → super_at (range (new_bytes fs) 0 48) ≡ Ok (super_of 0 fs)
new_superblock fs h =
    let closed : Super = super_of 0 fs in
    let last : Write = block_write (super_block 0 fs) in
    let small = (several_sizes fs h).end in
    let few = h.few in
    let there = At-apply last (image [] (created_writes fs)) in
    ap (λ (img : List ℕ). super_at (range img 0 48)) (image-push [] (created_writes fs) last)
    ∙ ap super_at (ap (λ n. range (apply last (image [] (created_writes fs))) 0 n) (sym (length-super_bytes closed)) ∙ there) ∙ super_at-super_bytes closed (inr refl) (omega (arith, small, few)) (omega arith)

pub new_there : (fs : List CreatedFile) → AreCreatable fs → AreEmptyDatasets fs (new_bytes fs)
new_there fs h =
    let closed = (several_stand fs h).closed in
    record {
      each = each_empty (new_bytes fs) (super_of 0 fs) (root_ranges fs) (first_place fs) fs closed.stands;
      valid = closed.valid;
      super = new_superblock fs h;
      size = closed.size;
    }

-- ---- The answer

given_missing : (name : List ℕ) (end : ℕ) (t : Option DiskState) → IfSome t (λ d. file d name ≡ None) → IfSome t (λ d. IsGivenBy (end_given end (file d name)) (Ok end))
given_missing name end None h = tt
given_missing name end (Some d) h = ap (end_given end) h

some_exists : (end : ℕ) (o : Option (List ℕ)) → false ≡ is_none o → end_given end o ≡ Err errors.Exists
some_exists end None e = absurd (cc)
some_exists end (Some b) e = refl

given_exists : (name : List ℕ) (end : ℕ) (t : Option DiskState) → IfSome t (λ d. false ≡ is_none (file d name)) → IfSome t (λ d. IsGivenBy (end_given end (file d name)) (Err errors.Exists))
given_exists name end None h = tt
given_exists name end (Some d) h = some_exists end (file d name) h

pub creates_all : {v w : DiskView} (name : List ℕ) (fs : List CreatedFile) (r : Result (Unit {0}) CreateError) → AreEmptyDatasets fs (new_bytes fs) → Makes name (closed_writes fs) v w r
    → CreatesTo name fs v w (answer_of (end_of fs) r)
creates_all {v} name fs (Ok a) new m = record { leaves = m.0; exact = given_missing name (end_of fs) v.told (m.0.missing); cause = λ h. cc; calm = m.1; new = new }
creates_all {v} name fs (Err refusals.Exists) new m = record { leaves = m.0; exact = given_exists name (end_of fs) v.told m.1; cause = λ h. cc; calm = tt; new = tt }
creates_all {v} name fs (Err refusals.Failed) new m = record { leaves = m.0; exact = any_told v.told (λ d. tt); cause = λ h. m.1; calm = tt; new = tt }
creates_all {v} name fs (Err refusals.OutOfMemory) new m = record { leaves = m; exact = any_told v.told (λ d. tt); cause = λ h. cc; calm = tt; new = tt }

pub creates_wanting : (v : DiskView) (name : List ℕ) (fs : List CreatedFile) → CreatesTo name fs v v (Err errors.Memory)
creates_wanting v name fs = record { leaves = inl (record { told = refl; faults = omega arith; through = refl }); exact = any_told v.told (λ d. tt); cause = λ h. cc; calm = tt; new = tt }

-- ---- The end

pub creates_done : {v w : DiskView} {k l : SinkView} (name : List ℕ) (fs : List CreatedFile) (answer : Result ℕ ErrorLine) (text : List ℕ) (status : Status)
    → CreatesTo name fs v w answer → text ≡ create_text answer → Said text (status_by answer) status k l → CreateEnds name fs v w status k l
creates_done name fs answer text status p is said = record { answer = answer; text = text; comes = (p, is); said = said }

pub creates_refused : {v w : DiskView} {k l : SinkView} (name : List ℕ) (fs : List CreatedFile) (e x : CreateError) (status : Status)
    → e ≡ x → CreatesTo name fs v w (Err (create_line e)) → Said (error_text (create_line x)) (status_of (create_line x)) status k l → CreateEnds name fs v w status k l
creates_refused {v} {w} name fs e x status is p said =
    creates_done name fs (Err (create_line x)) (error_text (create_line x)) status (subst (λ (y : CreateError). CreatesTo name fs v w (Err (create_line y))) is p) refl said

pub creates_whole : {v w : DiskView} {k l : SinkView} (name : List ℕ) (fs : List CreatedFile) (status : Status) → CreateEnds name fs v w status k l → EndsWell (end_given (end_of fs)) name v w status k l
creates_whole {v} {w} name fs status e = completes w (end_given (end_of fs)) name status e (λ answer text c. c.0.exact) (λ answer text c. c.0.cause)

-- memory was wanting before anything was done
pub creates_wanted : {v : DiskView} {k l : SinkView} (name : List ℕ) (fs : List CreatedFile) (status : Status) → Said (error_text errors.Memory) statuses.Memory status k l → CreateEnds name fs v v status k l
creates_wanted {v} name fs status said = creates_done name fs (Err errors.Memory) (error_text errors.Memory) status (creates_wanting v name fs) refl said
