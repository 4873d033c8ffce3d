-- A piece behind which a block, or a chunk's range, goes on.
use Rattle.std.proofs.Common.{◌≡◌, ℕ, length, List, Option, Some, None, Result, refl, sym, ◌∙◌, ap}
use Rattle.std.specs.Prelude.{◌≢◌, option_map, IsSome, ℤ}
use Rattle.h5w_model.specs.Programs.{Prog, bind, fed}
use Rattle.h5w_model.specs.Tables.{Reading}
use Rattle.h5w_model.specs.Calls.{CallRules}
use Rattle.h5w_model.specs.Unfinished.{rows_left, values_left, fed_left, wanted}
use Rattle.h5w_model.specs.declared.refusal.ReadError.{ReadError}
use Rattle.h5w_lookup.specs.Attempts.{known_of, rules_of}
use Rattle.h5w_reader.specs.Bands.{reading_with}
use Rattle.h5w_reader.specs.Calling.{behind_left, confirm_rest, stage_left}
use Rattle.h5w_lookup.specs.Gathering.{gathering}
use Rattle.h5w_reader.specs.Grids.{grid_given}
use Rattle.h5w_reader.specs.Readers.{left_of, reads_left}
use Rattle.h5w_reader.specs.Values.{band_rest, reading_values}
use Rattle.h5w_reader.specs.declared.behind.Behind.{Behind}
use Rattle.h5w_reader.specs.declared.call.Call.{Call}
use Rattle.h5w_reader.specs.declared.call.Call.TheVariants as calls
use Rattle.h5w_lookup.specs.declared.gather.Gather.{Gather}
use Rattle.h5w_reader.specs.declared.grid.Beside.{Beside}
use Rattle.h5w_lookup.specs.declared.known.Known.{Known}
use Rattle.h5w_reader.specs.declared.stage.Attempt.{Attempt}
use Rattle.h5w_reader.specs.declared.stage.Stage.{Stage}
use Rattle.h5w_reader.specs.declared.stage.Stage.TheVariants as stages
use Rattle.h5w_reader.specs.declared.values.Ranged.{Ranged}
use Rattle.h5w_reader.specs.declared.values.Reads.{Reads}
use Rattle.h5w_reader.specs.declared.values.Reads.TheVariants as reads_by
use Rattle.h5w_reader.proofs.CallLemmas.{fed_bind}
use Rattle.h5w_lookup.proofs.LookLemmas.{TookUp, range_goes}
use Rattle.h5w_reader.proofs.StageLemmas.{behind_looks, rows_want, values_want}

-- ---- A block on the way to a chunk

pub behind_goes : (most : ℕ) (name : List ℕ) (known : Option Reading) (s : Stage) (a : Attempt) (v w : Behind) (b : List ℕ) → s ≡ stages.Behind a v → ((g : CallRules) → behind_left g w ≡ fed b (behind_left g v))
    → stage_left most name known (stages.Behind a w) ≡ fed b (stage_left most name known s)
behind_goes most name known s a v w b e t =
    let g = rules_of a.rules known in
    let rest : Result Reading ReadError → Prog (Result Reading ReadError) = confirm_rest g a.more a.view in
    let l = behind_looks g v in
    ap (λ (p : Prog (Result Reading ReadError)). bind p rest) (t g)
    ∙ sym (fed_bind (behind_left g v) rest b l.look l.next)
    ∙ ap (λ (x : Stage). fed b (stage_left most name known x)) (sym e)

pub behind_same : (most : ℕ) (name : List ℕ) (known : Option Reading) (s : Stage) (a : Attempt) (v w : Behind) → s ≡ stages.Behind a v → ((g : CallRules) → behind_left g w ≡ behind_left g v)
    → stage_left most name known (stages.Behind a w) ≡ stage_left most name known s
behind_same most name known s a v w e t =
    let g = rules_of a.rules known in
    ap (λ (p : Prog (Result Reading ReadError)). bind p (confirm_rest g a.more a.view)) (t g) ∙ ap (stage_left most name known) (sym e)

-- ---- A chunk's range

-- what is left of a read that waits for it, once what is gathered is this
abbrev pub range_by : Known → Ranged → Gather → Prog (Result (List ℤ) ReadError)
range_by k s h = bind (gathering h) (band_rest (reading_with k s.span.dataset) s.span.from s.span.to s.band s.values.items h.start)

pub range_more : (k : Known) (v : Reads) (s : Ranged) (h : Gather) (b : List ℕ) → v ≡ reads_by.Range s → TookUp s.gather h b → range_by k s h ≡ fed b (reading_values k v)
range_more k v s h b e t =
    range_goes s.gather h b (band_rest (reading_with k s.span.dataset) s.span.from s.span.to s.band s.values.items) t ∙ ap (λ (x : Reads). fed b (reading_values k x)) (sym e)

pub range_same : (k : Known) (v : Reads) (s : Ranged) (h : Gather) → v ≡ reads_by.Range s → h ≡ s.gather → range_by k s h ≡ reading_values k v
range_same k v s h e same = ap (range_by k s) same ∙ ap (reading_values k) (sym e)

-- the same of a chunk beside others
abbrev pub beside_by : Known → Beside → Gather → Prog (Result (List ℤ) ReadError)
beside_by k s h =
    bind (gathering h) (grid_given (reading_with k s.grid.dataset) s.grid.from s.grid.to s.band (length s.ranges.items) s.values.items s.ranges.items h.start)

pub beside_more : (k : Known) (v : Reads) (s : Beside) (h : Gather) (b : List ℕ) → v ≡ reads_by.Beside s → TookUp s.gather h b → beside_by k s h ≡ fed b (reading_values k v)
beside_more k v s h b e t =
    range_goes s.gather h b (grid_given (reading_with k s.grid.dataset) s.grid.from s.grid.to s.band (length s.ranges.items) s.values.items s.ranges.items) t
    ∙ ap (λ (x : Reads). fed b (reading_values k x)) (sym e)

pub beside_same : (k : Known) (v : Reads) (s : Beside) (h : Gather) → v ≡ reads_by.Beside s → h ≡ s.gather → beside_by k s h ≡ reading_values k v
beside_same k v s h e same = ap (beside_by k s) same ∙ ap (reading_values k) (sym e)

-- ---- The call

pub rows_more : (most : ℕ) (name : List ℕ) (k : Option Known) (call : Option Call) (s t : Stage) (b : List ℕ) → call ≡ Some (calls.Rows s)
    → ((n : ℕ) (x : List ℕ) (known : Option Reading) → stage_left n x known t ≡ fed b (stage_left n x known s))
    → left_of most name k (Some (calls.Rows t)) ≡ option_map (fed_left b) (left_of most name k call)
rows_more most name k call s t b e h =
    ap (λ (p : Prog (Result Reading ReadError)). Some (rows_left p)) (h most name (known_of k)) ∙ ap (λ c. option_map (fed_left b) (left_of most name k c)) (sym e)

pub rows_same : (most : ℕ) (name : List ℕ) (k : Option Known) (call : Option Call) (s t : Stage) → call ≡ Some (calls.Rows s)
    → ((n : ℕ) (x : List ℕ) (known : Option Reading) → stage_left n x known t ≡ stage_left n x known s)
    → left_of most name k (Some (calls.Rows t)) ≡ left_of most name k call
rows_same most name k call s t e h =
    ap (λ (p : Prog (Result Reading ReadError)). Some (rows_left p)) (h most name (known_of k)) ∙ ap (left_of most name k) (sym e)

pub values_more : (most : ℕ) (name : List ℕ) (k : Option Known) (call : Option Call) (v w : Reads) (b : List ℕ) → call ≡ Some (calls.Values v) → ((x : Known) → reading_values x w ≡ fed b (reading_values x v))
    → reads_left k w ≡ option_map (fed_left b) (left_of most name k call)
values_more most name None call v w b e h = ap (λ c. option_map (fed_left b) (left_of most name None c)) (sym e)
values_more most name (Some k) call v w b e h =
    ap (λ (p : Prog (Result (List ℤ) ReadError)). Some (values_left p)) (h k) ∙ ap (λ c. option_map (fed_left b) (left_of most name (Some k) c)) (sym e)

pub values_same : (most : ℕ) (name : List ℕ) (k : Option Known) (call : Option Call) (v w : Reads) → call ≡ Some (calls.Values v) → ((x : Known) → reading_values x w ≡ reading_values x v)
    → reads_left k w ≡ left_of most name k call
values_same most name None call v w e h = ap (left_of most name None) (sym e)
values_same most name (Some k) call v w e h = ap (λ (p : Prog (Result (List ℤ) ReadError)). Some (values_left p)) (h k) ∙ ap (left_of most name (Some k)) (sym e)

-- ---- A call that goes on

-- it wants a look
pub goes_wants : (most : ℕ) (name : List ℕ) (k : Option Known) (call : Option Call) → call ≢ None → ((v : Reads) → call ≡ Some (calls.Values v) → k ≢ None) → IsSome (wanted (left_of most name k call))
goes_wants most name k None some known = absurd (some refl)
goes_wants most name k (Some (calls.Rows s)) some known = rows_want most name k s
goes_wants most name k (Some (calls.Values v)) some known = values_want most name k v (known v refl)
