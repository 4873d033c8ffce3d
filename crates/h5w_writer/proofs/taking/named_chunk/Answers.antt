use Rattle.std.proofs.Common.{rules, ◌≡◌, ◌≢◌, ℕ, ◌*◌, ◌/◌, ◌≤◌, [], nat_lt, None, refl, sym, ap, subst, ◌∙◌, arith}
use Rattle.std.specs.Prelude.{IsTrue}
use Rattle.h5w_model.specs.Numbers.{undefined}
use Rattle.h5w_model.specs.declared.cell.Key.{Key}
use Rattle.h5w_chunks.specs.Grids.{dataset_of}
use Rattle.h5w_chunks.specs.Shares.{touched}
use Rattle.h5w_chunks.specs.declared.grid.ChunkPlace.{ChunkPlace}
use Rattle.h5w_chunks.proofs.Geometry.{is_cut}
use Rattle.h5w_index.specs.Held.{view_of}
use Rattle.h5w_index.specs.Views.{IsReached, address_in}
use Rattle.h5w_index.specs.Placing.{next_key}
use Rattle.h5w_index.proofs.PlacingLemmas.{placing_laws}
use Rattle.h5w_writer.specs.Flushes.{first_place}
use Rattle.h5w_pieces.proofs.AllIn.{on_none}
use Rattle.h5w_writer.proofs.AloneLemmas.{alone_band, alone_is, alone_key, touched_alone}
use Rattle.h5w_writer.proofs.TakingLemmas.{found_none, found_some, next_in, not_less}
use Rattle.h5w_writer.proofs.taking.named_chunk.Goals as goal
use Rattle.h5w_writer.proofs.taking.named_chunk.Goals.{then-to-first-via-then-to-first, then-to-first-via-else-to-first+then-grid-eq0, then-to-first-via-else-to-first+else-grid-eq0+then-grid-columns}

pub get-requires-clause-key : goal.get-requires-clause-key
get-requires-clause-key c =
    let d = dataset_of c.args.grid.now in
    let cut = is_cut c.args.grid.now c.requires.grid in
    let key : Key = record { i = d.shape.rows / d.layout.chunk_rows; j = 0 } in
    let one : touched d d.shape.rows c.args.to ≡ 1 = touched_alone d d.shape.rows c.args.to cut c.requires.order (omega arith) (omega arith) (omega arith) in
    let next = next_in d c.args.to 0 1 key (d.shape.rows / d.layout.chunk_rows) [] cut (sym one) (omega arith) refl (sym (alone_key d d.shape.rows c.args.to one)) (sym (alone_band d d.shape.rows c.args.to one)) in
    c.requires.takes key next.row

-- rows that go into more chunks than one, or into none
pub returns-then-to-first-clause-none : goal.returns-then-to-first-clause-none
returns-then-to-first-clause-none c all reached =
    let d = dataset_of c.args.grid.now in
    let alone = alone_is d d.shape.rows c.args.to (is_cut c.args.grid.now c.requires.grid) c.requires.order all in
    absurd (elim c.then-to-first.branch [
      | then-to-first-via-then-to-first w ↦ omega (arith, alone.inside, w.if-to-first.true)
      | then-to-first-via-else-to-first+then-grid-eq0 w ↦ omega (arith, alone.wide, w.if-grid-eq0.true)
      | then-to-first-via-else-to-first+else-grid-eq0+then-grid-columns w ↦ omega (arith, alone.narrow, w.if-grid-columns.true)
    ])

pub returns-in_err-address-clause-none : goal.returns-in_err-address-clause-none
returns-in_err-address-clause-none c =
    let d = dataset_of c.args.grid.now in
    let v = view_of c.args.index.now in
    let key : Key = record { i = d.shape.rows / d.layout.chunk_rows; j = 0 } in
    let none : c.get.result ≡ None = search rules in
    on_none c.from_residual.result (λ all reached. ap (address_in v) (alone_key d d.shape.rows c.args.to all) ∙ found_none (address_in v key) (sym c.get.ensures ∙ none))

-- a chunk that readers do not look for
pub returns-then-not-is_reached-clause-none : goal.returns-then-not-is_reached-clause-none
returns-then-not-is_reached-clause-none c all reached =
    let d = dataset_of c.args.grid.now in
    let v = view_of c.args.index.now in
    let yes : IsTrue c.is_reached.result = c.is_reached.ensures.exact.1 (subst (IsReached v) (alone_key d d.shape.rows c.args.to all) reached) in
    let clash : ⊥ = grind (arith, yes, c.if-not-is_reached.true) in
    absurd clash

pub returns-clause-exact : goal.returns-clause-exact
returns-clause-exact c =
    let d = dataset_of c.args.grid.now in
    let v = view_of c.args.index.now in
    let key : Key = record { i = d.shape.rows / d.layout.chunk_rows; j = 0 } in
    let one : touched d d.shape.rows c.args.to ≡ 1 = touched_alone d d.shape.rows c.args.to (is_cut c.args.grid.now c.requires.grid) c.requires.order (omega arith) (omega arith) (omega arith) in
    let there = found_some (address_in v key) c.in_ok-address.address (sym c.get.ensures ∙ c.in_ok-address.was) in
    let put : ℕ → ℕ → ChunkPlace = λ a band. record { address = a; stored = nat_lt (band * d.layout.chunk_rows) d.shape.rows } in
    ap (λ (a : ℕ). put a key.i) (sym there.0)
    ∙ ap (λ (k : Key). put (address_in v k) key.i) (sym (alone_key d d.shape.rows c.args.to one))
    ∙ ap (put (first_place d v).address) (sym (alone_band d d.shape.rows c.args.to one))

pub returns-clause-placed : goal.returns-clause-placed
returns-clause-placed c s within =
    let d = dataset_of c.args.grid.now in
    let v = view_of c.args.index.now in
    let cut = is_cut c.args.grid.now c.requires.grid in
    let key : Key = record { i = d.shape.rows / d.layout.chunk_rows; j = 0 } in
    let one : touched d d.shape.rows c.args.to ≡ 1 = touched_alone d d.shape.rows c.args.to cut c.requires.order (omega arith) (omega arith) (omega arith) in
    let p : ChunkPlace = record { address = c.in_ok-address.address; stored = nat_lt (key.i * d.layout.chunk_rows) d.shape.rows } in
    let there = found_some (address_in v key) p.address (sym c.get.ensures ∙ c.in_ok-address.was) in
    let defined : p.address ≢ undefined = λ e. there.1 (there.0 ∙ e) in
    let number : key ≡ next_key d [] = sym (alone_key d d.shape.rows c.args.to one) in
    let named : address_in v (next_key d []) ≡ p.address = ap (address_in v) (sym number) ∙ there.0 in
    let none = placing_laws.none d c.args.to v s s c.requires.sound refl refl refl refl in
    placing_laws.stored d c.args.to v v s s [] [] p c.requires.fits named defined
    (λ fresh. subst (λ (n : ℕ). d.shape.rows ≤ n * d.layout.chunk_rows) (sym (alone_band d d.shape.rows c.args.to one)) (not_less (key.i * d.layout.chunk_rows) d.shape.rows fresh))
    (subst (IsReached v) number (c.is_reached.ensures.exact.0 c.if-not-is_reached.false)) within none

pub returns-clause-all : goal.returns-clause-all
returns-clause-all c =
    let d = dataset_of c.args.grid.now in
    touched_alone d d.shape.rows c.args.to (is_cut c.args.grid.now c.requires.grid) c.requires.order (omega arith) (omega arith) (omega arith)
