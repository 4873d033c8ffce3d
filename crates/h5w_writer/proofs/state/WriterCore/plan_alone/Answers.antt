use Rattle.std.proofs.Common.{◌≡◌, ℕ, zero, ◌-◌, ◌*◌, ◌∙◌, [], ◌∷◌, length, refl, ap, sym, subst, arith}
use Rattle.h5w_chunks.specs.Shares.{touched}
use Rattle.h5w_index.specs.Placing.{IsPlacing}
use Rattle.h5w_writer.specs.Sessions.{Session, row_bytes, rows_of}
use Rattle.h5w_writer.specs.Flushes.{touched_by}
use Rattle.h5w_writer.proofs.SessionFields.{session_of}
use Rattle.h5w_writer.proofs.HalfLemmas.{alone_exact, alone_written}
use Rattle.h5w_writer.proofs.state.WriterCore.plan_alone.Goals as goal

pub put_chunk-requires-clause-all : goal.put_chunk-requires-clause-all
put_chunk-requires-clause-all c =
    let i = c.self.inside in
    let v = session_of i in
    let back = sym c.self.view_is in
    let to_is : c.rows-to.result ≡ rows_of v = c.rows-to.ensures.value ∙ ap rows_of back in
    subst (λ (n : ℕ). touched v.dataset v.dataset.shape.rows n ≡ 1) (sym to_is)
    (subst (λ (s : Session). touched_by s ≡ 1) back c.requires.all)

pub put_chunk-requires-clause-count : goal.put_chunk-requires-clause-count
put_chunk-requires-clause-count c =
    let i = c.self.inside in
    let v = session_of i in
    let d = v.dataset in
    let back = sym c.self.view_is in
    let to = c.rows-to.result in
    let to_is : to ≡ rows_of v = c.rows-to.ensures.value ∙ ap rows_of back in
    let early : v.early ≡ 0 = subst (λ (s : Session). s.early ≡ 0) back c.requires.early in
    let rows : v.waits - v.early ≡ to - d.shape.rows = omega (arith, to_is, early) in
    let same : (to - d.shape.rows) * (d.shape.cols * d.int_type.size) ≡ (to - d.shape.rows) * d.shape.cols * d.int_type.size = grind arith in
    ap length c.as_slice.ensures ∙ c.self.invariant.0.cells ∙ ap (λ (n : ℕ). n * row_bytes d) rows ∙ same

pub put_chunk-requires-clause-ends : goal.put_chunk-requires-clause-ends
put_chunk-requires-clause-ends c =
    let v = session_of c.self.inside in
    let placing : IsPlacing v.dataset (rows_of v) v.index v.places (c.args.place ∷ []) [] v.index v.places =
    subst (λ (s : Session). IsPlacing s.dataset (rows_of s) s.index s.places (c.args.place ∷ []) [] s.index s.places) (sym c.self.view_is) c.requires.placing in
    omega (arith, placing.inside zero c.args.place refl, c.self.invariant.0.small)

pub returns-clause-exact : goal.returns-clause-exact
returns-clause-exact c =
    let v = session_of c.self.inside in
    alone_exact v c.args.self.now c.args.place c.put_chunk.result c.rows-to.result c.as_slice.result.now c.self.view_is c.rows-to.ensures.value c.as_slice.ensures c.put_chunk.ensures.exact

pub returns-clause-written : goal.returns-clause-written
returns-clause-written c =
    let v = session_of c.self.inside in
    alone_written v c.args.self.now c.args.place c.put_chunk.result c.rows-to.result c.as_slice.result.now c.self.view_is c.rows-to.ensures.value c.as_slice.ensures c.put_chunk.ensures.does
