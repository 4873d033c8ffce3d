use Rattle.std.proofs.Common.{◌≡◌, ◌<◌, ◌-◌, ◌*◌, ◌^◌, ◌∙◌, [], ℕ, ap, sym, subst, arith}
use Rattle.std.specs.Prelude.{IsTrue}
use Rattle.h5w_chunks.proofs.Geometry.{is_cut}
use Rattle.h5w_index.specs.Held.{view_of}
use Rattle.h5w_index.specs.Steps.{IsPlan}
use Rattle.h5w_index.specs.Views.{IsClean, IsReached}
use Rattle.h5w_writer.specs.Flushes.{first_key, first_place}
use Rattle.h5w_writer.specs.Sessions.{IsSession, Session, rows_of}
use Rattle.h5w_writer.proofs.AloneLemmas.{map_none, map_some, placing_in, touched_from, touched_in}
use Rattle.h5w_writer.proofs.SessionFields.{session_of}
use Rattle.h5w_writer.proofs.CarriedLemmas.{asks_for, values_few}
use Rattle.h5w_writer.proofs.state.WriterCore.chunk_alone.Goals as goal
use Rattle.h5w_writer.proofs.state.WriterCore.chunk_alone.Goals.{then-self-gt0-via-then-self-gt0, then-self-gt0-via-else-self-gt0+then-not-is_clean}

pub named_chunk-requires-clause-few : goal.named_chunk-requires-clause-few
named_chunk-requires-clause-few c =
    let i = c.self.inside in
    let v = session_of i in
    let is : IsSession v = c.self.invariant.0 in
    let to = c.rows.result in
    let to_is : to ≡ rows_of v = c.rows.ensures.value ∙ ap rows_of (sym c.self.view_is) in
    (asks_for v to is to_is).few

pub named_chunk-requires-clause-takes : goal.named_chunk-requires-clause-takes
named_chunk-requires-clause-takes c =
    let i = c.self.inside in
    let v = session_of i in
    let is : IsSession v = c.self.invariant.0 in
    let to = c.rows.result in
    let to_is : to ≡ rows_of v = c.rows.ensures.value ∙ ap rows_of (sym c.self.view_is) in
    (asks_for v to is to_is).takes

pub named_chunk-requires-clause-room : goal.named_chunk-requires-clause-room
named_chunk-requires-clause-room c =
    let i = c.self.inside in
    let v = session_of i in
    let is : IsSession v = c.self.invariant.0 in
    let to = c.rows.result in
    let to_is : to ≡ rows_of v = c.rows.ensures.value ∙ ap rows_of (sym c.self.view_is) in
    let few : i.backlog.waits * i.grid.shape.cols < 2 ^ 64 = values_few v is (is_cut i.grid c.self.invariant.1) in
    let less : to - i.grid.shape.rows ≡ i.backlog.waits = omega (arith, to_is) in
    subst (λ (n : ℕ). n * i.grid.shape.cols < 2 ^ 64) (sym less) few

pub returns-clause-placing : goal.returns-clause-placing
returns-clause-placing c =
    let i = c.self.inside in
    let v = session_of i in
    let is : IsSession v = c.self.invariant.0 in
    map_some c.named_chunk.result (λ p placed. placing_in v c.args.self.now c.rows.result p c.self.view_is c.rows.ensures.value (placed v.places is.inside)) c.named_chunk.ensures.placed

pub returns-clause-all : goal.returns-clause-all
returns-clause-all c =
    let i = c.self.inside in
    let v = session_of i in
    map_some c.named_chunk.result (λ p all. touched_in v c.args.self.now c.rows.result 1 c.self.view_is c.rows.ensures.value all) c.named_chunk.ensures.all

pub returns-clause-plan : goal.returns-clause-plan
returns-clause-plan c some =
    let i = c.self.inside in
    let v = session_of i in
    subst (λ (s : Session). IsPlan s.index s.places [] [] [] s.index s.places) c.self.view_is (c.is_clean.ensures.planned c.if-not-is_clean.false v.places)

pub returns-then-self-gt0-clause-none : goal.returns-then-self-gt0-clause-none
returns-then-self-gt0-clause-none c early clean all reached =
    let none : c.self.inside.backlog.early ≡ 0 = ap (λ (s : Session). s.early) c.self.view_is ∙ early in
    let here : IsClean (view_of c.self.inside.index) = subst (λ (s : Session). IsClean s.index) (sym c.self.view_is) clean in
    elim c.then-self-gt0.branch [
      | then-self-gt0-via-then-self-gt0 w ↦ absurd (omega (arith, w.if-self-gt0.true, none))
      | then-self-gt0-via-else-self-gt0+then-not-is_clean w ↦
          let yes : IsTrue w.is_clean.result = w.is_clean.ensures.clean.1 here in
          let clash : ⊥ = grind (arith, yes, w.if-not-is_clean.true) in
          absurd clash
    ]

pub returns-clause-exact : goal.returns-clause-exact
returns-clause-exact c = map_some c.named_chunk.result (λ p is. is ∙ ap (λ (s : Session). first_place s.dataset s.index) c.self.view_is) c.named_chunk.ensures.exact

pub returns-clause-none : goal.returns-clause-none
returns-clause-none c =
    let i = c.self.inside in
    let v = session_of i in
    map_none c.named_chunk.result (λ none early clean all reached.
    ap (λ (s : Session). (first_place s.dataset s.index).address) (sym c.self.view_is)
    ∙ none (touched_from v c.args.self.now c.rows.result 1 c.self.view_is c.rows.ensures.value all) (subst (λ (s : Session). IsReached s.index (first_key s.dataset)) (sym c.self.view_is) reached)) c.named_chunk.ensures.none
