use Rattle.std.proofs.Common.{arith, false, ◌≡◌, ◌≤◌, ◌/◌, ◌∙◌, ap, sym, length, None, refl}
use Rattle.h5w_model.specs.Lawful.{first_outside}
use Rattle.h5w_writer.specs.Sessions.{Session, chunks_with}
use Rattle.h5w_writer.proofs.StateLemmas.{too_many, not_refused}
use Rattle.h5w_writer.proofs.state.WriterCore.check.Goals as goal

pub returns-then-chunks-limit : goal.returns-then-chunks-limit
returns-then-chunks-limit c =
    let s = c.args.self.now in
    let values = c.args.values.now in
    let running : s.stopped ≡ false = sym (ap (λ (t : Session). t.stopped) c.self.view_is) ∙ c.if-self.false in
    let idle : length s.pending ≤ 0 = omega (arith, c.pending-pending.ensures) in
    let inside : None ≡ first_outside s.dataset.int_type 0 values = sym c.in_default.is ∙ c.first_outside.ensures ∙ ap (λ (t : Session). first_outside t.dataset.int_type 0 values) c.self.view_is in
    let is : c.chunks_with-chunks.result ≡ chunks_with s (length values / s.dataset.shape.cols) = c.chunks_with-chunks.ensures ∙ ap (λ (t : Session). chunks_with s (length values / t.dataset.shape.cols)) c.self.view_is in
    rw (too_many s values c.chunks_with-chunks.result c.chunk_limit-limit.result running idle inside is c.chunk_limit-limit.ensures c.if-chunks-limit.true) refl

pub returns : goal.returns
returns c =
    let s = c.args.self.now in
    let values = c.args.values.now in
    let running : s.stopped ≡ false = sym (ap (λ (t : Session). t.stopped) c.self.view_is) ∙ c.if-self.false in
    let idle : length s.pending ≤ 0 = omega (arith, c.pending-pending.ensures) in
    let inside : None ≡ first_outside s.dataset.int_type 0 values = sym c.in_default.is ∙ c.first_outside.ensures ∙ ap (λ (t : Session). first_outside t.dataset.int_type 0 values) c.self.view_is in
    let is : c.chunks_with-chunks.result ≡ chunks_with s (length values / s.dataset.shape.cols) = c.chunks_with-chunks.ensures ∙ ap (λ (t : Session). chunks_with s (length values / t.dataset.shape.cols)) c.self.view_is in
    rw (not_refused s values c.chunks_with-chunks.result c.chunk_limit-limit.result running idle inside is c.chunk_limit-limit.ensures c.if-chunks-limit.false) refl
