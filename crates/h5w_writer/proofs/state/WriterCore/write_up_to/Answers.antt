use Rattle.std.proofs.Common.{arith, ◌≡◌, ℕ, ◌+◌, ◌-◌, ◌<◌, ◌≤◌, Err, List, [], length, take, sym, ap, ◌∙◌, subst, inl, inr}
use Rattle.h5w_chunks.proofs.Geometry.{is_cut}
use Rattle.h5w_chunks.specs.Shares.{touched}
use Rattle.h5w_chunks.specs.declared.grid.ChunkPlace.{ChunkPlace}
use Rattle.h5w_image.specs.declared.fault.ImageError.TheVariants.{Failed}
use Rattle.h5w_model.specs.declared.piece.Write.{Write}
use Rattle.h5w_space.specs.Space.{Space}
use Rattle.h5w_index.specs.Views.{address_in}
use Rattle.h5w_writer.specs.Early.{IsBandFull, IsEarlyRow, WritesEarly, WrittenEarly}
use Rattle.h5w_writer.specs.Sessions.{AllEndBy, Session, next_row}
use Rattle.h5w_writer.proofs.EarlyCalls.{early_can, early_chunks, early_cells, early_is, early_session, early_within, writes_early}
use Rattle.h5w_writer.proofs.SessionFields.{session_of}
use Rattle.h5w_writer.proofs.state.WriterCore.write_up_to.Goals as goal

pub plan_early-requires : goal.plan_early-requires
plan_early-requires g c =
    let i = c.self.inside in
    let v = session_of i in
    let is = c.self.invariant.0 in
    let cut = is_cut i.grid c.self.invariant.1 in
    let row : IsEarlyRow v c.args.to = subst (λ (s : Session). IsEarlyRow s c.args.to) (sym c.self.view_is) c.requires.row in
    let mid : c.next_row-mid.result ≡ next_row v = c.next_row-mid.ensures.exact ∙ ap next_row (sym c.self.view_is) in
    let some = row.some in
    record {
      grid = c.self.invariant.1;
      can = early_can v is cut c.args.to row;
      first = omega (arith, mid);
      order = omega (arith, mid, some);
      chunks = early_chunks v is cut c.args.to row;
      count = early_cells v is cut c.args.to row c.next_row-mid.result c.as_slice.result.now mid c.as_slice.ensures;
      known = is.chunks ∙ ap (touched v.dataset v.dataset.shape.rows) (sym mid);
      ends = is.ends;
    }

pub let_go-requires : goal.let_go-requires
let_go-requires g c = subst (λ (bs : List ℕ). c.in-Ok.early.bytes ≤ length bs) c.as_slice.ensures c.in-Ok.ensures.writes.inside

pub invariant_of-self : goal.invariant_of-self
invariant_of-self g c =
    let i = c.self.inside in
    let v = session_of i in
    let e = c.in-Ok.early in
    let o = c.in-Ok.ensures in
    let row : IsEarlyRow v c.args.to = subst (λ (s : Session). IsEarlyRow s c.args.to) (sym c.self.view_is) c.requires.row in
    let mid : c.next_row-mid.result ≡ next_row v = c.next_row-mid.ensures.exact ∙ ap next_row (sym c.self.view_is) in
    let x = writes_early v c.args.to e.to e.bytes c.plan_early.new.chunks.items e.places e.writes.items c.let_go.new.self c.next_row-mid.result c.as_slice.result.now c.self.invariant.0 row mid c.as_slice.ensures c.if-mid-early.true c.let_go.ensures o.placed o.writes in (
      early_is v c.self.invariant.0 (is_cut i.grid c.self.invariant.1) (early_session v e.to c.plan_early.new.chunks.items e.places e.writes.items c.let_go.new.self) (ap (λ (s : Session). s.pending) c.self.view_is ∙ c.requires.idle) o.placed.grown.small x,
      c.self.invariant.1,
      o.writes.sized,
      omega arith,
      o.list,
    )

pub returns-then-mid-early : goal.returns-then-mid-early
returns-then-mid-early g c =
    let v = session_of c.self.inside in
    let e = c.in-Ok.early in
    let o = c.in-Ok.ensures in
    let row : IsEarlyRow v c.args.to = subst (λ (s : Session). IsEarlyRow s c.args.to) (sym c.self.view_is) c.requires.row in
    let mid : c.next_row-mid.result ≡ next_row v = c.next_row-mid.ensures.exact ∙ ap next_row (sym c.self.view_is) in
    let x = writes_early v c.args.to e.to e.bytes c.plan_early.new.chunks.items e.places e.writes.items c.let_go.new.self c.next_row-mid.result c.as_slice.result.now c.self.invariant.0 row mid c.as_slice.ensures c.if-mid-early.true c.let_go.ensures o.placed o.writes in
    let rises = c.if-mid-early.true in
    let same : v.dataset.shape.rows + (e.to - v.dataset.shape.rows) ≡ e.to = omega (arith, rises, mid) in
    record {
      written = subst (λ (s : Session). WrittenEarly s (early_session v e.to c.plan_early.new.chunks.items e.places e.writes.items c.let_go.new.self)) c.self.view_is (inr x);
      ends = o.writes.sized.within;
      within = early_within v c.args.to row (e.to - v.dataset.shape.rows) c.let_go.new.self c.plan_early.new.chunks.items e.places e.writes.items (omega (arith, same, o.placed.high)) (λ less. o.placed.full (omega (arith, same, less)));
      fault = λ told. absurd cc;
      kept = tt;
      image = c.plan_early.ensures.image;
      room = record { pieces = omega (arith, e.writes.ok.0, o.pieces); end = o.reserved };
    }

pub returns-else-mid-early : goal.returns-else-mid-early
returns-else-mid-early g c =
    let v = session_of c.self.inside in
    let e = c.in-Ok.early in
    let o = c.in-Ok.ensures in
    let chunks = c.plan_early.new.chunks.items in
    let row : IsEarlyRow v c.args.to = subst (λ (s : Session). IsEarlyRow s c.args.to) (sym c.self.view_is) c.requires.row in
    let mid : c.next_row-mid.result ≡ next_row v = c.next_row-mid.ensures.exact ∙ ap next_row (sym c.self.view_is) in
    let at : e.to ≡ c.next_row-mid.result = omega (arith, c.if-mid-early.false, o.placed.low) in
    let same = o.placed.same at in
    let idle : v.pending ≡ [] = ap (λ (s : Session). s.pending) c.self.view_is ∙ c.requires.idle in
    let none = ap length idle in
    let end = ap (λ (s : Space). s.end) same.1 in
    record {
      written = inl (ap (λ (cs : List ChunkPlace). record v { chunks = cs }) same.0 ∙ c.self.view_is);
      ends = subst (λ (ws : List Write). AllEndBy v.places.end ws) (sym idle) tt;
      within = early_within v c.args.to row v.early v.waiting chunks v.places v.pending (omega (arith, at, mid, o.placed.high))
          (λ less. subst (λ (s : Space). IsBandFull v.dataset (λ key. address_in v.index key) chunks s) same.1 (o.placed.full (omega (arith, at, mid, less))));
      fault = λ told. absurd cc;
      kept = tt;
      image = c.plan_early.ensures.image;
      room = record { pieces = omega (arith, none, o.pieces); end = omega (arith, end, o.reserved) };
    }

pub returns-in-Err : goal.returns-in-Err
returns-in-Err g c =
    let v = session_of c.self.inside in
    let long : c.len-known.result ≡ length v.chunks = c.len-known.ensures ∙ c.self.inside.backlog.chunks.ok.0 in
    let back : c.truncate.new.self.items ≡ v.chunks = c.truncate.ensures.items ∙ ap (λ (n : ℕ). take n c.plan_early.new.chunks.items) long ∙ c.in-Err.ensures.kept in
    record {
      written = tt;
      ends = tt;
      within = tt;
      fault = λ told. c.in-Err.ensures.fault (let same : c.in-Err.e ≡ Failed = cc in ap (λ x. Err x) same);
      kept = ap (λ (cs : List ChunkPlace). record v { chunks = cs }) back ∙ c.self.view_is;
      image = c.plan_early.ensures.image;
      room = tt;
    }
