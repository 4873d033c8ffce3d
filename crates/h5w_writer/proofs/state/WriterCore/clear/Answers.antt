use Rattle.std.proofs.Common.{arith, true, refl, ◌≡◌, ◌∙◌, [], ◌∷◌, ◌++◌, ap, sym, subst, inr, List, ℕ, Ok}
use Rattle.h5w_model.specs.Superblock.{super_bytes}
use Rattle.h5w_model.specs.declared.root.Super.{Super}
use Rattle.h5w_model.specs.declared.piece.Write.{Write}
use Rattle.h5w_model.proofs.SuperLemmas.{length-super_bytes}
use Rattle.h5w_writer.specs.Sessions.{ArePieces}
use Rattle.h5w_writer.proofs.StateLemmas.{closed_is, still_is}
use Rattle.h5w_model.specs.Superblock.{super_at}
use Rattle.h5w_writer.specs.Sessions.{closed_root}
use Rattle.h5w_writer.proofs.state.WriterCore.clear.Goals as goal

pub encode-requires : goal.encode-requires
encode-requires c = inr c.self.invariant.0.version

some_piece : {w : Write} {ws : List Write} → w ∷ ws ≡ [] → ⊥
some_piece e = cc

-- the one piece that is pending
planned : (c : goal.After-self-3-1) → c.push_reserved.new.self.items ≡ record { at = 0; piece = super_bytes (record (c.self.inside.root) { flags = c.cleared-self-inside.result }) } ∷ []
planned c =
    let root : Super = record (c.self.inside.root) { flags = c.cleared-self-inside.result } in
    let bytes : c.of-piece.result ≡ super_bytes root = c.of-piece.ensures ∙ c.encode.ensures.spelled in
    let v : Write = record { at = 0; piece = c.of-piece.result } in
    c.push_reserved.ensures.items ∙ ap (λ (ws : List Write). ws ++ v ∷ []) c.clear.ensures.items ∙ ap (λ (b : List ℕ). record { at = 0; piece = b } ∷ []) bytes

pub invariant_of-self : goal.invariant_of-self
invariant_of-self c =
    let i = c.self.inside in
    let is = c.self.invariant.0 in
    let root : Super = record (i.root) { flags = c.cleared-self-inside.result } in
    let size = length-super_bytes root in
    let begun = is.begun in
    let w : Write = record { at = 0; piece = super_bytes root } in
    let one : ArePieces i.places.end (w ∷ []) = record { sized = ((omega (arith, size), omega (arith, size)), tt); within = (omega (arith, size, begun), tt) } in (
      still_is _ root i.committed _ true i.keeps i.backlog.flushing refl (λ e. (is.flushing e, λ none. some_piece (sym (planned c) ∙ none))) is,
      c.self.invariant.1,
      subst (λ (ws : List Write). ArePieces i.places.end ws) (sym (planned c)) one,
      omega arith,
      omega (arith, c.push_reserved.ensures.capacity, c.clear.ensures.capacity, c.self.invariant.4),
    )

pub returns-clause-session : goal.returns-clause-session
returns-clause-session c = closed_is _ c.args.self.now c.cleared-self-inside.result c.push_reserved.new.self.items c.self.view_is c.cleared-self-inside.ensures (planned c)

pub returns-clause-reads : goal.returns-clause-reads
returns-clause-reads c =
    let root : ℕ → Super = λ f. record (c.self.inside.root) { flags = f } in
    let own : super_at (super_bytes (root c.cleared-self-inside.result)) ≡ Ok (root c.cleared-self-inside.result) = ap super_at (sym c.encode.ensures.spelled) ∙ c.encode.ensures.reads_back in
    subst (λ (r : Super). super_at (super_bytes r) ≡ Ok r) (ap root c.cleared-self-inside.ensures ∙ ap closed_root c.self.view_is) own
