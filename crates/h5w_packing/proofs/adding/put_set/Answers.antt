use Rattle.std.proofs.Common.{◌≡◌, ◌++◌, ◌∙◌, ℕ, List, ap, subst}
use Rattle.h5w_model.specs.declared.piece.Write.{Write}
use Rattle.h5w_space.specs.Space.{Space}
use Rattle.h5w_chunks.specs.Grids.{dataset_of}
use Rattle.h5w_index.specs.Held.{view_of}
use Rattle.h5w_creation.specs.Made.{index_writes}
use Rattle.h5w_packing.specs.Plans.{IsSettled, IsUnsettled, first_space, wanted_of}
use Rattle.h5w_packing.specs.SoFar.{IsAdded}
use Rattle.h5w_packing.proofs.ResultLemmas.{both_on}
use Rattle.h5w_packing.proofs.SetLemmas.{more_of, new_of_kind, out_of}
use Rattle.h5w_packing.proofs.adding.put_set.Goals as goal

pub settle-settled-requires-clause-kind : goal.settle-settled-requires-clause-kind
settle-settled-requires-clause-kind c = new_of_kind (dataset_of c.in_ok-front.front.grid) c.in_ok-front.front.block (view_of c.in_ok-index.index) c.in_ok-index.ensures.new

pub returns-clause-more : goal.returns-clause-more
returns-clause-more c =
    let w = wanted_of c.args.source.now in
    let f = c.in_ok-front.front in
    let e = dataset_of f.grid in
    let s = c.args.so_far.now in
    let t = c.added.new.so_far in
    let new = view_of c.in_ok-index.index in
    let is = c.in_ok-front.ensures in
    let index = view_of c.settle-settled.new.index in
    let last = c.settle-settled.new.places in
    let unchanged = c.new_index.new.writes.items in
    let un : unchanged ≡ index_writes e.layout.index e.layout.address f.block =
    c.in_ok-index.ensures.writes ∙ ap (λ (l : List Write). l ++ index_writes e.layout.index e.layout.address f.block) c.new-unchanged.ensures.items in
    both_on c.added.result c.settle-settled.result c.added.ensures.ok c.added.ensures.added c.settle-settled.ensures.settled
    (λ x a st.
    more_of c.args.limit w f s is.same is.laid is.header is.place is.end c.requires.source.listed c.requires.above c.requires.high new c.in_ok-index.ensures.new c.in_ok-index.ensures.sound x index last unchanged un
    (subst (λ (table : List ℕ). IsSettled e table (first_space s.end c.args.limit) new x.chunks.items x.plan.moves.items x.plan.copies.items x.plan.in_place.items x.clean index last) c.deref.ensures.value
    (subst (λ (p : Space). IsSettled e c.deref.result.now p new x.chunks.items x.plan.moves.items x.plan.copies.items x.plan.in_place.items x.clean index last) c.new-places.ensures st))
    t (subst (λ (n : List ℕ). IsAdded n f x unchanged last.end s t) c.as_slice.ensures (subst (λ (n : ℕ). IsAdded c.as_slice.result.now f x unchanged n s t) c.end.ensures a)))

pub returns-clause-full : goal.returns-clause-full
returns-clause-full c full e =
    let w = wanted_of c.args.source.now in
    let f = c.in_ok-front.front in
    let d = dataset_of f.grid in
    let s = c.args.so_far.now in
    let new = view_of c.in_ok-index.index in
    let is = c.in_ok-front.ensures in
    out_of c.args.limit w f s is.same is.laid is.header is.place is.end c.requires.source.listed c.requires.above c.requires.high new c.in_ok-index.ensures.new c.in_ok-index.ensures.sound full
    (subst (λ (table : List ℕ). IsUnsettled d table (first_space s.end c.args.limit) new full) c.deref.ensures.value
    (subst (λ (p : Space). IsUnsettled d c.deref.result.now p new full) c.new-places.ensures (c.settle-settled.ensures.full full (c.added.ensures.full full e))))
