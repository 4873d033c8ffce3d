use Rattle.std.proofs.Common.{◌≡◌, ◌∙◌, ◌+◌, ◌-◌, ◌<◌, ◌≤◌, ℕ, Bool, not, ◌||◌, List, Result, Ok, Err, length, drop, sym, ap, subst, arith, rules}
use Rattle.std.specs.List.{All}
use Rattle.h5w_model.specs.Programs.{Prog}
use Rattle.h5w_model.specs.Datasets.{then_also}
use Rattle.h5w_model.specs.Trees.{ChildFields, RecordFields, capacity_of}
use Rattle.h5w_model.specs.Findings.{Used, Finding, Under, node_visit}
use Rattle.h5w_bt.specs.Fields.{btin_of}
use Rattle.h5w_check.specs.Ran.{Told}
use Rattle.h5w_check.specs.declared.error.CheckError.{CheckError}
use Rattle.h5w_model.specs.Trees.{BtinFields}
use Rattle.h5w_check.specs.Nodes.{Spanned, add_found, all_faded, counting, ended, faded, inner_found, leaf_found}
use Rattle.h5w_headers.proofs.RanLemmas.{ran_end, ran_refused, told_seen, step_ok, step_err}
use Rattle.h5w_check.proofs.KnownLemmas.{coming_stop, coming_on, coming_told, coming_refused, visits_ran, visits_next, visits_next_stop, visits_end}
use Rattle.h5w_check.proofs.FallenLemmas.{child_step, child_err, end_faded, all_faded_err}
use Rattle.h5w_check.proofs.TreeLemmas.{child_rest, head_of, held_length, child_fits, node_leaf_at, node_inner, inner_rest}
use Rattle.h5w_check.proofs.tree.+node.Goals as goal

abbrev lost : CheckError → Result BtinFields CheckError
lost e = Err e

abbrev failed : CheckError → Result (Bool × Spanned) CheckError
failed e = Err e

pub children-node-requires : goal.children-node-requires
children-node-requires g t c κs within =
    let items = c.as_slice-child-items.result.now in
    let lt : c.loop-i.i < length items = omega arith in
    let deep : c.args.depth + 1 - 1 ≡ c.args.depth = omega arith in
    let few = subst (λ d. All (λ (x : ChildFields). x.records ≤ capacity_of d) c.args.t.now.children) deep c.requires.formed.few in
    (omega arith, (within, (omega arith, child_fits c.args.depth c.args.t.now.children items c.loop-i.i _ c.as_slice-child-items.ensures lt few)))

pub children-returns-in_err-span : goal.children-returns-in_err-span
children-returns-in_err-span g t c =
    let a = c.args in
    let l = c.loop-i in
    let items = c.as_slice-child-items.result.now in
    let rs = a.t.now.records in
    let cs = a.t.now.children in
    let go : ChildFields → Prog (Result Under Finding) = λ x. node_visit a.bounds.now.end a.bounds.now.chunk a.depth x.address x.records in
    let lt : l.i < length items = omega arith in
    let inside : l.i < length cs = omega (arith, held_length cs items c.as_slice-child-items.ensures) in
    let is : c.from_residual.result ≡ Err c.in_err-span.field-0.0 = search rules in
    rw is (coming_stop _ _ _ c.in_err-span.field-0.0 l.invariant.coming c.in_err-span.ensures.ran (λ img f said.
    child_err img a.bounds.now.end a.bounds.now.chunk go a.fallen _ l.i _ rs cs l.under.totals l.ranges l.under.span f inside c.requires.formed.count c.total_of-total.ensures.fits (head_of cs items l.i _ c.as_slice-child-items.ensures lt) said))

pub children-returns-in_err-under : goal.children-returns-in_err-under
children-returns-in_err-under g t c =
    let a = c.args in
    let l = c.loop-i in
    let items = c.as_slice-child-items.result.now in
    let rs = a.t.now.records in
    let cs = a.t.now.children in
    let end = a.bounds.now.end in
    let bytes = a.bounds.now.chunk in
    let go : ChildFields → Prog (Result Under Finding) = λ x. node_visit end bytes a.depth x.address x.records in
    let lt : l.i < length items = omega arith in
    let inside : l.i < length cs = omega (arith, held_length cs items c.as_slice-child-items.ensures) in
    let total = c.total_of-total.result in
    let new = c.node.new.ranges in
    let x = c.in_ok-span.span in
    let rest : List ℕ → Bool × Spanned → Result (Bool × Spanned) Finding = λ img. child_rest img end bytes go (drop (l.i + 1) rs) (drop (l.i + 1) cs) in
    let next : List ℕ → Result (Bool × Spanned) Finding = λ img. all_faded a.fallen (then_also (add_found end bytes l.under.totals l.under.span total x (drop l.i rs) new) (rest img)) in
    let so = coming_on _ _ next _ _ l.invariant.coming c.in_ok-span.ensures.ran (λ img said.
    child_step img end bytes go a.fallen _ l.i _ rs cs l.under.totals l.ranges new l.under.span x c.falls-falls_here.ensures inside c.requires.formed.count c.total_of-total.ensures.fits (head_of cs items l.i _ c.as_slice-child-items.ensures lt) said
    ∙ ap (λ k. all_faded a.fallen (then_also (add_found end bytes l.under.totals l.under.span k x (drop l.i rs) new) (rest img))) (sym c.total_of-total.ensures.exact)) in
    let told = subst (λ (qs : List RecordFields). Told (add_found end bytes l.under.totals l.under.span total x (drop l.i qs) new) (failed c.in_err-under.field-0.0)) c.as_slice-records.ensures c.in_err-under.ensures.exact in
    let is : c.from_residual-in_err-under.result ≡ Err c.in_err-under.field-0.0 = search rules in
    rw is (coming_refused _ next _ c.in_err-under.field-0.0 so told (λ img f said. ap (all_faded a.fallen) (step_err _ f (rest img) said)))

pub children-loop-i-preserved : goal.children-loop-i-preserved
children-loop-i-preserved g t c =
    let a = c.args in
    let l = c.loop-i in
    let items = c.as_slice-child-items.result.now in
    let rs = a.t.now.records in
    let cs = a.t.now.children in
    let end = a.bounds.now.end in
    let bytes = a.bounds.now.chunk in
    let go : ChildFields → Prog (Result Under Finding) = λ x. node_visit end bytes a.depth x.address x.records in
    let lt : l.i < length items = omega arith in
    let inside : l.i < length cs = omega (arith, held_length cs items c.as_slice-child-items.ensures) in
    let total = c.total_of-total.result in
    let new = c.node.new.ranges in
    let x = c.in_ok-span.span in
    let rest : List ℕ → Bool × Spanned → Result (Bool × Spanned) Finding = λ img. child_rest img end bytes go (drop (l.i + 1) rs) (drop (l.i + 1) cs) in
    let next : List ℕ → Result (Bool × Spanned) Finding = λ img. all_faded a.fallen (then_also (add_found end bytes l.under.totals l.under.span total x (drop l.i rs) new) (rest img)) in
    let so = coming_on _ _ next _ _ l.invariant.coming c.in_ok-span.ensures.ran (λ img said.
    child_step img end bytes go a.fallen _ l.i _ rs cs l.under.totals l.ranges new l.under.span x c.falls-falls_here.ensures inside c.requires.formed.count c.total_of-total.ensures.fits (head_of cs items l.i _ c.as_slice-child-items.ensures lt) said
    ∙ ap (λ k. all_faded a.fallen (then_also (add_found end bytes l.under.totals l.under.span k x (drop l.i rs) new) (rest img))) (sym c.total_of-total.ensures.exact)) in
    let y : Bool × Spanned = (c.in_ok-under.under.totals, (c.add.new.ranges, c.in_ok-under.under.span)) in
    let told = subst (λ (qs : List RecordFields). Told (add_found end bytes l.under.totals l.under.span total x (drop l.i qs) new) (Ok y)) c.as_slice-records.ensures c.in_ok-under.ensures.exact in
    record {
      coming = coming_told _ next _ so (λ img. ap (all_faded a.fallen) (step_ok _ y (rest img) told.exact));
      fits = c.in_ok-under.ensures.fits;
    }

pub look-returns-then-depth-eq0 : goal.look-returns-then-depth-eq0
look-returns-then-depth-eq0 g t c =
    let a = c.args in
    let pair : List ℕ × List Used = (c.in_ok-b.b.items, c.block.new.ranges) in
    let ran = rw (c.node_len-len.ensures.leaf c.if-depth-eq0.true) at c.in_ok-b.ensures.ran in
    let told = rw c.deref.ensures.value at c.leaf.ensures in
    let found = leaf_found a.bounds.now.end a.bounds.now.chunk a.at a.n c.in_ok-b.b.items c.block.new.ranges in
    visits_ran _ _ _ (ran_end _ pair (faded a.fallen found) _ _ ran (told_seen found _ _ (λ (x : Spanned). (counting a.fallen x.0, x.1)) told) (λ img said.
    ap (faded a.fallen) (node_leaf_at img a.ranges.now a.bounds.now.end a.bounds.now.chunk a.depth a.at a.n c.if-depth-eq0.true ∙ step_ok _ pair (λ x. leaf_found a.bounds.now.end a.bounds.now.chunk a.at a.n x.0 x.1) said)))

pub look-returns-in_err-t : goal.look-returns-in_err-t
look-returns-in_err-t g t c =
    let a = c.args in
    let pair : List ℕ × List Used = (c.in_ok-b.b.items, c.block.new.ranges) in
    let some : 0 < a.depth = omega arith in
    let next : a.depth ≡ (a.depth - 1) + 1 = omega arith in
    let ran = rw (c.node_len-len.ensures.inner (a.depth - 1) next) at c.in_ok-b.ensures.ran in
    let told = subst (λ (b : List ℕ). Told (inner_found a.at a.n a.depth b) (lost c.in_err-t.field-0.0)) c.deref-2.ensures.value c.in_err-t.ensures.exact in
    let is : c.from_residual-in_err-t.result ≡ Err c.in_err-t.field-0.0 = search rules in
    rw is (visits_ran _ _ _ (ran_refused _ pair (inner_found a.at a.n a.depth c.in_ok-b.b.items) c.in_err-t.field-0.0 _ ran told (λ img f said gone. ap (faded a.fallen) (
    node_inner img a.ranges.now a.bounds.now.end a.bounds.now.chunk a.depth a.at a.n some
    ∙ step_ok _ pair (λ x. then_also (inner_found a.at a.n a.depth x.0) (inner_rest img a.bounds.now.end a.bounds.now.chunk (a.depth - 1) a.at x.1)) said ∙ step_err _ f _ gone))))

pub look-returns-in_err-under : goal.look-returns-in_err-under
look-returns-in_err-under g t c =
    let a = c.args in
    let pair : List ℕ × List Used = (c.in_ok-b.b.items, c.block.new.ranges) in
    let some : 0 < a.depth = omega arith in
    let next : a.depth ≡ (a.depth - 1) + 1 = omega arith in
    let ran = rw (c.node_len-len.ensures.inner (a.depth - 1) next) at c.in_ok-b.ensures.ran in
    let told = subst (λ (b : List ℕ). Told (inner_found a.at a.n a.depth b) (Ok (btin_of c.in_ok-t.t))) c.deref-2.ensures.value c.in_ok-t.ensures.exact in
    let is : c.from_residual-in_err-under.result ≡ Err c.in_err-under.field-0.0 = search rules in
    rw is (visits_next_stop _ pair _ c.in_err-under.field-0.0 _ ran c.in_err-under.ensures (λ img f said gone. ap (faded a.fallen) (
    node_inner img a.ranges.now a.bounds.now.end a.bounds.now.chunk a.depth a.at a.n some
    ∙ step_ok _ pair (λ x. then_also (inner_found a.at a.n a.depth x.0) (inner_rest img a.bounds.now.end a.bounds.now.chunk (a.depth - 1) a.at x.1)) said
    ∙ step_ok _ (btin_of c.in_ok-t.t) (inner_rest img a.bounds.now.end a.bounds.now.chunk (a.depth - 1) a.at c.block.new.ranges) told.exact ∙ step_err _ f _ (all_faded_err a.fallen _ f gone))))

pub look-returns : goal.look-returns
look-returns g t c =
    let a = c.args in
    let pair : List ℕ × List Used = (c.in_ok-b.b.items, c.block.new.ranges) in
    let some : 0 < a.depth = omega arith in
    let next : a.depth ≡ (a.depth - 1) + 1 = omega arith in
    let ran = rw (c.node_len-len.ensures.inner (a.depth - 1) next) at c.in_ok-b.ensures.ran in
    let told = subst (λ (b : List ℕ). Told (inner_found a.at a.n a.depth b) (Ok (btin_of c.in_ok-t.t))) c.deref-2.ensures.value c.in_ok-t.ensures.exact in
    let under = c.in_ok-under.under in
    let new = c.children.new.ranges in
    let y : Bool × Spanned = (under.totals, (counting (not under.span.rising || a.fallen) new, under.span)) in
    let last = ended a.at under.totals new under.span in
    visits_next _ pair (λ img. faded a.fallen (inner_rest img a.bounds.now.end a.bounds.now.chunk (a.depth - 1) a.at c.block.new.ranges (btin_of c.in_ok-t.t))) _ _ ran
    (visits_end _ y (faded a.fallen last) _ _ c.in_ok-under.ensures (told_seen last _ _ (λ (x : Spanned). (counting a.fallen x.0, x.1)) (c.end.ensures new)) (λ img said. end_faded a.at a.fallen _ under.totals new under.span said))
    (λ img said. ap (faded a.fallen) (
    node_inner img a.ranges.now a.bounds.now.end a.bounds.now.chunk a.depth a.at a.n some
    ∙ step_ok _ pair (λ x. then_also (inner_found a.at a.n a.depth x.0) (inner_rest img a.bounds.now.end a.bounds.now.chunk (a.depth - 1) a.at x.1)) said
    ∙ step_ok _ (btin_of c.in_ok-t.t) (inner_rest img a.bounds.now.end a.bounds.now.chunk (a.depth - 1) a.at c.block.new.ranges) told.exact))
