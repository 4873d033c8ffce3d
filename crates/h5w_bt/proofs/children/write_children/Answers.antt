use Rattle.std.proofs.Common.{◌≡◌, ◌+◌, ◌*◌, ◌<◌, ◌^◌, ◌++◌, length, get_or, map, take, drop, subst, sym, ap, ◌∙◌, arith}
use Rattle.std.proofs.lemmas.List.{get_or-map, length-map, take_all}
use Rattle.std.proofs.lemmas.List.Elements.{All-nil, All-more, All-get_or}
use Rattle.std.specs.List.{All, flat_map}
use Rattle.h5w_model.specs.Trees.{ChildFields, child_bytes, pointer_size}
use Rattle.h5w_bt.specs.declared.children.Child.{Child}
use Rattle.h5w_bt.specs.Parts.{child_of, IsPointer}
use Rattle.h5w_bt.proofs.Writing.{each-put, each-none, length-child_bytes, room}
use Rattle.h5w_bt.proofs.children.write_children.Goals as goal

abbrev no_child : Child
no_child = record { address = 0; records = 0; total = 0 }

pub loop-i-init : goal.loop-i-init
loop-i-init c = record {
  written = each-none (child_bytes c.args.depth) c.args.out.now c.args.from (c.args.from + 0 * pointer_size c.args.depth) (map child_of c.args.children.now) (omega arith);
  fits = All-nil (λ (r : Child). r.address < 2 ^ 64);
}

pub write-requires-clause-form : goal.write-requires-clause-form
write-requires-clause-form c =
    let children = c.args.children.now in
    let i = c.loop-i.i in
    let inside : i < length c.args.children.now = c.loop-i-test.true in
    let mapped : i < length (map child_of c.args.children.now) = omega (arith, length-map children child_of) in
    subst (IsPointer c.args.depth) (get_or-map child_of children i no_child (child_of no_child) inside) (All-get_or (IsPointer c.args.depth) (map child_of children) i (child_of no_child) mapped c.requires.form)

pub write-requires-clause-inside : goal.write-requires-clause-inside
write-requires-clause-inside c =
    let width = c.pointer_size-width.ensures.exact in
    let p = pointer_size c.args.depth in
    let i = c.loop-i.i in
    let low : i * c.pointer_size-width.result ≡ i * pointer_size c.args.depth = ap (λ k. i * k) width in
    omega (arith, c.requires.inside, low, room i (length c.args.children.now) p c.loop-i-test.true)

pub loop-i-preserved : goal.loop-i-preserved
loop-i-preserved c =
    let i = c.loop-i.i in
    let old = c.args.out.now in
    let from = c.args.from in
    let depth = c.args.depth in
    let w = pointer_size c.args.depth in
    let bytes = child_bytes c.args.depth in
    let children = c.args.children.now in
    let here = c.args.from + c.loop-i.i * c.pointer_size-width.result in
    let place : here ≡ from + i * pointer_size c.args.depth = ap (λ k. from + i * k) c.pointer_size-width.ensures.exact in
    let inside : i < length c.args.children.now = c.loop-i-test.true in
    let mapped : i < length (map child_of c.args.children.now) = omega (arith, length-map children child_of) in
    let item : get_or (map child_of c.args.children.now) i (child_of no_child) ≡ child_of (get_or c.args.children.now i no_child) = get_or-map child_of children i no_child (child_of no_child) inside in
    let behind : here + pointer_size c.args.depth ≡ from + (i + 1) * pointer_size c.args.depth = omega (arith, place) in
    let before : c.loop-i.out ≡ (take from old ++ flat_map bytes (take i (map child_of children))) ++ drop here old =
    c.loop-i.invariant.written ∙ ap (λ p. (take from old ++ flat_map bytes (take i (map child_of children))) ++ drop p old) (sym place) in
    let put : c.write.new.out ≡ (take here c.loop-i.out ++ bytes (get_or (map child_of c.args.children.now) i (child_of no_child))) ++ drop (here + w) c.loop-i.out =
    c.write.ensures.written ∙ ap (λ (r : ChildFields). (take here c.loop-i.out ++ bytes r) ++ drop (here + w) c.loop-i.out) (sym item) in
    record {
      written = each-put bytes w (λ r. length-child_bytes depth r c.requires.low) old c.loop-i.out c.write.new.out from (map child_of children) i here (child_of no_child) mapped (omega (arith, c.requires.inside)) place before put
          ∙ ap (λ p. (take from old ++ flat_map bytes (take (i + 1) (map child_of children))) ++ drop p old) behind;
      fits = All-more (λ (r : Child). r.address < 2 ^ 64) children i no_child inside c.loop-i.invariant.fits c.write.ensures.fits;
    }

pub returns : goal.returns
returns c =
    let children = c.args.children.now in
    let old = c.args.out.now in
    let from = c.args.from in
    let w = pointer_size c.args.depth in
    let bytes = child_bytes c.args.depth in
    let end : length c.args.children.now ≡ c.loop-i.i = omega arith in
    let all : take c.loop-i.i (map child_of c.args.children.now) ≡ map child_of c.args.children.now = take_all c.loop-i.i (map child_of children) (omega (arith, length-map children child_of)) in
    record {
      written = c.loop-i.invariant.written
          ∙ ap (λ l. (take from old ++ flat_map bytes l) ++ drop (from + c.loop-i.i * w) old) all
          ∙ ap (λ n. (take from old ++ flat_map bytes (map child_of children)) ++ drop (from + n * w) old) (sym end);
      fits = subst (λ l. All (λ (r : Child). r.address < 2 ^ 64) l) (take_all c.loop-i.i children (omega arith)) c.loop-i.invariant.fits;
    }
