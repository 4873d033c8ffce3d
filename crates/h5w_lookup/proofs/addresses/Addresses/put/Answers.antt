use Rattle.std.proofs.Common.{◌≡◌, ◌+◌, ◌*◌, ◌∷◌, [], ◌++◌, List, ℕ, ◌∙◌, sym, ap, arith, append_assoc}
use Rattle.std.proofs.lemmas.List.{append-nil}
use Rattle.h5w_model.specs.Numbers.{field}
use Rattle.h5w_model.specs.Arrays.{numbers_in}
use Rattle.h5w_model.proofs.ArrayLemmas.{numbers_in-more}
use Rattle.h5w_lookup.proofs.AddressLemmas.{numbers_from}
use Rattle.h5w_lookup.proofs.addresses.Addresses.put.Goals as goal

pub loop-k-init : goal.loop-k-init
unfolding numbers_in
loop-k-init c = sym (append-nil c.args.out.now.items)

pub loop-k-preserved : goal.loop-k-preserved
loop-k-preserved c =
    let b = c.as_slice-bytes.result.now in
    let p = 18 + 8 * c.args.first in
    let k = c.loop-k.k in
    let out = c.args.out.now.items in
    let e : 18 + 8 * (c.args.first + k) ≡ p + 8 * k = omega arith in
    c.in_ok-push.ensures.items
    ∙ ap (λ v. c.loop-k.out.items ++ v ∷ []) (c.slot.ensures ∙ ap (λ n. field b n 8) e)
    ∙ ap (λ (xs : List ℕ). xs ++ field b (p + 8 * k) 8 ∷ []) c.loop-k.invariant
    ∙ append_assoc out (numbers_in b k p) (field b (p + 8 * k) 8 ∷ [])
    ∙ ap (λ (xs : List ℕ). out ++ xs) (sym (numbers_in-more b k p))

pub returns : goal.returns
returns c =
    let a = c.args in
    let s = a.self.now in
    let b = c.as_slice-bytes.result.now in
    let end : c.loop-k.k ≡ a.count = omega arith in
    c.loop-k.invariant
    ∙ ap (λ n. a.out.now.items ++ numbers_in b n (18 + 8 * a.first)) end
    ∙ ap (λ (b : List ℕ). a.out.now.items ++ numbers_in b a.count (18 + 8 * a.first)) c.as_slice-bytes.ensures.value
    ∙ ap (λ (xs : List ℕ). a.out.now.items ++ xs) (numbers_from s.bytes.items s.n 18 a.first a.count c.requires)
