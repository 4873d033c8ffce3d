use Rattle.std.proofs.Common.{◌≡◌, ℕ, ◌+◌, ◌%◌, List, [], ◌∷◌, ◌++◌, length, take, drop, ap, sym, ◌∙◌, append_assoc, arith}
use Rattle.std.proofs.lemmas.List.{drop-drop}
use Rattle.h5w_model.specs.Numbers.{le}
use Rattle.h5w_model.proofs.LinkLemmas.{link_written}
use Rattle.h5w_links.proofs.spelling.encode_link.Goals as goal

-- three parts that were written one after another
parts : (front text last number name rest behind out : List ℕ) → text ≡ name → rest ≡ drop 3 out → behind ≡ drop (length name) rest → last ≡ (take 0 behind ++ number) ++ drop (0 + 8) behind
    → front ++ (text ++ last) ≡ front ++ name ++ number ++ drop (11 + length name) out
parts front text last number name rest behind out t r b l =
    let tail : drop 8 behind ≡ drop (11 + length name) out =
    ap (drop 8) (b ∙ ap (drop (length name)) r ∙ drop-drop (length name) 3 out) ∙ drop-drop 8 (3 + length name) out ∙ ap (λ n. drop n out) (omega arith) in
    rw (l, t, tail) (simp append_assoc)

pub returns-clause-spelled : goal.returns-clause-spelled
unfolding le
returns-clause-spelled c =
    let size : length c.args.name.now % 256 ≡ length c.args.name.now = omega arith in
    rw size (ap (λ xs. xs ++ (c.copy_from_slice-2.new.self ++ c.put.new.b)) c.copy_from_slice.ensures.after
    ∙ parts (1 ∷ 0 ∷ length c.args.name.now ∷ []) c.copy_from_slice-2.new.self c.put.new.b (le 8 c.args.address) c.args.name.now c.split_at_mut-front.result.1.now c.split_at_mut-text.result.1.now c.args.out.now
    c.copy_from_slice-2.ensures.after c.split_at_mut-front.ensures.back c.split_at_mut-text.ensures.back c.put.ensures.written)

pub returns-clause-reads_back : goal.returns-clause-reads_back
returns-clause-reads_back c =
    let h = link_written c.args.name.now (drop (11 + length c.args.name.now) c.args.out.now) c.args.address c.requires.name c.ranges.address.fits in
    rw (returns-clause-spelled c) (h.0, sym h.1)
