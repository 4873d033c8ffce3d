use Rattle.std.proofs.Common.{◌≡◌, ℕ, ◌+◌, ◌-◌, ◌++◌, List, sym, ap, ◌∙◌, drop, length, append_assoc, arith}
use Rattle.std.proofs.lemmas.List.{take_at, drop_at, drop-drop}
use borrow.Rule.Slice.PartMut.{put_mid}
use Rattle.h5w_ea.proofs.fields.put_head.Goals as goal

-- the second part written behind the first
behind : (s f old : List ℕ) (k : ℕ) → length s ≡ 4 → k ≡ length f → put_mid 4 k (s ++ drop 4 old) f ≡ (s ++ f) ++ drop (4 + length f) old
behind s f old k n e =
    let rest : drop k (drop 4 (s ++ drop 4 old)) ≡ drop (4 + length f) old =
    ap (drop k) (drop_at s (drop 4 old) 4 n) ∙ ap (λ m. drop m (drop 4 old)) e ∙ drop-drop (length f) 4 old in
    ap (λ l. l ++ (f ++ drop k (drop 4 (s ++ drop 4 old)))) (take_at s (drop 4 old) 4 n)
    ∙ ap (λ l. s ++ (f ++ l)) rest ∙ sym (append_assoc s f (drop (4 + length f) old))

pub returns : goal.returns
returns c =
    let s = c.args.signature.now in
    let f = c.args.fixed.now in
    let old = c.args.out.now in
    ap (λ l. put_mid 4 (4 + length f - 4) (l ++ drop 4 old) c.copy_from_slice-2.new.self) c.copy_from_slice.ensures.after
    ∙ ap (put_mid 4 (4 + length f - 4) (s ++ drop 4 old)) c.copy_from_slice-2.ensures.after
    ∙ behind s f old (4 + length f - 4) c.told-signature (omega arith)
