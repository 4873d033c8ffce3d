-- How the relations on an image's view compose: for a chain of calls and for a loop.
use Rattle.std.proofs.Common.{ℕ, ◌≡◌, Bool, List, [], ◌++◌, Option, Some, None, sym, refl, ap, ◌∙◌, subst, arith, length-append}
use Rattle.std.specs.Prelude.{IsTrue}
use Rattle.std.specs.Option.{option_map}
use Rattle.std.proofs.lemmas.List.{append_assoc, append-nil}
use Rattle.h5w_model.specs.Images.{image}
use Rattle.h5w_model.specs.declared.piece.Write.{Write}
use Rattle.h5w_model.proofs.ImageLemmas.{image-append}
use Rattle.h5w_image.specs.View.{ImageView, Looked, Same, Wrote}

no_writes : (b : Option (List ℕ)) → b ≡ option_map (λ x. image x []) b
no_writes None = refl
no_writes (Some b) = refl

no_history : (h : Option (List Write)) → h ≡ option_map (λ x. x ++ []) h
no_history None = refl
no_history (Some h) = ap Some (sym (append-nil h))

both_writes : (ws more : List Write) (b c d : Option (List ℕ)) → c ≡ option_map (λ x. image x ws) b → d ≡ option_map (λ x. image x more) c
    → d ≡ option_map (λ x. image x (ws ++ more)) b
both_writes ws more None c d p q = q ∙ ap (option_map (λ x. image x more)) p
both_writes ws more (Some b) c d p q = q ∙ ap (option_map (λ x. image x more)) p ∙ ap Some (sym (image-append b ws more))

both_histories : (ws more : List Write) (b c d : Option (List Write)) → c ≡ option_map (λ x. x ++ ws) b → d ≡ option_map (λ x. x ++ more) c
    → d ≡ option_map (λ x. x ++ (ws ++ more)) b
both_histories ws more None c d p q = q ∙ ap (option_map (λ x. x ++ more)) p
both_histories ws more (Some b) c d p q = q ∙ ap (option_map (λ x. x ++ more)) p ∙ ap Some (append_assoc b ws more)

pub same_itself : (v : ImageView) → Same v v
same_itself v = record {
  bytes = refl;
  history = refl;
  disk = refl;
  alone = refl;
  faults = omega arith;
  through = refl;
  pieces = omega arith;
  end = omega arith;
}

pub same_twice : {u v w : ImageView} → Same u v → Same v w → Same u w
same_twice p q = record {
  bytes = q.bytes ∙ p.bytes;
  history = q.history ∙ p.history;
  disk = q.disk ∙ p.disk;
  alone = q.alone ∙ p.alone;
  faults = omega arith;
  through = q.through ∙ p.through;
  pieces = omega arith;
  end = omega arith;
}

pub looked_if_same : {v w : ImageView} → Same v w → Looked v w
looked_if_same {v} {w} p = record {
  grown = ([], p.bytes ∙ no_writes v.bytes, p.history ∙ no_history v.history);
  still = λ _. p;
  alone = p.alone;
  faults = p.faults;
  through = p.through;
  pieces = p.pieces;
  end = p.end;
}

pub looked_itself : (v : ImageView) → Looked v v
looked_itself v = looked_if_same (same_itself v)

pub looked_twice : {u v w : ImageView} → Looked u v → Looked v w → Looked u w
looked_twice {u} {v} {w} p q = record {
  grown = (
    p.grown.0 ++ q.grown.0,
    both_writes p.grown.0 q.grown.0 u.bytes v.bytes w.bytes p.grown.1 q.grown.1,
    both_histories p.grown.0 q.grown.0 u.history v.history w.history p.grown.2 q.grown.2,
  );
  still = λ alone. same_twice (p.still alone) (q.still (subst (λ (b : Bool). IsTrue b) (sym p.alone) alone));
  alone = q.alone ∙ p.alone;
  faults = omega arith;
  through = q.through ∙ p.through;
  pieces = omega arith;
  end = omega arith;
}

pub wrote_nothing : {v w : ImageView} → Same v w → Wrote [] v w
wrote_nothing {v} {w} p = record {
  bytes = p.bytes ∙ no_writes v.bytes;
  history = p.history ∙ no_history v.history;
  alone = p.alone;
  faults = p.faults;
  through = p.through;
  pieces = omega arith;
  end = p.end;
}

pub wrote_more : {u v w : ImageView} (ws more : List Write) → Wrote ws u v → Wrote more v w → Wrote (ws ++ more) u w
wrote_more {u} {v} {w} ws more p q = record {
  bytes = both_writes ws more u.bytes v.bytes w.bytes p.bytes q.bytes;
  history = both_histories ws more u.history v.history w.history p.history q.history;
  alone = q.alone ∙ p.alone;
  faults = omega arith;
  through = q.through ∙ p.through;
  pieces = omega (arith, length-append ws more);
  end = omega arith;
}

-- for the attribute of a function that makes such calls
pub ruleset views = (same_itself, same_twice, looked_if_same, looked_itself, looked_twice, wrote_nothing, wrote_more)
