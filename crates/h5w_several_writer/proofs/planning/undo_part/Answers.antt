use Rattle.std.proofs.Common.{◌∙◌, ap, sym, subst}
use Rattle.h5w_writer.specs.Flushes.{SameBut}
use Rattle.h5w_writer.specs.Sessions.{Session}
use Rattle.h5w_writer.specs.Told.{told_of}
use Rattle.h5w_several_writer.proofs.PartLemmas.{same_back}
use Rattle.h5w_several_writer.proofs.planning.undo_part.Goals as goal

pub reclaim-requires-clause-idle : goal.reclaim-requires-clause-idle
reclaim-requires-clause-idle c =
    let b = c.requires.begun in
    let same = c.give_up.ensures.kept (told_of b.old b.root b.places) b.half in
    ap (λ (s : Session). s.pending) same.session ∙ b.idle

pub reclaim-requires-clause-lent : goal.reclaim-requires-clause-lent
reclaim-requires-clause-lent c =
    let b = c.requires.begun in
    record {
      old = b.old;
      session = b.session;
      lent_root = b.root;
      lent = b.places;
      same = c.give_up.ensures.kept (told_of b.old b.root b.places) b.half;
      root_is = b.root_is;
      places = b.places_are;
    }

pub returns : goal.returns
returns c = record {
  kept = λ s r t half root_is places_are.
      let m = c.give_up.new.self in
      let same = c.give_up.ensures.kept (told_of s r t) half in (
        subst (λ (u : Session). SameBut s u) (sym (c.reclaim.ensures.session ∙ (λ i. told_of m (root_is i) (places_are i)))) (same_back s r t m same),
        c.reclaim.ensures.root ∙ ap (λ (u : Session). u.root) same.session,
        c.reclaim.ensures.places ∙ ap (λ (u : Session). u.places) same.session,
      );
}
