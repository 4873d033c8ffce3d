-- What a call in a turn may put back.
use Rattle.std.proofs.Common.{◌≡◌, ℕ, Bool, true, false, true≢false, [], ◌∷◌, sym, refl, ap, ◌∙◌, subst, inl}
use Rattle.std.specs.Prelude.{if◌then◌else◌}
use Rattle.h5w_model.specs.declared.piece.Write.{Write}
use Rattle.h5w_model.specs.Images.{apply}
use Rattle.h5w_model.proofs.ImageLemmas.{image-append}
use Rattle.h5w_image.specs.Memory.{MemView, called, fails, is_failing, written}
use Rattle.h5w_shared.specs.declared.place.Place.{Place}
use Rattle.h5w_shared.specs.declared.table.Stage.TheVariants.{Waiting}
use Rattle.h5w_shared.specs.Turns.{Returned, Sound, serving_with}
use Rattle.h5w_shared.specs.Places.{AtRest, Keeps, Turn, Waits, worn_as}

-- no call on a sound store fails
pub never_fails : (x : MemView) → Sound x → fails x ≡ false
never_fails x sound = ap (λ f. is_failing f x.calls) sound.1

sound_written : (w : Write) (x : MemView) → Sound x → Sound (written w x)
sound_written w x sound = (ap (apply w) sound.0 ∙ sym (image-append x.start x.history (w ∷ [])), sound.1)

-- the store with one more piece
pub returns_written : (p q : Place) (x y : MemView) (w : Write) → Turn p q x → p.seat.me.0.writes ≡ true → y ≡ (if fails x then called x else written w x) → Returned q.seat.me.0 y
returns_written p q x y w turn writes is =
    let me = ap (λ m. m.0) turn.me in
    let y_is : y ≡ written w x = is ∙ ap (λ (b : Bool). if b then called x else written w x) (never_fails x turn.found.sound) in
    subst (λ v. Returned v y) (sym me) (subst (λ (z : MemView). Returned (serving_with turn.ticket x p.seat.me.0) z) (sym y_is) record {
      sound = sound_written w x turn.found.sound;
      begun = turn.found.begun;
      same = inl (writes, (w ∷ [], refl));
    })
