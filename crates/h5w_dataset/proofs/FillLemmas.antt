-- A fill that was read has the size of its type.
use Rattle.std.proofs.Common.{◌≡◌, ℕ, ◌+◌, ◌-◌, ◌≤◌, min, true, cond, ◌||◌, List, length, drop, Option, Some, None, Result, Ok, Err, inl, inr, sym, ◌∙◌, ap, arith, length-take, length-drop}
use Rattle.std.specs.Prelude.{◌==◌, nat_le, option_map}
use Rattle.std.specs.Option.{ForSome}
use Rattle.std.proofs.lemmas.Bool.{cases_Bool, eqb-true, leb-true}
use Rattle.std.specs.Result.{IfOk}
use Rattle.h5w_model.specs.Checked.{viewed}
use Rattle.h5w_model.specs.declared.refusal.Unsupported.{Unsupported}
use Rattle.h5w_model.specs.Numbers.{range}
use Rattle.h5w_model.specs.Integers.{cell_bytes, cell_of}
use Rattle.h5w_model.specs.Messages.{IntTypeFields, FillFields, fill_at, fill_tests, fill_fields, fill_size}
use Rattle.h5w_model.specs.declared.cell.Cell.{Cell}
use Rattle.h5w_model.proofs.CheckedLemmas.{checked-passed}
use Rattle.h5w_layout.specs.Layouts.{fill_of, fill_with}
use Rattle.h5w_layout.specs.declared.fill.Fill.{Fill}

sized_by : (n s : ℕ) (b bytes : List ℕ) → ((n == 0) || (n == s)) ≡ true → ((n == 0) || nat_le (6 + n) (length b)) ≡ true → cond (n == 0) None (Some (range b 6 n)) ≡ Some bytes → length bytes ≡ s
sized_by n s b bytes same room e =
    elim (cases_Bool (n == 0)) [
      | inl t ↦ let h : None ≡ Some bytes = rw t at e in absurd (cc)
      | inr f ↦
          let is : Some (range b 6 n) ≡ Some bytes = rw f at e in
          let bytes_are : range b 6 n ≡ bytes = cc in
          let size : n ≡ s = eqb-true n s (rw f at same) in
          let fits : 6 + n ≤ length b = leb-true (6 + n) (length b) (rw f at room) in
          let long : length (range b 6 n) ≡ min n (length b - 6) = length-take n (drop 6 b) ∙ ap (min n) (length-drop 6 b) in
          sym (ap length bytes_are) ∙ long ∙ (omega arith)
    ]

pub fill_sized : (b : List ℕ) (t : IntTypeFields) (f : Fill) → fill_at b t ≡ Ok (fill_of f) → f ≡ fill_with (fill_of f) → ForSome f.value (λ c. c.size ≡ t.size)
unfolding fill_at fill_tests fill_fields
fill_sized b t f e padded = λ (c : Cell) is.
    let p = checked-passed (fill_tests b t) (fill_fields b) (fill_of f) e in
    let value : cond (fill_size b == 0) None (Some (range b 6 (fill_size b))) ≡ Some (cell_bytes c) = ap (λ (g : FillFields). g.value) p.1 ∙ ap (option_map cell_bytes) is in
    let size : length (cell_bytes c) ≡ t.size = sized_by (fill_size b) t.size b (cell_bytes c) p.0.1.1.1.0 p.0.1.1.1.1.0 value in
    let whole : Some c ≡ Some (cell_of (cell_bytes c)) = sym is ∙ ap (λ (g : Fill). g.value) padded ∙ ap (λ (v : Option Cell). option_map cell_of (option_map cell_bytes v)) is in
    let same : c ≡ cell_of (cell_bytes c) = cc in
    ap (λ (x : Cell). x.size) same ∙ size

pub decoded_sized : (b : List ℕ) (t : IntTypeFields) (r : Result Fill Unsupported) → viewed fill_of r ≡ fill_at b t → IfOk r (λ f. f ≡ fill_with (fill_of f)) → IfOk r (λ f. ForSome f.value (λ c. c.size ≡ t.size))
decoded_sized b t (Ok f) e padded = fill_sized b t f (sym e) padded
decoded_sized b t (Err u) e padded = padded
