use Rattle.std.proofs.Common.{rules, ap, sym, subst, ◌∙◌, ◌+◌, ◌-◌, ◌∷◌, [], ℕ, List, arith}
use Rattle.std.specs.Option.{option_map}
use Rattle.std.specs.Prelude.{drop, take}
use Rattle.h5w_image.specs.Journals.{write_seen}
use Rattle.h5w_shared.specs.Seats.{SeatView}
use Rattle.h5w_replica.specs.Putting.{HasPut}
use Rattle.h5w_replica.proofs.PutLemmas.{nothing_past, put_first, put_next_from}
use Rattle.h5w_replica.proofs.putting.put_pieces.Goals as goal
use Rattle.h5w_replica.proofs.putting.put_pieces.Goals.{in-Some+in_ok-put, in_default}

pub returns-in_err-put-clause-some : goal.returns-in_err-put-clause-some
returns-in_err-put-clause-some g c =
    let h = put_first (drop c.args.from c.args.pieces.now.writes) (c.loop-k.k - c.args.from) _ c.args.seat.now c.loop-k.seat c.put.new.seat c.loop-k.invariant.0 c.in_err-put.ensures.none in search (rules, h)

pub loop-k-preserved : goal.loop-k-preserved
loop-k-preserved g c =
    elim c.match-get.branch [
      | in-Some+in_ok-put w ↦
          let put = c.loop-k.invariant.0 in
          let one = subst (λ (b : List ℕ). HasPut (record { at = w.in-Some.w.at; piece = b } ∷ []) c.loop-k.seat w.put.new.seat) w.of.ensures w.in_ok-put.ensures.put in
          let h = put_next_from c.args.pieces.now.writes c.args.from c.loop-k.k (write_seen w.in-Some.w) c.args.seat.now c.loop-k.seat w.put.new.seat c.loop-k.invariant.2 (sym c.get.ensures ∙ ap (option_map write_seen) w.in-Some.is) put one in (
            subst (λ (s : SeatView). HasPut (take (c.loop-k.k + 1 - c.args.from) (drop c.args.from c.args.pieces.now.writes)) c.args.seat.now s) (sym w.seat-is) h,
            ap (λ (s : SeatView). s.image) (w.seat-is ∙ w.in_ok-put.ensures.put.same) ∙ c.loop-k.invariant.1,
            omega (arith, c.loop-k.invariant.2),
          )
      | in_default w ↦ absurd (nothing_past c.args.pieces.now.writes c.loop-k.k (sym c.get.ensures ∙ ap (option_map write_seen) w.in_default.is) (omega (arith, c.loop-k-test.true, c.len-k-end.ensures)))
    ]
