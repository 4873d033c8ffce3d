use Rattle.std.proofs.Common.{◌∙◌, sym, ap, length, subst}
use Rattle.h5w_model.specs.Checked.{viewed}
use Rattle.h5w_model.specs.Programs.{bind, and_then, next_look, fed}
use Rattle.h5w_lookup.specs.Looks.{IsWithinLook}
use Rattle.h5w_reader.specs.Opening.{opening, opened}
use Rattle.h5w_lookup.specs.Attempts.{known_of, rules_of}
use Rattle.h5w_lookup.specs.Descents.{reading_news}
use Rattle.h5w_reader.specs.Calling.{came, stage_left, place_rest, behind_left, confirm_rest, confirm_given, rows_given}
use Rattle.h5w_lookup.proofs.PieceLemmas.{along}
use Rattle.h5w_reader.proofs.CallLemmas.{fed_bind, fits_bind, rows_begin, confirm_begins}
use Rattle.h5w_reader.proofs.StageLemmas.{opening_looks, behind_looks}
use Rattle.h5w_reader.proofs.stage.Stage.feed.Goals as goal

pub feed-requires : goal.feed-requires
feed-requires c =
    let l = opening_looks c.in-Open.opening in
    fits_bind (opening c.in-Open.opening) _ (length c.args.piece.now) l.look l.next (rw c.in-Open.is at c.requires)

pub after_header-requires : goal.after_header-requires
after_header-requires c =
    let h = rw c.in-Header.is at c.requires in
    subst (λ p. IsWithinLook (next_look p) (length c.args.piece.now)) (rows_begin (rules_of c.in-Header.rules (known_of c.args.known.now))) h

pub feed-requires-in-Behind : goal.feed-requires-in-Behind
feed-requires-in-Behind c =
    let a = c.in-Behind.attempt in
    let g = rules_of a.rules (known_of c.args.known.now) in
    let l = behind_looks g c.in-Behind.behind in
    fits_bind (behind_left g c.in-Behind.behind) (confirm_rest g a.more a.view) (length c.args.piece.now) l.look l.next (rw c.in-Behind.is at c.requires)

pub view_at-requires : goal.view_at-requires
view_at-requires c =
    let a = c.in-Confirm.attempt in
    let h = rw c.in-Confirm.is at c.requires in
    subst (λ p. IsWithinLook (next_look p) (length c.args.piece.now)) (confirm_begins (rules_of a.rules (known_of c.args.known.now)) a.more a.view (viewed (reading_news (known_of c.args.known.now)) c.in-Confirm.answer)) h

pub returns-in_ok-feed-in-Open : goal.returns-in_ok-feed-in-Open
returns-in_ok-feed-in-Open c =
    let o = c.in-Open.opening in
    let most = c.args.attempts in
    let name = c.args.name.now in
    let l = opening_looks o in
    along (came most name (known_of c.args.known.now)) c.after_open.result (and_then (opened c.in_ok-feed-in-Open.field-0) (place_rest most name (known_of c.args.known.now))) (fed c.args.piece.now (stage_left most name (known_of c.args.known.now) c.args.self)) (c.after_open.ensures (known_of c.args.known.now))
    (rw c.in-Open.is (ap (λ p. and_then p (place_rest most name (known_of c.args.known.now))) c.in_ok-feed-in-Open.ensures ∙ sym (fed_bind (opening o) _ c.args.piece.now l.look l.next)))

pub returns-in-Header : goal.returns-in-Header
returns-in-Header c =
    let g = rules_of c.in-Header.rules (known_of c.args.known.now) in
    let most = c.args.attempts in
    let name = c.args.name.now in
    along (came most name (known_of c.args.known.now)) c.after_header.result (rows_given g c.args.piece.now) (fed c.args.piece.now (stage_left most name (known_of c.args.known.now) c.args.self)) (c.after_header.ensures most name)
    (rw c.in-Header.is (sym (ap (fed c.args.piece.now) (rows_begin g))))

pub returns-in_ok-found-in-Behind : goal.returns-in_ok-found-in-Behind
returns-in_ok-found-in-Behind c =
    let a = c.in-Behind.attempt in
    let g = rules_of a.rules (known_of c.args.known.now) in
    let b = c.in-Behind.behind in
    let most = c.args.attempts in
    let name = c.args.name.now in
    let l = behind_looks g b in
    rw c.in-Behind.is
    (c.after_behind.ensures most name (known_of c.args.known.now)
    ∙ ap (λ p. bind p (confirm_rest g a.more a.view)) c.in_ok-found-in-Behind.ensures
    ∙ sym (fed_bind (behind_left g b) (confirm_rest g a.more a.view) c.args.piece.now l.look l.next))

pub returns-in_ok-last-in-Confirm : goal.returns-in_ok-last-in-Confirm
returns-in_ok-last-in-Confirm c =
    let a = c.in-Confirm.attempt in
    let g = rules_of a.rules (known_of c.args.known.now) in
    let r = viewed (reading_news (known_of c.args.known.now)) c.in-Confirm.answer in
    let most = c.args.attempts in
    let name = c.args.name.now in
    along (came most name (known_of c.args.known.now)) c.end.result (confirm_given g a.more a.view r c.in_ok-last-in-Confirm.last) (fed c.args.piece.now (stage_left most name (known_of c.args.known.now) c.args.self)) (c.end.ensures most name)
    (rw (c.in-Confirm.is, c.in_ok-last-in-Confirm.ensures.exact) (sym (ap (fed c.args.piece.now) (confirm_begins g a.more a.view r))))
