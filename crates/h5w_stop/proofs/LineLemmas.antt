-- A writer's lines, one after another.
use Rattle.std.proofs.Common.{◌≡◌, ◌≤◌, List, [], ◌∷◌, ◌++◌, length, ℤ, sym, refl, ap, ◌∙◌, subst, arith, append_assoc, append-nil, length-append}
use Rattle.h5w_model.specs.Lawful.{Line, adds, flushes, Rules, rows_in, shows_up_to, ends, opens, refreshes, reads, looks}
use Rattle.h5w_model.specs.Logs.{Happening, appended_in, appends, hist, plans}
use Rattle.h5w_model.specs.declared.piece.Write.{Write}
use Rattle.h5w_laws.proofs.LogLemmas.{div_rises}
use Rattle.h5w_stop.specs.Sweeps.{DoAll, Does, Rest, rest_after, rest_of}
use Rattle.h5w_reader_laws.proofs.ShowingLemmas.{appended_showing, hist_showing}

module _ (g : Rules) where
  -- behind one more
  pub rest_more : (r : Rest) (lines : List Line) (line : Line) → rest_of g r (lines ++ line ∷ []) ≡ rest_after g (rest_of g r lines) line
  rest_more r [] line = refl
  rest_more r (x ∷ lines) line = rest_more (rest_after g r x) lines line

  pub do_more : (r : Rest) (lines : List Line) (line : Line) (es mid after : List Happening) → DoAll g r lines es mid → Does g (rest_of g r lines) line mid after → DoAll g r (lines ++ line ∷ []) es after
  do_more r [] line es mid after all one = (after, subst (λ (xs : List Happening). Does g r line xs after) all one, refl)
  do_more r (x ∷ lines) line es mid after all one = (all.0, all.1, do_more (rest_after g r x) lines line all.0 mid after all.2 one)

  -- no more rows are flushed than were appended
  level_after : (r : Rest) (line : Line) → r.flushed ≤ rows_in g r.appended → (rest_after g r line).flushed ≤ rows_in g (rest_after g r line).appended
  level_after r (adds vs) low =
      let more : length r.appended ≤ length (r.appended ++ vs) = omega (arith, length-append r.appended vs) in
      omega (arith, low, div_rises g.cutting.columns (length r.appended) (length (r.appended ++ vs)) more)
  level_after r flushes low = omega arith
  level_after r (shows_up_to k) low = low
  level_after r ends low = low
  level_after r (opens n) low = low
  level_after r (refreshes n) low = low
  level_after r (reads n from count) low = low
  level_after r (looks n k) low = low

  pub rest_level : (r : Rest) (lines : List Line) → r.flushed ≤ rows_in g r.appended → (rest_of g r lines).flushed ≤ rows_in g (rest_of g r lines).appended
  rest_level r [] low = low
  rest_level r (line ∷ lines) low = rest_level (rest_after g r line) lines (level_after r line low)

  -- the values of the log
  appended_by : (r : Rest) (line : Line) (es after : List Happening) → Does g r line es after → appended_in es ≡ r.appended → appended_in after ≡ (rest_after g r line).appended
  appended_by r (adds vs) es after d is = ap appended_in d.is ∙ appended_showing d.pieces (appends vs ∷ es) ∙ ap (λ (xs : List ℤ). xs ++ vs) is
  appended_by r flushes es after d is = ap appended_in d.is ∙ appended_showing d.pieces (plans (length d.pieces) ∷ es) ∙ is
  appended_by r (shows_up_to k) es after d is = absurd d
  appended_by r ends es after d is = absurd d
  appended_by r (opens n) es after d is = absurd d
  appended_by r (refreshes n) es after d is = absurd d
  appended_by r (reads n from count) es after d is = absurd d
  appended_by r (looks n k) es after d is = absurd d

  pub appended_done : (r : Rest) (lines : List Line) (es after : List Happening) → DoAll g r lines es after → appended_in es ≡ r.appended → appended_in after ≡ (rest_of g r lines).appended
  appended_done r [] es after d is = ap appended_in d ∙ is
  appended_done r (line ∷ lines) es after d is = appended_done (rest_after g r line) lines d.0 after d.2 (appended_by r line es d.0 d.1 is)

  -- its pieces go on behind those that were there
  hist_by : (r : Rest) (line : Line) (es after : List Happening) → Does g r line es after → (more : List Write) × (hist after ≡ hist es ++ more)
  hist_by r (adds vs) es after d = (d.pieces, ap hist d.is ∙ hist_showing d.pieces (appends vs ∷ es))
  hist_by r flushes es after d = (d.pieces, ap hist d.is ∙ hist_showing d.pieces (plans (length d.pieces) ∷ es))
  hist_by r (shows_up_to k) es after d = absurd d
  hist_by r ends es after d = absurd d
  hist_by r (opens n) es after d = absurd d
  hist_by r (refreshes n) es after d = absurd d
  hist_by r (reads n from count) es after d = absurd d
  hist_by r (looks n k) es after d = absurd d

  pub hist_done : (r : Rest) (lines : List Line) (es after : List Happening) → DoAll g r lines es after → (more : List Write) × (hist after ≡ hist es ++ more)
  hist_done r [] es after d = ([], ap hist d ∙ sym (append-nil (hist es)))
  hist_done r (line ∷ lines) es after d =
      let one = hist_by r line es d.0 d.1 in
      let rest = hist_done (rest_after g r line) lines d.0 after d.2 in
      (one.0 ++ rest.0, rest.1 ∙ ap (λ (ws : List Write). ws ++ rest.0) one.1 ∙ append_assoc (hist es) one.0 rest.0)
