-- The numbers in a line of a script are in range.
use Rattle.std.proofs.Common.{ℕ, ◌*◌, ℤ, ◌≤◌, ◌≡◌, Bool, true, false, ◌&&◌, if◌then◌else◌, nat_le, List, [], ◌∷◌, length, Option, Some, None, refl, subst, arith, tests}
use Rattle.std.specs.Prelude.{codes, option_and_then, option_map}
use Rattle.h5w_model.specs.Lawful.{Line, adds, flushes, shows_up_to, ends, opens, refreshes, reads, looks}
use Rattle.h5w_input.specs.Lines.{count_of, line_limit, words_of}
use Rattle.h5w_input.specs.Scripts.{alone, append_of, by_word, is_word, look_of, of_words, on_reader_of, positive_of, read_of, rows_of, script_line_of, write_of}
use Rattle.h5w_batches.proofs.RowLemmas.{words_rows}
use Rattle.h5w_playing.specs.Answers.{InRange}

module _ (columns : ℕ) (some : 1 ≤ columns) where
  abbrev Ranged : Option Line → Type 0
  Ranged None = Unit {0}
  Ranged (Some l) = InRange columns l

  either : (b : Bool) (x y : Option Line) → Ranged x → Ranged y → Ranged (if b then x else y)
  either true x y h k = h
  either false x y h k = k

  mapped : (o : Option ℕ) (f : ℕ → Line) → ((n : ℕ) → InRange columns (f n)) → Ranged (option_map f o)
  mapped None f h = tt
  mapped (Some n) f h = h n

  guarded : (b : Bool) (n : ℕ) (f : ℕ → Option Line) → (b ≡ true → Ranged (f n)) → Ranged (option_and_then f (if b then Some n else None))
  guarded true n f h = h refl
  guarded false n f h = tt

  guarded_map : (b : Bool) (n : ℕ) (f : ℕ → Line) → (b ≡ true → InRange columns (f n)) → Ranged (option_map f (if b then Some n else None))
  guarded_map true n f h = h refl
  guarded_map false n f h = tt

  between : (n : ℕ) → (nat_le 1 n && nat_le n 16) ≡ true → (1 ≤ n) × (n ≤ 16)
  between n h = (grind (arith, tests), grind (arith, tests))

  of_reader : (o : Option ℕ) (f : ℕ → Option Line) → ((n : ℕ) → (1 ≤ n) × (n ≤ 16) → Ranged (f n)) → Ranged (option_and_then f (option_and_then (λ n. if nat_le 1 n && nat_le n 16 then Some n else None) o))
  of_reader None f h = tt
  of_reader (Some n) f h = guarded (nat_le 1 n && nat_le n 16) n f (λ e. h n (between n e))

  of_reader_map : (o : Option ℕ) (f : ℕ → Line) → ((n : ℕ) → (1 ≤ n) × (n ≤ 16) → InRange columns (f n)) → Ranged (option_map f (option_and_then (λ n. if nat_le 1 n && nat_le n 16 then Some n else None) o))
  of_reader_map None f h = tt
  of_reader_map (Some n) f h = guarded_map (nat_le 1 n && nat_le n 16) n f (λ e. h n (between n e))

  of_positive : (o : Option ℕ) (f : ℕ → Line) → ((n : ℕ) → 1 ≤ n → InRange columns (f n)) → Ranged (option_map f (option_and_then (λ n. if nat_le 1 n then Some n else None) o))
  of_positive None f h = tt
  of_positive (Some n) f h = guarded_map (nat_le 1 n) n f (λ e. h n (grind (arith, tests)))

  rows_ranged : (o : Option (List ℤ)) → ((vs : List ℤ) → o ≡ Some vs → (n : ℕ) × (length vs ≡ n * columns)) → Ranged (option_map adds o)
  rows_ranged None h = tt
  rows_ranged (Some vs) h = h vs refl

  append_ranged : (ws : List (List ℕ)) → Ranged (append_of columns ws)
  append_ranged ws = rows_ranged (rows_of columns ws) (λ vs e. words_rows columns ws vs some e)

  alone_ranged : (line : Line) (ws : List (List ℕ)) → InRange columns line → Ranged (alone line ws)
  alone_ranged line [] h = h
  alone_ranged line (w ∷ ws) h = tt

  write_ranged : (ws : List (List ℕ)) → Ranged (write_of ws)
  write_ranged [] = tt
  write_ranged (k ∷ []) = mapped (positive_of k) shows_up_to (λ n. tt)
  write_ranged (k ∷ w ∷ ws) = tt

  on_reader_ranged : (line : ℕ → Line) (ws : List (List ℕ)) → ((n : ℕ) → (1 ≤ n) × (n ≤ 16) → InRange columns (line n)) → Ranged (on_reader_of line ws)
  on_reader_ranged line [] h = tt
  on_reader_ranged line (r ∷ []) h = of_reader_map (count_of r) line h
  on_reader_ranged line (r ∷ w ∷ ws) h = tt

  then_mapped : (o : Option ℕ) (f : ℕ → Option Line) → ((n : ℕ) → Ranged (f n)) → Ranged (option_and_then f o)
  then_mapped None f h = tt
  then_mapped (Some n) f h = h n

  read_ranged : (ws : List (List ℕ)) → Ranged (read_of ws)
  read_ranged [] = tt
  read_ranged (r ∷ []) = tt
  read_ranged (r ∷ f ∷ []) = tt
  read_ranged (r ∷ f ∷ c ∷ []) =
      of_reader (count_of r) (λ reader. option_and_then (λ from. option_map (λ count. reads reader from count) (count_of c)) (count_of f))
      (λ n h. then_mapped (count_of f) (λ from. option_map (λ count. reads n from count) (count_of c)) (λ from. mapped (count_of c) (λ count. reads n from count) (λ count. h)))
  read_ranged (r ∷ f ∷ c ∷ w ∷ ws) = tt

  look_ranged : (ws : List (List ℕ)) → Ranged (look_of ws)
  look_ranged [] = tt
  look_ranged (r ∷ []) = tt
  look_ranged (r ∷ k ∷ []) =
      of_reader (count_of r) (λ reader. option_map (λ most. looks reader most) (positive_of k))
      (λ n h. of_positive (count_of k) (λ most. looks n most) (λ most some. (h.0, h.1, some)))
  look_ranged (r ∷ k ∷ w ∷ ws) = tt

  by_word_ranged : (name : List ℕ) (ws : List (List ℕ)) → Ranged (by_word columns name ws)
  by_word_ranged name ws =
      either (is_word (codes "append") name) _ _ (append_ranged ws)
      (either (is_word (codes "flush") name) _ _ (alone_ranged flushes ws tt)
      (either (is_word (codes "write") name) _ _ (write_ranged ws)
      (either (is_word (codes "stop") name) _ _ (alone_ranged ends ws tt)
      (either (is_word (codes "open") name) _ _ (on_reader_ranged opens ws (λ n h. h))
      (either (is_word (codes "refresh") name) _ _ (on_reader_ranged refreshes ws (λ n h. h))
      (either (is_word (codes "read") name) _ _ (read_ranged ws)
      (either (is_word (codes "look") name) _ _ (look_ranged ws) tt)))))))

  of_words_ranged : (ws : List (List ℕ)) → Ranged (of_words columns ws)
  of_words_ranged [] = tt
  of_words_ranged (name ∷ ws) = by_word_ranged name ws

  line_ranged : (line : List ℕ) → Ranged (script_line_of columns line)
  unfolding script_line_of
  line_ranged line = either (nat_le (length line) line_limit) (of_words columns (words_of line)) None (of_words_ranged (words_of line)) tt

  -- a line that is spelled
  pub in_range : (bytes : List ℕ) (l : Line) → script_line_of columns bytes ≡ Some l → InRange columns l
  in_range bytes l e = subst Ranged e (line_ranged bytes)
