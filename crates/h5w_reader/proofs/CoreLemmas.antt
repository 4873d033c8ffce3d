-- A reader's calls.
use Rattle.std.proofs.Common.{◌≡◌, ℕ, ◌<◌, List, [], Option, Some, None, Result, Ok, sym, ◌∙◌, ◌-◌, ap, subst, arith, cond, refl}
use Rattle.std.specs.Prelude.{option_map}
use Rattle.std.proofs.lemmas.Bool.{ne_eqb}
use Rattle.h5w_model.specs.Programs.{Prog, ret, fed}
use Rattle.h5w_model.specs.Tables.{Reading}
use Rattle.h5w_model.specs.Headers.{header_view}
use Rattle.h5w_model.specs.Calls.{open_call, rows_call, values_call}
use Rattle.h5w_model.specs.Unfinished.{rows_left, values_left, Reader, fed_left, rows_program, values_program}
use Rattle.h5w_model.specs.declared.refusal.ReadError.{ReadError}
use Rattle.h5w_lookup.specs.Attempts.{reader_limits, reading_of, known_of, rules_of}
use Rattle.h5w_reader.specs.Calling.{stage_left, came}
use Rattle.h5w_reader.specs.Idle.{IsIdle}
use Rattle.h5w_reader.specs.Values.{reading_values}
use Rattle.h5w_reader.specs.Readers.{reader_rules, new_reader, reader_of, left_of, reads_left}
use Rattle.h5w_lookup.specs.Descents.{reading_news}
use Rattle.h5w_lookup.specs.declared.known.Known.{Known}
use Rattle.h5w_lookup.specs.declared.known.Rules.{Rules}
use Rattle.h5w_lookup.specs.declared.news.News.{News}
use Rattle.h5w_reader.specs.declared.stage.Stage.{Stage}
use Rattle.h5w_reader.specs.declared.stage.Stage.TheVariants as stages
use Rattle.h5w_lookup.specs.declared.outcome.Outcome.TheVariants as outcomes
use Rattle.h5w_reader.specs.declared.values.Reads.{Reads}
use Rattle.h5w_reader.specs.declared.call.Call.{Call}
use Rattle.h5w_reader.specs.declared.call.Call.TheVariants as calls
use Rattle.h5w_reader.proofs.CallLemmas.{rows_begin, rows_given_is, attempt_settled}

-- a reader that knows this, with a call for rows of which this is left
abbrev for_rows : ℕ → List ℕ → Option Known → Prog (Result Reading ReadError) → Reader
for_rows most name k p = record { rules = reader_rules name most; known = known_of k; left = Some (rows_left p) }

pub opened : (most : ℕ) (name text : List ℕ) (s : Stage) → name ≡ text → ((n : ℕ) (t : List ℕ) → stage_left n t None s ≡ open_call reader_limits 16 n t)
    → reader_of name most None (Some (calls.Rows s)) ≡ new_reader (reader_rules text most)
opened most name text s e h = ap (for_rows most name None) (h most name) ∙ ap (λ t. for_rows most t None (open_call reader_limits 16 most t)) e

program_known : (most : ℕ) (name : List ℕ) (k : Option Known) (known : Known) → k ≡ Some known → rows_program (reader_rules name most) (known_of k) ≡ rows_call (rules_of (record { attempts = most; place = known.place }) (known_of k))
program_known most name k known e = rw e refl

pub refreshed_known : (most : ℕ) (name : List ℕ) (k : Option Known) (known : Known) (s r : Stage) → k ≡ Some known → s ≡ r
    → ((n : ℕ) (t : List ℕ) (x : Option Reading) → stage_left n t x r ≡ rows_call (rules_of (record { attempts = most; place = known.place }) x))
    → reader_of name most k (Some (calls.Rows s)) ≡ for_rows most name k (rows_program (reader_rules name most) (known_of k))
refreshed_known most name k known s r e same h =
    ap (λ x. for_rows most name k (stage_left most name (known_of k) x)) same ∙ ap (for_rows most name k) (h most name (known_of k) ∙ sym (program_known most name k known e))

pub refreshed_new : (most : ℕ) (name : List ℕ) (k : Option Known) (s r : Stage) → k ≡ None → s ≡ r
    → ((n : ℕ) (t : List ℕ) → stage_left n t None r ≡ open_call reader_limits 16 n t)
    → reader_of name most k (Some (calls.Rows s)) ≡ for_rows most name k (rows_program (reader_rules name most) (known_of k))
refreshed_new most name k s r e same h =
    ap (λ x. for_rows most name k (stage_left most name (known_of k) x)) same
    ∙ rw e (ap (for_rows most name None) (h most name))

-- a read of some rows of a known dataset
pub program_read : (k : Option Known) (known : Known) (from count : ℕ) → k ≡ Some known → 0 < count → values_program (known_of k) from count ≡ values_call (reading_of known) from count
program_read k known from count e some =
    ap (λ x. values_program (known_of x) from count) e
    ∙ ap (λ c. cond c (ret (Ok [])) (values_call (reading_of known) from count)) (ne_eqb count 0 (λ z. let x : 0 < 0 = subst (λ n. 0 < n) z some in absurd (omega (arith, x))))

pub read_begun : (k : Option Known) (known : Known) (reads : Reads) (from count : ℕ) → k ≡ Some known → 0 < count → reading_values known reads ≡ values_call (reading_of known) from count
    → reads_left k reads ≡ Some (values_left (values_program (known_of k) from count))
read_begun k known reads from count e some h =
    ap (λ x. reads_left x reads) e ∙ ap (λ p. Some (values_left p)) (h ∙ sym (program_read k known from count e some))

pub found_rows : (most : ℕ) (name b : List ℕ) (k : Option Known) (call : Option Call) (s : Stage) (news : News) → call ≡ Some (calls.Rows s) → came most name (known_of k) (outcomes.Done news) ≡ fed b (stage_left most name (known_of k) s)
    → option_map (fed_left b) (left_of most name k call) ≡ Some (rows_left (ret (Ok (reading_news (known_of k) news))))
found_rows most name b k call s news e h = ap (λ x. option_map (fed_left b) (left_of most name k x)) e ∙ ap (λ p. Some (rows_left p)) (sym h)

-- all is as it is known
pub idle_rows : (most : ℕ) (name b : List ℕ) (k : Option Known) (call : Option Call) (rules : Rules) (known : Known) → call ≡ Some (calls.Rows (stages.Header rules)) → k ≡ Some known → IsIdle (rules_of rules (known_of k)) (header_view b)
    → option_map (fed_left b) (left_of most name k call) ≡ Some (rows_left (ret (Ok (reading_of known))))
idle_rows most name b k call rules known e is idle =
    let g = rules_of rules (known_of k) in
    let some : Some idle.reading ≡ Some (reading_of known) = sym idle.known ∙ ap known_of is in
    let same : idle.reading ≡ reading_of known = cc in
    ap (λ x. option_map (fed_left b) (left_of most name k x)) e
    ∙ ap (λ (p : Prog (Result Reading ReadError)). Some (rows_left (fed b p))) (rows_begin g)
    ∙ ap (λ (p : Prog (Result Reading ReadError)). Some (rows_left p)) (rows_given_is g b ∙ sym (attempt_settled g (g.attempts - 1) (header_view b) idle.reading idle.uncut idle.settled))
    ∙ ap (λ (r : Reading). let p : Prog (Result Reading ReadError) = ret (Ok r) in Some (rows_left p)) same
