-- A reader's call for rows.
use Rattle.std.proofs.Common.{◌≡◌, ◌≢◌, ℕ, zero, suc, ◌-◌, ◌<◌, ◌≤◌, Bool, true, false, cond, ltb, List, [], Option, Some, None, Result, Ok, Err, refl, sym, ◌∙◌, ap, arith, subst}
use Rattle.std.specs.Prelude.{nat_eq}
use Rattle.std.specs.Result.{IfOk}
use Rattle.std.specs.Cmp.Lexicographic.{pointwise}
use Rattle.std.proofs.lemmas.Bool.{lt-ltb, le-ltb}
use Rattle.h5w_model.specs.Programs.{Prog, ret, whole, counted, stored, bind, and_then, below_end, lowered, next_look, fed}
use Rattle.h5w_model.specs.Headers.{prefix_at, header_view}
use Rattle.h5w_model.specs.Datasets.{HeaderFields, superblock, root_header, linked, dataset_place, from_chunk_0, header_refusal, described, refused_as}
use Rattle.h5w_model.specs.Datasets as model
use Rattle.h5w_model.specs.Calls.{CallRules, cut_header, not_shrunk, again, is_settled, rows_call, open_call, open_rules, rows_seen, known_table, needed_from}
use Rattle.h5w_model.specs.Tables.{Reading}
use Rattle.h5w_model.specs.declared.message.Prefix.{Prefix}
use Rattle.h5w_model.specs.declared.root.Super.{Super}
use Rattle.h5w_model.specs.declared.refusal.HeaderError.{HeaderError}
use Rattle.h5w_model.specs.declared.refusal.ReadError.{ReadError}
use Rattle.h5w_model.specs.declared.refusal.ReadError.TheVariants as read_errors
use Rattle.h5w_lookup.specs.Looks.{plain, IsWithinLook}
use Rattle.h5w_reader.specs.Walking.{messages_of, chunk_0_rest}
use Rattle.h5w_reader.specs.Opening.{root_messages}
use Rattle.h5w_lookup.specs.Attempts.{reader_limits, described_rest, rules_of}
use Rattle.h5w_lookup.specs.declared.news.News.{News}
use Rattle.h5w_lookup.specs.declared.outcome.Outcome.{Outcome}
use Rattle.h5w_lookup.specs.declared.outcome.Outcome.TheVariants as outcomes
use Rattle.h5w_reader.specs.declared.stage.Stage.{Stage}
use Rattle.h5w_reader.specs.Calling.{came, place_rest, behind_rest, messages_rest, differs, attempt_rest, confirm_rest, confirm_given, rows_rest, rows_given}
use Rattle.h5w_laws.specs.Programs.{IsUnstored}
use Rattle.h5w_laws.proofs.AnswerLemmas.{unstored_place, unstored_dataset_messages, unstored_and_then}
use Rattle.h5w_lookup.proofs.PieceLemmas.{plain_bind, then_assoc}
use Rattle.h5w_reader.proofs.UnstoredLemmas.{unstored_plain, unstored_then, after}

-- ---- One program after another

-- a program that looks wants the same look with what follows it, and goes on as it does
pub wants_bind : {A B : Type 0} (p : Prog A) (f : A → Prog B) (l : ℕ × ℕ) → next_look p ≡ Some l → next_look (bind p f) ≡ Some l
wants_bind (ret a) f l e = absurd cc
wants_bind (whole at len next) f l e = e
wants_bind (counted at counts next) f l e = absurd cc
wants_bind (stored kind at len next) f l e = absurd cc

pub fed_bind : {A B : Type 0} (p : Prog A) (f : A → Prog B) (b : List ℕ) (l : ℕ × ℕ) → next_look p ≡ Some l → fed b (bind p f) ≡ bind (fed b p) f
fed_bind (ret a) f b l e = absurd cc
fed_bind (whole at len next) f b l e = refl
fed_bind (counted at counts next) f b l e = absurd cc
fed_bind (stored kind at len next) f b l e = absurd cc

-- a look of that length
pub fits_bind : {A B : Type 0} (p : Prog A) (f : A → Prog B) (n : ℕ) (l : ℕ × ℕ) → next_look p ≡ Some l → IsWithinLook (next_look (bind p f)) n → IsWithinLook (next_look p) n
fits_bind p f n l e h = subst (λ x. IsWithinLook x n) (wants_bind p f l e ∙ sym e) h

after_plain : {A B E : Type 0} (f : A → Prog (Result B E)) (r : Result A E) → plain (after f r) ≡ after (λ a. plain (f a)) r
unfolding after
after_plain f (Ok a) = refl
after_plain f (Err e) = refl

pub plain_then : {A B E : Type 0} (p : Prog (Result A E)) (f : A → Prog (Result B E)) → plain (and_then p f) ≡ and_then (plain p) (λ a. plain (f a))
unfolding after
plain_then {A} {B} {E} p f = plain_bind p (after f) ∙ ap (λ (k : Result A E → Prog (Result B E)). bind (plain p) k) (λ i r. after_plain f r i)

-- ---- The open

-- the place of the dataset header, by the messages of the root header
place_by : (name : List ℕ) → lowered 16 [] (dataset_place name) ≡ and_then root_messages (λ ms. ret (linked name ms))
unfolding root_messages
place_by name =
    let p : Prog (Result (List model.FoundMessage) ReadError) = and_then superblock (λ s. and_then (root_header s.root) messages_of) in
    let found : List model.FoundMessage → Prog (Result ℕ ReadError) = λ ms. ret (linked name ms) in
    let e : and_then p found ≡ dataset_place name =
    then_assoc superblock (λ s. and_then (root_header s.root) messages_of) found
    ∙ ap (λ (k : Super → Prog (Result ℕ ReadError)). and_then superblock k) (λ i s. then_assoc (root_header s.root) messages_of found i) in
    unstored_plain 16 [] (dataset_place name) (unstored_place name) ∙ ap plain (sym e) ∙ plain_then p found

abbrev at_link : ℕ → Option Reading → Result ℕ ReadError → Prog (Result Reading ReadError)
at_link most known r = elim r [ Ok at ↦ rows_call (rules_of (record { attempts = most; place = at }) known) | Err e ↦ ret (Err e) ]

pub open_is : (most : ℕ) (name : List ℕ) → and_then root_messages (place_rest most name None) ≡ open_call reader_limits 16 most name
unfolding place_rest
open_is most name =
    let go : ℕ → Prog (Result Reading ReadError) = λ at. rows_call (open_rules reader_limits 16 most at) in
    sym (ap (λ (p : Prog (Result ℕ ReadError)). and_then p go) (place_by name)
    ∙ then_assoc root_messages (λ ms. ret (linked name ms)) go)

pub rows_are : (g : CallRules) → rows_rest g ≡ rows_call g
unfolding rows_rest
rows_are g = refl

pub place_ok : (most at : ℕ) (name : List ℕ) (known : Option Reading) (ms : List model.FoundMessage) → linked name ms ≡ Ok at → place_rest most name known ms ≡ rows_rest (rules_of (record { attempts = most; place = at }) known)
unfolding place_rest rows_rest
place_ok most at name known ms e = ap (at_link most known) e

pub place_err : (most : ℕ) (name : List ℕ) (known : Option Reading) (ms : List model.FoundMessage) (f : ReadError) → linked name ms ≡ Err f → place_rest most name known ms ≡ ret (Err f)
unfolding place_rest
place_err most name known ms f e = ap (at_link most known) e

-- ---- Behind the dataset header

-- given what stands before the messages
messages_given : CallRules → List ℕ → Result Prefix HeaderError → Prog (Result HeaderFields ReadError)
messages_given g v r = elim r [
  | Ok p ↦ cond (ltb 512 p.total) (ret (Err (read_errors.Unsupported (record { 0 = 1 })))) (from_chunk_0 g.place p v)
  | Err e ↦ ret (Err (header_refusal g.place e))
]

behind_by : (g : CallRules) (v : List ℕ) → g.keeps ≡ 16 → behind_rest g v ≡ messages_rest g (plain (and_then (messages_given g v (prefix_at v)) messages_of))
unfolding behind_rest messages_given described_rest
behind_by g v kept =
    let p = messages_given g v (prefix_at v) in
    let unstored : IsUnstored p = unstored_dataset_messages g.place v in
    let rest : List model.FoundMessage → Prog (Result Reading ReadError) = λ ms.
    and_then (ret (refused_as read_errors.Unsupported (described ms))) (λ d.
    and_then (ret (not_shrunk (rows_seen g.known) d)) (λ d.
    and_then (needed_from g.limits (known_table g.known d) d) (λ t. ret (Ok (record { place = g.place; dataset = d; table = t }))))) in
    rw kept (
    ap (lowered 16 []) (then_assoc p (λ h. ret (refused_as read_errors.Unsupported (described h.messages))) (λ d.
    and_then (ret (not_shrunk (rows_seen g.known) d)) (λ d.
    and_then (needed_from g.limits (known_table g.known d) d) (λ t. ret (Ok (record { place = g.place; dataset = d; table = t })))))
    ∙ sym (then_assoc p messages_of rest))
    ∙ unstored_then 16 [] (and_then p messages_of) rest (unstored_and_then p messages_of unstored (λ h. tt)))

pub behind_ok : (g : CallRules) (v : List ℕ) (p : Prefix) → g.keeps ≡ 16 → prefix_at v ≡ Ok p → p.total ≤ 512 → behind_rest g v ≡ messages_rest g (chunk_0_rest g.place p v)
unfolding messages_given chunk_0_rest
behind_ok g v p none e small =
    behind_by g v none ∙ ap (λ r. messages_rest g (plain (and_then (messages_given g v r) messages_of))) e
    ∙ rw (le-ltb 512 p.total small) refl

pub behind_long : (g : CallRules) (v : List ℕ) (p : Prefix) → g.keeps ≡ 16 → prefix_at v ≡ Ok p → 512 < p.total → behind_rest g v ≡ ret (Err (read_errors.Unsupported (record { 0 = 1 })))
unfolding messages_given
behind_long g v p none e long =
    behind_by g v none ∙ ap (λ r. messages_rest g (plain (and_then (messages_given g v r) messages_of))) e
    ∙ rw (lt-ltb 512 p.total long) refl

pub behind_err : (g : CallRules) (v : List ℕ) (f : HeaderError) → g.keeps ≡ 16 → prefix_at v ≡ Err f → behind_rest g v ≡ ret (Err (header_refusal g.place f))
unfolding messages_given
behind_err g v f none e = behind_by g v none ∙ ap (λ r. messages_rest g (plain (and_then (messages_given g v r) messages_of))) e

-- ---- An attempt

one_given : CallRules → ℕ → List ℕ → Option ReadError → Prog (Result Reading ReadError) → Prog (Result Reading ReadError)
one_given g more v cut p = elim cut [
  | Some e ↦ ret (Err e)
  | None ↦ cond (is_settled p) p (bind p (confirm_rest g more v))
]

attempt_is : (g : CallRules) (more : ℕ) (v : List ℕ) → attempt_rest g more v ≡ one_given g more v (cut_header g.place v) (behind_rest g v)
unfolding attempt_rest one_given confirm_rest behind_rest
attempt_is g zero v = refl
attempt_is g (suc more) v = refl

pub attempt_cut : (g : CallRules) (more : ℕ) (v : List ℕ) (e : ReadError) → cut_header g.place v ≡ Some e → attempt_rest g more v ≡ ret (Err e)
unfolding one_given
attempt_cut g more v e cut = attempt_is g more v ∙ ap (λ c. one_given g more v c (behind_rest g v)) cut

attempt_whole : (g : CallRules) (more : ℕ) (v : List ℕ) (p : Prog (Result Reading ReadError)) → cut_header g.place v ≡ None → p ≡ behind_rest g v → attempt_rest g more v ≡ one_given g more v None p
attempt_whole g more v p uncut e = attempt_is g more v ∙ ap (λ c. one_given g more v c (behind_rest g v)) uncut ∙ ap (one_given g more v None) (sym e)

-- an attempt that looked at nothing but the header, and refuses nothing
pub attempt_settled : (g : CallRules) (more : ℕ) (v : List ℕ) (r : Reading) → cut_header g.place v ≡ None → ret (Ok r) ≡ behind_rest g v → ret (Ok r) ≡ attempt_rest g more v
unfolding one_given
attempt_settled g more v r uncut e = sym (attempt_whole g more v (ret (Ok r)) uncut e)

-- one that refuses
pub attempt_refused : (g : CallRules) (more : ℕ) (v : List ℕ) (f : ReadError) → cut_header g.place v ≡ None → ret (Err f) ≡ behind_rest g v → confirm_rest g more v (Err f) ≡ attempt_rest g more v
unfolding one_given
attempt_refused g more v f uncut e = sym (attempt_whole g more v (ret (Err f)) uncut e)

looking : (p : Prog (Result Reading ReadError)) (l : ℕ × ℕ) → next_look p ≡ Some l → is_settled p ≡ false
looking (ret a) l e = absurd cc
looking (whole at len next) l e = refl
looking (counted at counts next) l e = refl
looking (stored kind at len next) l e = refl

-- one that looks on
pub attempt_looks : (g : CallRules) (more : ℕ) (v : List ℕ) (p : Prog (Result Reading ReadError)) (l : ℕ × ℕ)
    → cut_header g.place v ≡ None → p ≡ behind_rest g v → next_look p ≡ Some l → bind p (confirm_rest g more v) ≡ attempt_rest g more v
unfolding one_given
attempt_looks g more v p l uncut e some =
    sym (attempt_whole g more v p uncut e ∙ ap (λ c. cond c p (bind p (confirm_rest g more v))) (looking p l some))

-- ---- The last look

pub confirm_begins : (g : CallRules) (more : ℕ) (v : List ℕ) (a : Result Reading ReadError) → confirm_rest g more v a ≡ whole g.place (below_end g.place 512) (λ b. confirm_given g more v a (header_view b))
unfolding confirm_rest confirm_given
confirm_begins g more v a = refl

confirm_by : CallRules → ℕ → List ℕ → Result Reading ReadError → List ℕ → Option ReadError → Bool → Prog (Result Reading ReadError)
confirm_by g more v a w cut same = elim cut [ Some e ↦ ret (Err e) | None ↦ cond same (ret a) (differs g more v w) ]

confirm_is : (g : CallRules) (more : ℕ) (v : List ℕ) (a : Result Reading ReadError) (w : List ℕ) → confirm_given g more v a w ≡ confirm_by g more v a w (cut_header g.place w) (pointwise nat_eq w v)
unfolding confirm_given confirm_by
confirm_is g more v a w = refl

pub confirm_cut : (g : CallRules) (more : ℕ) (v : List ℕ) (a : Result Reading ReadError) (w : List ℕ) (e : ReadError) → cut_header g.place w ≡ Some e → ret (Err e) ≡ confirm_given g more v a w
unfolding confirm_by
confirm_cut g more v a w e cut = sym (confirm_is g more v a w ∙ ap (λ c. confirm_by g more v a w c (pointwise nat_eq w v)) cut)

confirm_whole : (g : CallRules) (more : ℕ) (v : List ℕ) (a : Result Reading ReadError) (w : List ℕ) (same : Bool) → cut_header g.place w ≡ None → pointwise nat_eq w v ≡ same
    → confirm_given g more v a w ≡ cond same (ret a) (differs g more v w)
unfolding confirm_by
confirm_whole g more v a w same uncut e =
    confirm_is g more v a w ∙ ap (λ c. confirm_by g more v a w c (pointwise nat_eq w v)) uncut ∙ ap (confirm_by g more v a w None) e

pub confirm_same : (g : CallRules) (more : ℕ) (v : List ℕ) (a : Result Reading ReadError) (w : List ℕ) → cut_header g.place w ≡ None → pointwise nat_eq w v ≡ true → ret a ≡ confirm_given g more v a w
confirm_same g more v a w uncut e = sym (confirm_whole g more v a w true uncut e)

pub confirm_again : (g : CallRules) (more : ℕ) (v : List ℕ) (a : Result Reading ReadError) (w : List ℕ) → cut_header g.place w ≡ None → pointwise nat_eq w v ≡ false → more ≡ 0 → ret (Err (again g v w)) ≡ confirm_given g more v a w
confirm_again g more v a w uncut e none = sym (confirm_whole g more v a w false uncut e ∙ ap (λ n. differs g n v w) none)

differs_next : (g : CallRules) (more less : ℕ) (v w : List ℕ) → more ≡ suc less → attempt_rest g less w ≡ differs g more v w
unfolding attempt_rest
differs_next g more less v w e = ap (λ n. differs g n v w) (sym e)

pub confirm_next : (g : CallRules) (more less : ℕ) (v : List ℕ) (a : Result Reading ReadError) (w : List ℕ) → cut_header g.place w ≡ None → pointwise nat_eq w v ≡ false → (more ≡ 0 → ⊥) → less ≡ more - 1
    → attempt_rest g less w ≡ confirm_given g more v a w
confirm_next g more less v a w uncut e some down =
    let n : more ≡ suc less = omega arith in
    differs_next g more less v w n ∙ sym (confirm_whole g more v a w false uncut e)

-- ---- The first look

pub rows_begin : (g : CallRules) → rows_rest g ≡ whole g.place (below_end g.place 512) (rows_given g)
unfolding rows_rest rows_given attempt_rest
rows_begin g = refl

pub rows_given_is : (g : CallRules) (b : List ℕ) → rows_given g b ≡ attempt_rest g (g.attempts - 1) (header_view b)
unfolding rows_given
rows_given_is g b = refl

-- ---- A refusal that may be want of memory

-- one that is none is the answer
pub refused_is : {E : Type 0} (most : ℕ) (name : List ℕ) (known : Option Reading) (r : Result (Outcome News Stage) E) (f : ReadError) (p : Prog (Result Reading ReadError))
    → IfOk r (λ c. c ≡ outcomes.Refused f) → IfOk r (λ c. f ≢ read_errors.OutOfMemory) → (f ≢ read_errors.OutOfMemory → p ≡ ret (Err f))
    → IfOk r (λ c. came most name known c ≡ p)
refused_is most name known (Ok c) f p h other e = ap (came most name known) h ∙ sym (e other)
refused_is most name known (Err g) f p h other e = h
