-- What a handle holds behind the calls that begin a writer of several datasets.
use Rattle.std.proofs.Common.{◌≡◌, ◌∙◌, ℕ, suc, ◌<◌, ◌≤◌, ◌^◌, Bool, true, false, List, [], ◌∷◌, ◌++◌, length, append_assoc, append-nil, Option, Some, None, Result, Ok, Err, ap, refl, sym, subst, inl, inr, arith}
use Rattle.std.specs.Prelude.{IfOk, IfErr, OnOk}
use Rattle.std.specs.List.{AllByRecursion}
use Rattle.h5w_model.specs.Causes.{Rose}
use Rattle.h5w_model.specs.Findings.{AllSummary, AllValid}
use Rattle.h5w_model.specs.Relations.{AllPaired}
use Rattle.h5w_model.specs.Several.{Begun}
use Rattle.h5w_model.specs.declared.piece.Write.{Write}
use Rattle.h5w_options.specs.declared.options.Options.{Options}
use Rattle.h5w_creation.specs.Forms.{IsForm, a_name, created_by}
use Rattle.h5w_creation.specs.declared.form.Form.{Form}
use Rattle.h5w_creation_laws.specs.CreatedFiles.{CreatedFile}
use Rattle.h5w_creation.specs.NewFiles.{new_file}
use Rattle.h5w_looks.specs.Still.{IsStill}
use Rattle.h5w_opening.specs.Errors.{IsOpenKind}
use Rattle.h5w_opening.specs.declared.error.OpenError.{OpenError}
use Rattle.h5w_opening.specs.declared.error.OpenError.TheVariants as failing
use Rattle.h5w_several_creation.specs.Forms.{AreForms, each_by}
use Rattle.h5w_several_creation_laws.specs.SeveralFiles.{created_writes}
use Rattle.h5w_several_creating.specs.Created.{IsCreatedAll, created_file, led, shown_file}
use Rattle.h5w_several_open.specs.Begins.{ReadsIt}
use Rattle.h5w_several_open.specs.Stands.{opened_file}
use Rattle.h5w_several_writer_laws.specs.Sessions.{Sessions, all_pending}
use Rattle.h5w_several_writer_laws.specs.Standing.{StandsAll}
use Rattle.h5w_handles.specs.Codes.{misuse, no_memory, told}
use Rattle.h5w_handles.specs.declared.code.H5wCode.TheVariants as codes
use Rattle.h5w_handles.specs.declared.code.H5wTold.{H5wTold}
use Rattle.h5w_handles.specs.declared.held.Held.{Held}
use Rattle.h5w_handles.specs.declared.held.Held.TheVariants.{Several}
use Rattle.h5w_handles.specs.declared.several.SeveralState.{SeveralState}
use Rattle.h5w_writer_handles.specs.CreatedBy.{options_of}
use Rattle.h5w_writer_handles.specs.Handles.{Refuses}
use Rattle.h5w_writer_handles.specs.declared.options.H5wOptions.{H5wOptions}
use Rattle.h5w_writer_handles.proofs.HoldLemmas.{given}
use Rattle.h5w_several_handles.specs.Handles.{CreatesNamed, CreatesSet, HoldsSet, OpensNamed, OpensSet}
use Rattle.h5w_several_handles.specs.Names.{AddsForms, AreSetBounds, AreSetOptions, IsFormOf, budget_of, files_by, limit_of, names_in}
use Rattle.h5w_several_handles.specs.Sets.{HasBegunBy, IsAnswerBy, IsNewSet, IsOpenedSet, StandsOver, pending_of}
use Rattle.h5w_several_handles.proofs.PieceLemmas.{idle_behind, none_left}

-- ---- Creating

-- the form of options makes their dataset, under any name
made_as : (name : List ℕ) (o : H5wOptions) (form : Form) → IsFormOf o form → created_by name form ≡ new_file (options_of name o)
made_as name o form is = ap (λ (f : CreatedFile). record f { name = name }) is.made

by_forms : (names : List (List ℕ)) (os : List H5wOptions) (forms : List Form) → AllPaired IsFormOf os forms → each_by names forms ≡ files_by names os
by_forms [] os forms are = refl
by_forms (name ∷ names) [] [] are = refl
by_forms (name ∷ names) [] (form ∷ forms) are = absurd are
by_forms (name ∷ names) (o ∷ os) [] are = absurd are
by_forms (name ∷ names) (o ∷ os) (form ∷ forms) are =
    let own = made_as name o form are.0 in
    let rest = by_forms names os forms are.1 in
    λ i. own i ∷ rest i

forms_many : (os : List H5wOptions) (forms : List Form) → AllPaired IsFormOf os forms → length forms ≡ length os
forms_many [] [] are = refl
forms_many [] (form ∷ forms) are = absurd are
forms_many (o ∷ os) [] are = absurd are
forms_many (o ∷ os) (form ∷ forms) are = ap suc (forms_many os forms are.1)

forms_each : (os : List H5wOptions) (forms : List Form) → AllPaired IsFormOf os forms → AllByRecursion IsForm forms
forms_each [] [] are = tt
forms_each [] (form ∷ forms) are = absurd are
forms_each (o ∷ os) [] are = absurd are
forms_each (o ∷ os) (form ∷ forms) are = (are.0.is, forms_each os forms are.1)

-- a form for each name
pub forms_fit : (names : List (List ℕ)) (os : List H5wOptions) (old forms : List Form) → AreSetOptions names os → old ≡ [] → AddsForms os old forms → AreForms names forms
forms_fit names os old forms are none adds =
    let all : forms ≡ adds.forms = adds.is ∙ ap (λ (fs : List Form). fs ++ adds.forms) none in
    subst (AreForms names) (sym all) (record { many = forms_many os adds.forms adds.are ∙ are.many; each = forms_each os adds.forms adds.are })

-- one more, and those behind it
pub adds_form : (o : H5wOptions) (rest os : List H5wOptions) (options : Options) (form : Form) (old mid new : List Form) → os ≡ o ∷ rest → options ≡ options_of a_name o → IsForm form → created_by options.name form ≡ new_file options
    → mid ≡ old ++ form ∷ [] → AddsForms rest mid new → AddsForms os old new
adds_form o rest os options form old mid new all is form_is made push x =
    subst (λ (us : List H5wOptions). AddsForms us old new) (sym all) (record {
      forms = form ∷ x.forms;
      are = (record { is = form_is; made = subst (λ (p : Options). created_by p.name form ≡ new_file p) is made }, x.are);
      is = x.is ∙ ap (λ (fs : List Form). fs ++ x.forms) push ∙ append_assoc old (form ∷ []) x.forms;
    })

pub forms_added : {A E : Type 0} (o : H5wOptions) (rest os : List H5wOptions) (options : Options) (form : Form) (old mid new : List Form) (r : Result A E) → os ≡ o ∷ rest → options ≡ options_of a_name o → IsForm form
    → created_by options.name form ≡ new_file options → mid ≡ old ++ form ∷ [] → OnOk r (AddsForms rest mid new) → OnOk r (AddsForms os old new)
forms_added o rest os options form old mid new (Ok a) all is form_is made push x = adds_form o rest os options form old mid new all is form_is made push x
forms_added o rest os options form old mid new (Err e) all is form_is made push x = tt

pub forms_none : (os : List H5wOptions) (old : List Form) → os ≡ [] → AddsForms os old old
forms_none os old none = subst (λ (us : List H5wOptions). AddsForms us old old) (sym none) (record { forms = []; are = tt; is = sym (append-nil old) })

-- the limit has room for a name, and is that of options within their bounds
pub most_within : (names : List (List ℕ)) (os : List H5wOptions) → AreSetOptions names os → (limit_of os ≤ 2 ^ 40) × ((1024 ≤ budget_of os) × (budget_of os ≤ 2 ^ 30))
most_within names [] are = absurd (let some = are.counted.some in let many = are.many in omega (arith, some, many))
most_within names (o ∷ os) are = (are.options.0.limit_high, (are.options.0.budget_low, are.options.0.budget_high))

pub new_set : (names : List (List ℕ)) (os : List H5wOptions) (old forms : List Form) (limit budget : ℕ) (s : SeveralState) → old ≡ [] → AddsForms os old forms → limit ≡ limit_of os → budget ≡ budget_of os
    → s.first.items ≡ created_writes (each_by names forms) → IsCreatedAll (each_by names forms) limit budget (led s.first.items s.session) → StandsAll (led s.first.items s.session) (created_file (each_by names forms))
    → StandsAll s.session (shown_file (each_by names forms)) → all_pending s.session.parts ≡ [] → IsNewSet names os s
new_set names os old forms limit budget s none adds limit_is budget_is writes session begins stands idle =
    let all : forms ≡ adds.forms = adds.is ∙ ap (λ (fs : List Form). fs ++ adds.forms) none in
    let files : each_by names forms ≡ files_by names os = ap (each_by names) all ∙ by_forms names os adds.forms adds.are in
    record {
      writes = writes ∙ ap created_writes files;
      session =
          subst (λ (n : ℕ). IsCreatedAll (files_by names os) (limit_of os) n (led s.first.items s.session)) budget_is
          (subst (λ (n : ℕ). IsCreatedAll (files_by names os) n budget (led s.first.items s.session)) limit_is
          (subst (λ (fs : List CreatedFile). IsCreatedAll fs limit budget (led s.first.items s.session)) files session));
      begins = subst (λ (fs : List CreatedFile). StandsAll (led s.first.items s.session) (created_file fs)) files begins;
      stands = subst (λ (fs : List CreatedFile). StandsAll s.session (shown_file fs)) files stands;
      idle = idle;
    }

-- the names that there are, or else those
abbrev names_or : List (List ℕ) → Option (List (List ℕ)) → List (List ℕ)
names_or names None = names
names_or names (Some others) = others

-- a session is held, or memory is wanting
pub creates_session : (names : List (List ℕ)) (os : List H5wOptions) (s : SeveralState) (answer : H5wTold) (new : Option Held) → IsNewSet names os s → HoldsSet s answer new → CreatesNamed names os answer new
creates_session names os s answer new is (inl h) = record {
  either = inl (record {
    state = s;
    held = h.1;
    told = h.0 ∙ ap (λ (ws : List Write). told codes.Done 0 (length ws)) (idle_behind s is.idle);
    is_new = is;
  });
}
creates_session names os s answer new is (inr h) = record { either = inr h }

module _ (lens bytes : List ℕ) (os : List H5wOptions) (old : Option Held) where
  pub creates_memory : (answer : H5wTold) → old ≡ None → answer ≡ no_memory → CreatesSet lens bytes os old answer old
  creates_memory answer none is = record {
    taken = λ some. absurd (cc);
    bounds = λ e not. (inr is, e);
    created = λ names e named are. record { either = inr (is, e) };
  }

  pub creates_none : (answer : H5wTold) → old ≡ None → names_in lens bytes ≡ None → answer ≡ misuse → CreatesSet lens bytes os old answer old
  creates_none answer none absent is = record {
    taken = λ some. absurd (cc);
    bounds = λ e not. (inl is, e);
    created = λ names e named are. absurd (let clash = sym absent ∙ named in cc);
  }

  pub creates_out : (names : List (List ℕ)) (answer : H5wTold) → old ≡ None → names_in lens bytes ≡ Some names → (AreSetOptions names os → ⊥) → answer ≡ misuse → CreatesSet lens bytes os old answer old
  creates_out names answer none named out is = record {
    taken = λ some. absurd (cc);
    bounds = λ e not. (inl is, e);
    created = λ others e given are. absurd (out (subst (λ (ns : List (List ℕ)). AreSetOptions ns os) (ap (names_or names) (sym given ∙ named)) are));
  }

  pub creates_named : (names : List (List ℕ)) (answer : H5wTold) (new : Option Held) → old ≡ None → names_in lens bytes ≡ Some names → AreSetOptions names os → CreatesNamed names os answer new → CreatesSet lens bytes os old answer new
  creates_named names answer new none named are creates = record {
    taken = λ some. absurd (cc);
    bounds = λ e not. absurd (not names named are);
    created = λ others e given bounds. subst (λ (ns : List (List ℕ)). CreatesNamed ns os answer new) (ap (names_or names) (sym named ∙ given)) creates;
  }

-- ---- Opening

abbrev OpensSets : (bytes : List ℕ) (names : List (List ℕ)) → Sessions → Type 0
OpensSets bytes names S = (img : List ℕ) (t : AllSummary) (sets : List Begun) → IsStill (given bytes) img → AllValid img names t → AllPaired (ReadsIt img) names sets → StandsAll S (opened_file img sets)

pub is_opened_set : (takes : Bool) (bytes : List ℕ) (names : List (List ℕ)) (limit budget : ℕ) (r : Result Sessions OpenError) → length bytes < 2 ^ 64 → ((img : List ℕ) → IsStill (given bytes) img → IsAnswerBy takes img (length bytes) names limit budget r)
    → IfErr r IsOpenKind → (r ≡ Err failing.Failed → Rose 0 0) → IfOk r (HasBegunBy takes names limit budget) → IfOk r (OpensSets bytes names) → IsOpenedSet takes bytes names limit budget r
is_opened_set takes bytes names limit budget r short exact kinds cause begun stands =
    let still : IsStill (given bytes) bytes = record { told = refl; alone = refl; short = short } in
    record {
      exact = exact bytes still;
      kinds = kinds;
      never = λ e. let rose = cause e in absurd (omega (arith, rose));
      begun = begun;
      stands = inner r stands still;
    }
  where
    inner : (r : Result Sessions OpenError) → IfOk r (OpensSets bytes names) → IsStill (given bytes) bytes → IfOk r (StandsOver bytes names)
    inner (Ok S) f still = λ t sets valid reads. f bytes t sets still valid reads
    inner (Err e) f still = tt

-- a session is held, or memory is wanting
pub opens_session : (takes : Bool) (file : List ℕ) (names : List (List ℕ)) (limit budget : ℕ) (text : List ℕ) (S : Sessions) (s : SeveralState) (answer : H5wTold) (new : Option Held) → IsOpenedSet takes file names limit budget (Ok S) → s.session ≡ S → s.first.items ≡ [] → HoldsSet s answer new
    → OpensNamed takes file names limit budget text answer text new
opens_session takes file names limit budget text S s answer new opened session first (inl h) = record {
  either = inr (record {
    given = Ok S;
    opened = opened;
    tells = record {
      state = s;
      held = h.1;
      session = session;
      first = first;
      told = h.0 ∙ ap (λ (ws : List Write). told codes.Done 0 (length ws)) (none_left s (ap length first)) ∙ ap (λ (T : Sessions). told codes.Done 0 (length (all_pending T.parts))) session;
      line = refl;
    };
  });
}
opens_session takes file names limit budget text S s answer new opened session first (inr h) = record { either = inl (h.0, refl, h.1) }

-- the file is refused
pub opens_refused : (takes : Bool) (file : List ℕ) (names : List (List ℕ)) (limit budget : ℕ) (text : List ℕ) (e : OpenError) (answer : H5wTold) (left : List ℕ) (new : Option Held) → IsOpenedSet takes file names limit budget (Err e) → Refuses e text answer left → new ≡ None
    → OpensNamed takes file names limit budget text answer left new
opens_refused takes file names limit budget text e answer left new opened refuses held = record { either = inr (record { given = Err e; opened = opened; tells = (refuses, held) }) }

module _ (takes : Bool) (file lens bytes : List ℕ) (limit budget : ℕ) (text : List ℕ) (old : Option Held) where
  pub opens_memory : (answer : H5wTold) → old ≡ None → answer ≡ no_memory → OpensSet takes file lens bytes limit budget text old answer text old
  opens_memory answer none told = record {
    taken = λ some. absurd (cc);
    bounds = λ e not. inr (told, refl, e);
    opened = λ names e is are. record { either = inl (told, refl, e) };
  }

  pub opens_none : (answer : H5wTold) → old ≡ None → names_in lens bytes ≡ None → answer ≡ misuse → OpensSet takes file lens bytes limit budget text old answer text old
  opens_none answer none absent told = record {
    taken = λ some. absurd (cc);
    bounds = λ e not. inl (told, refl, e);
    opened = λ names e is are. absurd (let clash = sym absent ∙ is in cc);
  }

  same : (names others : List (List ℕ)) → names_in lens bytes ≡ Some names → names_in lens bytes ≡ Some others → names ≡ others
  same names others is e = ap (names_or names) (sym is ∙ e)

  pub opens_out : (names : List (List ℕ)) (answer : H5wTold) → old ≡ None → names_in lens bytes ≡ Some names → (AreSetBounds names limit budget → ⊥) → answer ≡ misuse → OpensSet takes file lens bytes limit budget text old answer text old
  opens_out names answer none is out told = record {
    taken = λ some. absurd (cc);
    bounds = λ e not. inl (told, refl, e);
    opened = λ others e given are. absurd (out (subst (λ (ns : List (List ℕ)). AreSetBounds ns limit budget) (sym (same names others is given)) are));
  }

  pub opens_named : (names : List (List ℕ)) (answer : H5wTold) (left : List ℕ) (new : Option Held) → old ≡ None → names_in lens bytes ≡ Some names → AreSetBounds names limit budget → OpensNamed takes file names limit budget text answer left new
      → OpensSet takes file lens bytes limit budget text old answer left new
  opens_named names answer left new none is are opens = record {
    taken = λ some. absurd (cc);
    bounds = λ e not. absurd (not names is are);
    opened = λ others e given bounds. subst (λ (ns : List (List ℕ)). OpensNamed takes file ns limit budget text answer left new) (same names others is given) opens;
  }
