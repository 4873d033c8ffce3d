use Rattle.h5w_several_handles.proofs.HoldLemmas.{forms_added, forms_none}
use Rattle.h5w_several_handles.proofs.ListLemmas.{empty_of}
use Rattle.h5w_several_handles.proofs.opening.+add_forms.Goals as goal

pub returns-in-None : goal.returns-in-None
returns-in-None t c = forms_none c.args.options.now c.args.forms.now.items (empty_of c.args.options.now c.in-None.ensures.cases)

pub returns-in_ok-push-in-Some : goal.returns-in_ok-push-in-Some
returns-in_ok-push-in-Some t c =
    forms_added c.in-Some.o.now c.in-Some.rest.now c.args.options.now c.in_ok-one-in-Some.one c.form_of.result c.args.forms.now.items c.push.new.self.items c.add_forms.new.forms.items c.add_forms.result c.in-Some.ensures.cases.0
    c.in_ok-one-in-Some.ensures c.form_of.ensures.form c.form_of.ensures.file c.in_ok-push-in-Some.ensures.items c.add_forms.ensures
