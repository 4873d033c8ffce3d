use Rattle.std.proofs.Common.{◌≡◌, Err, rules}
use Rattle.h5w_appending.specs.declared.batching.Ending.TheVariants as endings
use Rattle.h5w_appending.proofs.AppendLemmas.{appends_broke, appends_cut, appends_some, appends_whole}
use Rattle.h5w_appending.proofs.TellLemmas.{tells_end}
use Rattle.h5w_appending.proofs.appending.append.Goals as goal

pub returns-in-Ok-clause-appends : goal.returns-in-Ok-clause-appends
returns-in-Ok-clause-appends g c = appends_whole c.args.terms.file.now c.args.name.now c.args.terms.limit c.args.terms.budget c.args.terms.keeps c.say.result c.append_all.new.text.items c.deref.result.now c.deref.ensures.value c.in-Ok.ensures.finishes c.say.ensures

pub returns-in-Err-Refused-clause-appends : goal.returns-in-Err-Refused-clause-appends
returns-in-Err-Refused-clause-appends g c =
    let is : c.append_all.result ≡ Err (endings.Refused c.in-Err-Refused.error) = search rules in
    let h = rw is at c.append_all.ensures.finishes in
    appends_some c.args.terms.file.now c.args.name.now c.args.terms.limit c.args.terms.budget c.args.terms.keeps c.in-Err-Refused.error _ c.append_all.new.text.items h c.tell.ensures

pub returns-in-Err-Disk-clause-appends : goal.returns-in-Err-Disk-clause-appends
returns-in-Err-Disk-clause-appends g c =
    let is : c.append_all.result ≡ Err endings.Disk = search rules in
    let h = rw is at c.append_all.ensures.finishes in
    appends_broke c.args.terms.file.now c.args.name.now c.args.terms.limit c.args.terms.budget c.args.terms.keeps h.rows h.first _ h.opened h.settles c.say_line.ensures

pub returns-clause-appends : goal.returns-clause-appends
returns-clause-appends g c =
    let is : c.append_all.result ≡ Err endings.Sink = search rules in
    let h = rw is at c.append_all.ensures.finishes in
    appends_cut c.args.terms.file.now c.args.name.now c.args.terms.limit c.args.terms.budget c.args.terms.keeps h.rows h.first h.opened h.settles

pub returns-in-Ok-clause-tells : goal.returns-in-Ok-clause-tells
returns-in-Ok-clause-tells g c = tells_end c.args.terms.file.now c.args.name.now c.args.terms.limit c.args.terms.budget c.args.terms.keeps _
    (appends_whole c.args.terms.file.now c.args.name.now c.args.terms.limit c.args.terms.budget c.args.terms.keeps c.say.result c.append_all.new.text.items c.deref.result.now c.deref.ensures.value c.in-Ok.ensures.finishes c.say.ensures)

pub returns-in-Err-Refused-clause-tells : goal.returns-in-Err-Refused-clause-tells
returns-in-Err-Refused-clause-tells g c =
    let is : c.append_all.result ≡ Err (endings.Refused c.in-Err-Refused.error) = search rules in
    let h = rw is at c.append_all.ensures.finishes in
    tells_end c.args.terms.file.now c.args.name.now c.args.terms.limit c.args.terms.budget c.args.terms.keeps _
    (appends_some c.args.terms.file.now c.args.name.now c.args.terms.limit c.args.terms.budget c.args.terms.keeps c.in-Err-Refused.error _ c.append_all.new.text.items h c.tell.ensures)

pub returns-in-Err-Disk-clause-tells : goal.returns-in-Err-Disk-clause-tells
returns-in-Err-Disk-clause-tells g c =
    let is : c.append_all.result ≡ Err endings.Disk = search rules in
    let h = rw is at c.append_all.ensures.finishes in
    tells_end c.args.terms.file.now c.args.name.now c.args.terms.limit c.args.terms.budget c.args.terms.keeps _
    (appends_broke c.args.terms.file.now c.args.name.now c.args.terms.limit c.args.terms.budget c.args.terms.keeps h.rows h.first _ h.opened h.settles c.say_line.ensures)

pub returns-clause-tells : goal.returns-clause-tells
returns-clause-tells g c =
    let is : c.append_all.result ≡ Err endings.Sink = search rules in
    let h = rw is at c.append_all.ensures.finishes in
    tells_end c.args.terms.file.now c.args.name.now c.args.terms.limit c.args.terms.budget c.args.terms.keeps _ (appends_cut c.args.terms.file.now c.args.name.now c.args.terms.limit c.args.terms.budget c.args.terms.keeps h.rows h.first h.opened h.settles)
