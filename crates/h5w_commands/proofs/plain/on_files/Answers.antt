use Rattle.std.proofs.Common.{rules}
use Rattle.h5w_commands.proofs.plain.on_files.Goals as goal

pub returns-in-New : goal.returns-in-New
returns-in-New g c = λ s. search rules

pub returns-in-Check : goal.returns-in-Check
returns-in-Check g c = λ s. search rules

pub returns-in-Poll : goal.returns-in-Poll
returns-in-Poll g c = λ s. search rules

pub returns-in-Clear : goal.returns-in-Clear
returns-in-Clear g c = λ s. search rules

pub returns-in-Repack : goal.returns-in-Repack
returns-in-Repack g c = λ s. search rules
