use Rattle.h5w_commands.proofs.CompleteLemmas.{ran_whole}
use Rattle.h5w_commands.proofs.InsideLemmas.{ran_told}
use Rattle.h5w_commands.proofs.TellLemmas.{not_wanting, ran_job, ran_live, ran_outside, ran_wanting}
use Rattle.h5w_commands.proofs.program.run.Goals as goal

pub returns-in-Ok-Live-clause-inside : goal.returns-in-Ok-Live-clause-inside
returns-in-Ok-Live-clause-inside g c =
    ran_live _ c.in-Ok-Live.field-0 c.in-Ok-Live.options c.in-Ok-Live.readers c.in-Ok-Live.polls c.in-Ok-Live.attempts c.in-Ok-Live.mirrors c.live.result _ _ _ _ _ c.in-Ok-Live.ensures.ok c.in-Ok-Live.field-0-is c.live.ensures.inside

pub returns-in-Ok-clause-inside : goal.returns-in-Ok-clause-inside
returns-in-Ok-clause-inside g c = ran_job _ c.in-Ok.job _ _ _ _ _ _ _ c.in-Ok.ensures.ok c.plain-status.ensures.inside

pub returns-in-Err-Usage-clause-inside : goal.returns-in-Err-Usage-clause-inside
returns-in-Err-Usage-clause-inside g c =
    ran_outside _ _ _ _ _ _ (not_wanting c.in-Err-Usage.field-0 _ c.in-Err-Usage.field-0-is c.in-Err-Usage.ensures.usage) c.say_line.ensures

pub returns-in-Err-OutOfMemory-clause-inside : goal.returns-in-Err-OutOfMemory-clause-inside
returns-in-Err-OutOfMemory-clause-inside g c = ran_wanting _ _ _ _ _ _ c.say_line-in-Err-OutOfMemory.ensures

pub returns-in-Ok-Live-clause-completes : goal.returns-in-Ok-Live-clause-completes
returns-in-Ok-Live-clause-completes g c = ran_whole _ _ _ _ _ _ _ _ (returns-in-Ok-Live-clause-inside g c)

pub returns-in-Ok-clause-completes : goal.returns-in-Ok-clause-completes
returns-in-Ok-clause-completes g c = ran_whole _ _ _ _ _ _ _ _ (returns-in-Ok-clause-inside g c)

pub returns-in-Err-Usage-clause-completes : goal.returns-in-Err-Usage-clause-completes
returns-in-Err-Usage-clause-completes g c = ran_whole _ _ _ _ _ _ _ _ (returns-in-Err-Usage-clause-inside g c)

pub returns-in-Err-OutOfMemory-clause-completes : goal.returns-in-Err-OutOfMemory-clause-completes
returns-in-Err-OutOfMemory-clause-completes g c = ran_whole _ _ _ _ _ _ _ _ (returns-in-Err-OutOfMemory-clause-inside g c)

pub returns-in-Ok-Live-clause-ran : goal.returns-in-Ok-Live-clause-ran
returns-in-Ok-Live-clause-ran g c = ran_told _ _ _ _ _ _ _ _ (returns-in-Ok-Live-clause-inside g c)

pub returns-in-Ok-clause-ran : goal.returns-in-Ok-clause-ran
returns-in-Ok-clause-ran g c = ran_told _ _ _ _ _ _ _ _ (returns-in-Ok-clause-inside g c)

pub returns-in-Err-Usage-clause-ran : goal.returns-in-Err-Usage-clause-ran
returns-in-Err-Usage-clause-ran g c = ran_told _ _ _ _ _ _ _ _ (returns-in-Err-Usage-clause-inside g c)

pub returns-in-Err-OutOfMemory-clause-ran : goal.returns-in-Err-OutOfMemory-clause-ran
returns-in-Err-OutOfMemory-clause-ran g c = ran_told _ _ _ _ _ _ _ _ (returns-in-Err-OutOfMemory-clause-inside g c)
