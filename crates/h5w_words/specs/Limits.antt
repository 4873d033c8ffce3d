-- The limits that a command asks of its job.
use Rattle.std.specs.Prelude.{◌≡◌, ◌*◌, ◌≤◌, ◌^◌, true, length}
use Rattle.h5w_options.specs.Options.{AreOptions, AreAttempts}
use Rattle.h5w_words.specs.Names.{are_link_names, are_names}
use Rattle.h5w_words.specs.declared.job.Job.{Job}
use Rattle.h5w_words.specs.declared.job.Job.TheVariants.{Play, New, Check, Poll, Clear, Make, Append, Live, Stop, Repack}

abbrev pub IsWithinLimits : Job → Type 0
IsWithinLimits (Play names options attempts) = AreOptions options × AreAttempts attempts × (are_names names ≡ true) × (1024 * length names ≤ options.limit)
IsWithinLimits (New file names options) = AreOptions options × (are_names names ≡ true) × (1024 * length names ≤ options.limit)
IsWithinLimits (Check file names) = (1 ≤ length names) × (length names ≤ 8)
IsWithinLimits (Poll file name times attempts values) = (1 ≤ times) × AreAttempts attempts
IsWithinLimits (Clear file upgrade) = Unit {0}
IsWithinLimits (Make count seed) = count ≤ 1000000
IsWithinLimits (Append file names limit budget keeps takes) = (are_link_names names ≡ true) × (1024 * length names ≤ limit) × (limit ≤ 2 ^ 40) × (1024 ≤ budget) × (budget ≤ 2 ^ 30)
IsWithinLimits (Live options readers polls attempts mirrors) = AreOptions options × AreAttempts attempts × (1 ≤ readers) × (readers ≤ 16) × (1 ≤ polls) × (polls ≤ 10000) × (mirrors ≤ 16)
IsWithinLimits (Stop options) = AreOptions options
IsWithinLimits (Repack file to names limit ranges) = (are_link_names names ≡ true) × (1024 * length names ≤ limit) × (limit ≤ 2 ^ 40)
