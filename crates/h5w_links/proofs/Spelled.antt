-- The links of a list of messages, one after another.
use Rattle.std.proofs.Common.{◌≡◌, ℕ, Bool, false, List, ◌++◌, drop}
use Rattle.h5w_model.specs.Links.{LinkFields, first_misspelt, link_list}
use Rattle.h5w_model.specs.declared.message.Msg.{Msg}

-- up to here these links were listed, and no message was misspelt
pub record SpelledTo (ms : List Msg) (i : ℕ) (seen : Bool) (links : List LinkFields) : Type 0 where
  pub misspelt : first_misspelt false ms ≡ first_misspelt seen (drop i ms)
  pub listed : links ++ link_list (drop i ms) ≡ link_list ms
