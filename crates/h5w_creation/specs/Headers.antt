-- The messages of a new file's root header.
use Rattle.std.specs.Prelude.{ℕ, List, [], ◌∷◌}
use Rattle.h5w_model.specs.Links.{link_info_bytes, group_info_bytes, link_bytes, link_info_kind, link_message_kind}
use Rattle.h5w_model.specs.declared.message.Msg.{Msg}
use Rattle.h5w_step_laws.specs.Spelled.{message}
use Rattle.h5w_creation_laws.specs.CreatedFiles.{group_info_kind}

-- link info, group info, and the link of a name to a header
abbrev pub links_to : List ℕ → ℕ → List Msg
links_to name address = message link_info_kind link_info_bytes ∷ message group_info_kind group_info_bytes ∷ message link_message_kind (link_bytes name address) ∷ []
