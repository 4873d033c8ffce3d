-- A link as contracts see it.
use Rattle.h5w_model.specs.Links.{LinkFields}
use Rattle.h5w_links.specs.declared.link.Link.{Link}

-- without where its name lies in memory
abbrev pub link_view : Link → LinkFields
link_view link = record { name = link.name.now; kind = link.kind; address = link.address }
