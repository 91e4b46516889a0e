-- Whether a link of a project is dry or full, by its ports as they are computed.
use Rattle.std.proofs.Common.{◌≡◌, ℕ, ◌<◌, List, length, get_or, sym, subst}
use Rattle.std.specs.Prelude.{All, ℤ, slice_index}
use Rattle.manager_links.specs.declared.links.Link.{Link}
use Rattle.manager_links.specs.declared.links.Links.{Links}
use Rattle.manager_links.specs.declared.project.Project.{Project}
use Rattle.manager_links.specs.Joined.{ends_of_link}
use Rattle.manager_links.specs.Links.{AreLinksOf}
use Rattle.project_streams.specs.Balanced.{IsEvenLink}
use Rattle.project_streams.specs.declared.side.Side.{Side}
use Rattle.project_streams.specs.Ideal.{Port, IsEven, IsFirstFault, port_in}
use Rattle.project_streams.specs.Streams.{GivenProject, ProjectValues}
use Rattle.project_words.proofs.Ports.{IsLink}
use Rattle.stream_expect.specs.Ports.{IsSamePort}
use Rattle.stream_expect.proofs.Ports.{link_there}
use Rattle.stream_expect.proofs.SamePorts.{still_even, still_first}

-- what stands past the last link
abbrev pub no_link : Link
no_link = record { from = record { kernel = 0; node = 0 }; to = record { kernel = 0; node = 0 }; depth = 0 }

-- the ends of a link that was read
pub link_read : (project : Project) (times : List (List ℤ)) (made : Links) (links : List Link) (n : ℕ)
    → AreLinksOf project times made → links ≡ made.links → n < length links
    → IsLink project (ends_of_link (get_or links n no_link))
link_read project times made links n are same lt =
    subst (All (λ (link : Link). IsLink project (ends_of_link link))) (sym same) (link_there project times made are)
    n no_link lt

module _ (project : Project) (times : List (List ℤ)) (made : Links) (given : GivenProject)
    (values : ProjectValues) (starts : List ℕ) (links : List Link) (n : ℕ) (producer consumer : Port)
    (same_starts : starts ≡ made.starts) (same_links : links ≡ made.links)
    (same_producer : IsSamePort producer (port_in project times (slice_index starts) given values (get_or links n no_link).from))
    (same_consumer : IsSamePort consumer (port_in project times (slice_index starts) given values (get_or links n no_link).to)) where
  -- a link that was read has no fault
  pub even_read : IsEven producer consumer (get_or links n no_link).depth
      → IsEvenLink project times made given values (get_or made.links n no_link)
  even_read even =
      subst (λ ss. IsEven (port_in project times (slice_index ss) given values (get_or made.links n no_link).from)
      (port_in project times (slice_index ss) given values (get_or made.links n no_link).to)
      (get_or made.links n no_link).depth) same_starts
      (subst (λ ls. IsEven (port_in project times (slice_index starts) given values (get_or ls n no_link).from)
      (port_in project times (slice_index starts) given values (get_or ls n no_link).to)
      (get_or ls n no_link).depth) same_links
      (still_even producer consumer
      (port_in project times (slice_index starts) given values (get_or links n no_link).from)
      (port_in project times (slice_index starts) given values (get_or links n no_link).to)
      (get_or links n no_link).depth same_producer same_consumer even))

  -- or this is its first one
  pub first_read : (side : Side) (t : ℕ)
      → IsFirstFault producer consumer (get_or links n no_link).depth side t
      → IsFirstFault (port_in project times (slice_index made.starts) given values (get_or made.links n no_link).from)
      (port_in project times (slice_index made.starts) given values (get_or made.links n no_link).to)
      (get_or made.links n no_link).depth side t
  first_read side t first =
      subst (λ ss. IsFirstFault (port_in project times (slice_index ss) given values (get_or made.links n no_link).from)
      (port_in project times (slice_index ss) given values (get_or made.links n no_link).to)
      (get_or made.links n no_link).depth side t) same_starts
      (subst (λ ls. IsFirstFault (port_in project times (slice_index starts) given values (get_or ls n no_link).from)
      (port_in project times (slice_index starts) given values (get_or ls n no_link).to)
      (get_or ls n no_link).depth side t) same_links
      (still_first producer consumer
      (port_in project times (slice_index starts) given values (get_or links n no_link).from)
      (port_in project times (slice_index starts) given values (get_or links n no_link).to)
      (get_or links n no_link).depth side t same_producer same_consumer first))
