-- The links of a project at the times of a report.
use Rattle.std.proofs.Common.{◌∙◌, sym, subst}
use Rattle.manager_links.specs.Links.{AreLinksOf}
use Rattle.manager_links.specs.Starts.{AreTimes}
use Rattle.maxjc_core.specs.ExpectCauses.{IsTooDeep}
use Rattle.maxjc_core.specs.CompileStops.{IfRefused}
use Rattle.maxjc_core.proofs.linked.links_of.Goals as goal

pub links_at-requires : goal.links_at-requires
links_at-requires c =
    subst (AreTimes c.args.project.now.kernels) (sym (c.as_slice.ensures ∙ c.in_ok-times.ensures))
    c.requires

pub returns-in-Ok-clause-links : goal.returns-in-Ok-clause-links
returns-in-Ok-clause-links c =
    subst (λ ts. AreLinksOf c.args.project.now ts c.in-Ok.links) c.as_slice.ensures
    c.in-Ok.ensures.links

pub returns-clause-refused : goal.returns-clause-refused
returns-clause-refused c =
    subst (λ ts. IfRefused c.in-Err.stop (IsTooDeep c.args.project.now ts))
    (c.as_slice.ensures ∙ c.in_ok-times.ensures) c.in-Err.ensures.refused
