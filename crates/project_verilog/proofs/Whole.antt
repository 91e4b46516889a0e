-- From the modules of a project's kernels to the project's text.
use Rattle.std.proofs.Common.{◌≡◌, List, sym, subst}
use Rattle.std.specs.Prelude.{ℤ}
use Rattle.std.specs.List.{All}
use Rattle.rtl_ir.specs.declared.design.Design.{Design}
use Rattle.rtl_reading.specs.Reads.{IsPortsFirst}
use Rattle.latency_table.specs.declared.table.Table.{Table}
use Rattle.manager_links.specs.declared.project.Project.{Project}
use Rattle.manager_links.specs.Links.{AreLinksOf}
use Rattle.project_netlists.specs.declared.making.ProjectNetlists.{ProjectNetlists}
use Rattle.project_netlists.specs.Netlists.{AreNetlistsOf}
use Rattle.project_netlists.specs.Scheduled.{all_times}
use Rattle.project_rtl.specs.Designs.{IsDesignOf}
use Rattle.project_rtl.specs.Kept.{AllRefine}
use Rattle.project_verilog.specs.declared.writing.ProjectText.{ProjectText}
use Rattle.project_verilog.specs.Texts.{IsPrinted, IsTextOf}
use Rattle.project_verilog.proofs.Modules.{all_refine, ports_first, text_names}
use Rattle.project_verilog.proofs.Sizes.{wires_few, bytes_few}

module _ (table : Table) (project : Project) (own : ProjectNetlists)
    (are : AreNetlistsOf table project own) (d : Design)
    (built : (times : List (List ℤ)) → AllRefine project times own.inners.items
    → All IsPortsFirst own.inners.items → AreLinksOf project times own.links
    → IsDesignOf project own.links own.inners.items times d)
  where
    -- the design is that of the project at the times of its least schedules
    pub design_is : IsDesignOf project own.links own.inners.items (all_times are.schedules) d
    design_is =
        let times = all_times are.schedules in
        let inners = own.inners.items in
        built times (all_refine table project times own.parts inners are.kernels)
        (ports_first table project.kernels times own.parts inners are.kernels) are.links

    -- its text, with what a report says
    pub text_is : (made : ProjectText) → IsPrinted d made.text.items
        → made.parts ≡ own.parts → made.links ≡ own.links
        → IsTextOf table project made
    text_is made printed parts links =
        let times = all_times are.schedules in
        let inners = own.inners.items in
        let is = design_is in
        record {
          own = own;
          netlists = are;
          parts = parts;
          links = links;
          design = d;
          printed = printed;
          is = subst (λ l. IsDesignOf project l inners times d) (sym links) is;
          wires = wires_few table project times own.parts inners are.kernels own.links d is;
          bytes =
              bytes_few table project times own.parts inners are.kernels own.links d is
              made.text.items printed;
          names =
              is.text_names (text_names table project.kernels times own.parts inners are.kernels);
        }
