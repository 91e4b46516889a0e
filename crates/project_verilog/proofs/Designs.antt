-- From the laws of designs of projects to all that the design of a project is.
use Rattle.project_rtl.specs.Laws.{
  ProjectIsAccepted,
  RefinementsKeepRules,
  ProjectRuns,
  ProjectRunsOnTime,
  DesignOfProject,
}
use Rattle.project_rtl.specs.Tops.{top_module}
use Rattle.project_sizes.specs.Sized.{ProjectIsSized}

pub together : RefinementsKeepRules → ProjectIsAccepted → ProjectRuns → ProjectRunsOnTime
    → ProjectIsSized → DesignOfProject
together keep accept run on_time size project times made inners d refines first links whole =
    let sized = size project times made inners d refines first whole in
    record {
      accepted = accept project made inners d (keep project times inners refines) whole;
      top = top_module project;
      is_top = sized.is_top;
      shape = sized.shape;
      ports_first = sized.ports_first;
      runs = run project times made inners d refines whole;
      on_time = on_time project times made inners d refines links whole;
      stored = sized.stored;
      bits = sized.bits;
      nets = sized.nets;
      wires = sized.wires;
      size = sized.size;
      names = sized.names;
      text_names = sized.text_names;
    }
