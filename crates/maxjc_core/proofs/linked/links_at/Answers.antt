use Rattle.maxjc_core.proofs.linked.links_at.Goals as goal

pub link_stop-requires : goal.link_stop-requires
link_stop-requires c = record { deep = (c.args.project.now, c.args.times.now, c.in-Err.ensures.err) }

pub returns-in-Err-clause-refused : goal.returns-in-Err-clause-refused
returns-in-Err-clause-refused c =
    c.link_stop.ensures.cause c.args.project.now c.args.times.now c.in-Err.ensures.err
