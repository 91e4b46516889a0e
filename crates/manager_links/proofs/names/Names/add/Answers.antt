use Rattle.manager_links.proofs.names.Names.add.Goals as goal

pub returns : goal.returns
returns c = λ other other_name.
    c.in_ok-insert.ensures.updates.0 (other, record { ref_ptr = c.args.name.ref_ptr; now = other_name })
