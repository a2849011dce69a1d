use Rattle.sz_agent.proofs.laws.a_boot_is_safe.Goals as goal

pub returns : goal.returns
returns g c old new sources outside report contract before sequence reads = (contract before sequence reads).changes
