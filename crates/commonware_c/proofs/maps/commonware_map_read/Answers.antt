use Rattle.commonware_c.proofs.maps.commonware_map_read.Goals as goal

pub returns-in-Ok-clause-accepted : goal.returns-in-Ok-clause-accepted
returns-in-Ok-clause-accepted c = λ _.
    let at = c.in-Ok.ensures.found in
    (c.in-Ok.found.pairs, at.rest, at.is, c.len.ensures, at.left_is, at.keys_stand, at.values_stand)
