use Rattle.commonware_map.proofs.map.pairs.RefMapIntoIterator.into_iter.Goals as goal

pub returns : goal.returns
returns g c = record { into_iter_gives = (c.iter_pairs.ensures.pairs, c.iter_pairs.ensures.bound, c.iter_pairs.ensures.runs, c.iter_pairs.ensures.runs_back) }
