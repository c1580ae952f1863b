use Rattle.commonware_utils.specs.Ordered.{EqualsSameItems, IsDedup}
use Rattle.judge_verdicts.proofs.Results.{if_ok_so}
use Rattle.judge_verdicts.proofs.Taken.{made_of_list}
use Rattle.judge_verdicts.proofs.sets.dedup_set.Goals as goal

pub returns : goal.returns
returns g c =
    let eq = g.T.PartialEq.eq in
    let cmp = g.T.Ord.cmp in
    if_ok_so _ _ c.from_iter_dedup.result (λ set both. both.0) (made_of_list (λ xs set. IsDedup eq cmp xs set × EqualsSameItems eq cmp xs set) c.args.items c.from_iter_dedup.result c.from_iter_dedup.ensures.dedup)
