use Rattle.std.proofs.Common.{◌≤◌, arith, length, map, rules, nat_eq}
use Rattle.std.specs.Cmp.Lexicographic.{pointwise}
use Rattle.std.proofs.lemmas.Iterator.{YieldsList-from_map_by}
use Rattle.std.proofs.lemmas.Iterator.Consumers.{YieldsList-at, YieldsList-from_first}
use Rattle.commonware_map.specs.Pairs.{on_keys}
use Rattle.commonware_sequence.specs.FixedBytes.{bytes_cmp}
use Rattle.commonware_c.specs.Pairs.{pair_of}
use Rattle.commonware_c.proofs.Values.{dedup_of_drawn, some_drawn}
use Rattle.std.proofs.lemmas.List.{length-map}
use Rattle.std.proofs.lemmas.Result.{on_err_weaker}
use Rattle.commonware_c.proofs.pairs.map_of.Goals as goal

pub returns-clause-firsts : goal.returns-clause-firsts
returns-clause-firsts c =
    dedup_of_drawn (λ p. (p.0.now, p.1.now)) (on_keys (pointwise nat_eq)) (on_keys bytes_cmp) _ c.map.result _ c.from_iter_dedup.result
    (YieldsList-from_map_by _ (λ p. (p.0.now, p.1.now)) (pair_of c.args.key_size) (YieldsList-at c.map.ensures.source (YieldsList-from_first (λ k. k.now) (λ left. left) c.args.rows.now c.iter.ensures)) c.map.ensures.closure (λ x r q k. search rules))
    c.from_iter_dedup.ensures.dedup

pub returns-clause-nothing : goal.returns-clause-nothing
returns-clause-nothing c =
    let pairs = YieldsList-from_map_by _ (λ p. (p.0.now, p.1.now)) (pair_of c.args.key_size) (YieldsList-at c.map.ensures.source (YieldsList-from_first (λ k. k.now) (λ left. left) c.args.rows.now c.iter.ensures)) c.map.ensures.closure (λ x r q k. search rules) in
    on_err_weaker c.from_iter_dedup.result (λ (some : 1 ≤ length (map (pair_of c.args.key_size) c.args.rows.now)). omega (arith, some, length-map c.args.rows.now (pair_of c.args.key_size)))
    (some_drawn (λ p. (p.0.now, p.1.now)) _ c.map.result _ c.from_iter_dedup.result pairs c.from_iter_dedup.ensures.nothing)
