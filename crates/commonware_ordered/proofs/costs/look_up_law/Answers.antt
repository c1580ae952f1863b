use Rattle.std.proofs.Common.{◌+◌, ◌*◌, ◌≤◌, arith}
use Rattle.commonware_ordered.proofs.costs.look_up_law.Goals as goal

pub returns-clause-most : goal.returns-clause-most
returns-clause-most c = λ n old new k cost few.
    let h : 2 * new ≤ 2 * old + 3 * k + 2 = cost k few in
    omega arith

pub returns-clause-thousand : goal.returns-clause-thousand
returns-clause-thousand c = λ n old new cost few.
    let h : 2 * new ≤ 2 * old + 3 * 10 + 2 = cost 10 few in
    omega arith

pub returns-clause-any : goal.returns-clause-any
returns-clause-any c = λ n old new cost few.
    let h : 2 * new ≤ 2 * old + 3 * 64 + 2 = cost 64 few in
    omega arith

pub returns-clause-more : goal.returns-clause-more
returns-clause-more c = λ n m old new cost fewer k few. cost k (omega arith)
