use Rattle.std.proofs.Common.{◌≡◌, ◌+◌, ◌∙◌, ap, false, length, length-append, sym, true}
use Rattle.commonware_base.proofs.unions.union.Goals as goal

pub returns-in_err-union-clause-nothing : goal.returns-in_err-union-clause-nothing
returns-in_err-union-clause-nothing g c = λ none.
    let empty : length c.args.a.now + length c.args.b.now ≡ 0 = sym (length-append c.args.a.now c.args.b.now) ∙ ap length none in
    let never : false ≡ true = c.in_err-union.ensures.succeeds empty in absurd (cc)
