use Rattle.std.proofs.Common.{rules, ◌≡◌, ap, ◌∙◌, length, ◌++◌}
use Rattle.commonware_base.specs.Source.{rest_of}
use Rattle.commonware_base.proofs.Errors.{err_along}
use Rattle.commonware_base.proofs.RoundTrip.{equal_again, rest_again, only_memory}
use Rattle.commonware_base.proofs.codec.laws.round_trip.Goals as goal

pub returns-clause-equal : goal.returns-clause-equal
returns-clause-equal g c =
    let written : rest_of c.new-src.result ≡ g.T.EncodeSize.enc c.args.value.now ++ c.args.after.now = search rules in
    equal_again g.T.EncodeSize.enc g.T.EncodeSize.writable (g.T.Read.allowed c.args.cfg.now) c.args.value.now _ c.args.after.now c.requires.writable written g.T.PartialEq.eq g.met.T.EncodeSize.prefix_free g.met.T.Canonical.canonical c.in_ok-again.again _ c.in_ok-again.ensures.accepted

pub returns-clause-left : goal.returns-clause-left
returns-clause-left g c =
    let written : rest_of c.new-src.result ≡ g.T.EncodeSize.enc c.args.value.now ++ c.args.after.now = search rules in
    c.remaining.ensures ∙ ap length (rest_again g.T.EncodeSize.enc g.T.EncodeSize.writable (g.T.Read.allowed c.args.cfg.now) c.args.value.now _ c.args.after.now c.requires.writable written g.met.T.EncodeSize.prefix_free c.in_ok-again.again _ c.in_ok-again.ensures.accepted)

pub returns-in_err-again-clause-memory : goal.returns-in_err-again-clause-memory
returns-in_err-again-clause-memory g c =
    let written : rest_of c.new-src.result ≡ g.T.EncodeSize.enc c.args.value.now ++ c.args.after.now = search rules in
    err_along c.from_residual.result c.in_err-again.field-0.0 _ c.from_residual.ensures.1
    (only_memory g.T.EncodeSize.enc g.T.EncodeSize.writable (g.T.Read.allowed c.args.cfg.now) c.args.value.now _ c.args.after.now c.requires.writable written (g.T.Read.fault c.args.cfg.now) (g.met.T.Read.read_laws c.args.alloc c.args.cfg.now) c.requires.allowed _ c.in_err-again.field-0.0 c.in_err-again.ensures.refused)
