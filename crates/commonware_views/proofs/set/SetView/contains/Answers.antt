use Rattle.std.proofs.Common.{sym, subst}
use Rattle.std.specs.Prelude.{◌↔◌, IsTrue}
use Rattle.std.specs.List.{Contains}
use Rattle.commonware_views.proofs.Found.{found_contains}
use Rattle.commonware_views.proofs.set.SetView.contains.Goals as goal

pub returns : goal.returns
returns c =
    subst (λ b. IsTrue b ↔ Contains c.args.self.now c.args.key.now) (sym c.is_some.ensures)
    (found_contains c.args.self.now c.args.key.now c.position.result c.position.ensures)
